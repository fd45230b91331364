-- What a kept copy answers is what the walk answers, while the rule is kept.
use Rattle.std.proofs.Common.{◌≡◌, ◌∙◌, ℕ, Bool, true, false, List, ◌∷◌, Option, Some, None, refl, ap, sym, subst}
use Rattle.std.specs.Prelude.{◌==◌, ◌&&◌, not, if◌then◌else◌}
use Rattle.std.proofs.lemmas.Bool.Decides.{Decides-eqb}
use Rattle.svm_model.specs.Turn.Course.{Told, Accessed, told_of}
use Rattle.svm_model.specs.Memory.NestedPaging.{as_nested, walked_over}
use Rattle.svm_model.specs.Memory.PageTables.{walked}
use Rattle.svm_model.specs.declared.names.Access.{Access}
use Rattle.svm_model.specs.declared.names.Frame.{Frame}
use Rattle.svm_model.specs.declared.names.Kind.{Kind}
use Rattle.svm_model.specs.declared.names.Kind.TheVariants.{Read, Write, Fetch}
use Rattle.svm_model.specs.declared.page_tables.Leaf.{Leaf as FoundLeaf}
use Rattle.svm_model.specs.declared.page_tables.Nested.{Nested}
use Rattle.svm_model.specs.declared.page_tables.Nested.TheVariants.{Leaf, Bar, PageFault, NestedFault, Ended}
use Rattle.svm_model.specs.declared.page_tables.Outer.{Outer}
use Rattle.svm_model.specs.declared.page_tables.Outer.TheVariants.{Direct, Tables}
use Rattle.svm_model.specs.declared.page_tables.PageSize.{PageSize}
use Rattle.svm_model.specs.declared.page_tables.PageSize.TheVariants.{Small, Large, Huge}
use Rattle.svm_model.specs.declared.page_tables.Paging.{Paging}
use Rattle.svm_model.specs.declared.page_tables.Pass.{Pass}
use Rattle.svm_model.specs.declared.page_tables.Walked.{Walked}
use Rattle.svm_model.specs.declared.page_tables.Walked.TheVariants as walk
use Rattle.svm_model.specs.declared.turns.Space.{Space}
use Rattle.svm_model.proofs.NestedLemmas.{SaysUnchanged, unchanged-nested}
use Rattle.svm_model.proofs.WalkLemmas.{unchanged-walked}
use Rattle.one_copy.specs.Recalls.{is_bool, is_kind, is_same, frames_of, is_leaf, leaf_in, recalled, finds, agrees, keeps, leaf_for, Stands}
use Rattle.one_copy.specs.declared.kept.Kept.{Kept}

and_first : (a b : Bool) → (a && b) ≡ true → a ≡ true
and_first true b e = refl
and_first false b e = absurd (cc)

and_next : (a b : Bool) → (a && b) ≡ true → b ≡ true
and_next true b e = e
and_next false b e = absurd (cc)

not_true : (a : Bool) → not a ≡ true → a ≡ false
not_true true e = absurd (cc)
not_true false e = refl

-- equal by test is equal
bool_is : (a b : Bool) → is_bool a b ≡ true → a ≡ b
bool_is true true e = refl
bool_is true false e = absurd (cc)
bool_is false true e = absurd (cc)
bool_is false false e = refl

kind_is : (a b : Kind) → is_kind a b ≡ true → a ≡ b
kind_is Read Read e = refl
kind_is Read Write e = absurd (cc)
kind_is Read Fetch e = absurd (cc)
kind_is Write Read e = absurd (cc)
kind_is Write Write e = refl
kind_is Write Fetch e = absurd (cc)
kind_is Fetch Read e = absurd (cc)
kind_is Fetch Write e = absurd (cc)
kind_is Fetch Fetch e = refl

size_is : (a b : PageSize) → (frames_of a == frames_of b) ≡ true → a ≡ b
size_is Small Small e = refl
size_is Small Large e = absurd (cc)
size_is Small Huge e = absurd (cc)
size_is Large Small e = absurd (cc)
size_is Large Large e = refl
size_is Large Huge e = absurd (cc)
size_is Huge Small e = absurd (cc)
size_is Huge Large e = absurd (cc)
size_is Huge Huge e = refl

number_is : (a b : ℕ) → (a == b) ≡ true → a ≡ b
number_is a b e = (Decides-eqb a b).0 e

abbrev access_made : ℕ → Kind → Bool → Access
access_made page kind user = record { page = record { 0 = page }; kind = kind; user = user }

access_is : (page other_page : ℕ) (kind other_kind : Kind) (user other_user : Bool) → page ≡ other_page → kind ≡ other_kind → user ≡ other_user
    → access_made page kind user ≡ access_made other_page other_kind other_user
access_is page other_page kind other_kind user other_user in_page in_kind in_user = cc

same_is : (asid : ℕ) (access : Access) (other_asid : ℕ) (other : Access) → is_same asid access other_asid other ≡ true → (asid ≡ other_asid) × (access ≡ other)
same_is asid access other_asid other e =
    let to_kind = and_first _ (is_bool access.user other.user) e in
    let to_page = and_first _ (is_kind access.kind other.kind) to_kind in
    let user = bool_is access.user other.user (and_next _ _ e) in
    let kind = kind_is access.kind other.kind (and_next _ _ to_kind) in
    let page = number_is access.page.0 other.page.0 (and_next _ _ to_page) in
    let same_asid = number_is asid other_asid (and_first _ _ to_page) in
    (same_asid, access_is access.page.0 other.page.0 access.kind other.kind access.user other.user page kind user)

abbrev leaf_made : ℕ → PageSize → Bool → Bool → Bool → Bool → Bool → FoundLeaf
leaf_made frame size global writable user executable dirty =
    record { frame = record { 0 = frame }; size = size; global = global; writable = writable; user = user; executable = executable; dirty = dirty }

fields_are : (f g : ℕ) (s t : PageSize) (a b c d e v w x y z : Bool) → f ≡ g → s ≡ t → a ≡ v → b ≡ w → c ≡ x → d ≡ y → e ≡ z
    → leaf_made f s a b c d e ≡ leaf_made g t v w x y z
fields_are f g s t a b c d e v w x y z in_frame in_size in_global in_writable in_user in_executable in_dirty = cc

leaf_is : (leaf other : FoundLeaf) → is_leaf leaf other ≡ true → leaf ≡ other
leaf_is leaf other e =
    let to_executable = and_first _ (is_bool leaf.dirty other.dirty) e in
    let to_user = and_first _ (is_bool leaf.executable other.executable) to_executable in
    let to_writable = and_first _ (is_bool leaf.user other.user) to_user in
    let to_global = and_first _ (is_bool leaf.writable other.writable) to_writable in
    let to_size = and_first _ (is_bool leaf.global other.global) to_global in
    let dirty = bool_is leaf.dirty other.dirty (and_next _ _ e) in
    let executable = bool_is leaf.executable other.executable (and_next _ _ to_executable) in
    let user = bool_is leaf.user other.user (and_next _ _ to_user) in
    let writable = bool_is leaf.writable other.writable (and_next _ _ to_writable) in
    let global = bool_is leaf.global other.global (and_next _ _ to_global) in
    let size = size_is leaf.size other.size (and_next _ _ to_size) in
    let frame = number_is leaf.frame.0 other.frame.0 (and_first _ _ to_size) in
    fields_are leaf.frame.0 other.frame.0 leaf.size other.size leaf.global leaf.writable leaf.user leaf.executable leaf.dirty other.global other.writable other.user other.executable other.dirty
    frame size global writable user executable dirty

frame_is : (f g : Frame) → f.0 ≡ g.0 → f ≡ g
frame_is f g e = ap (λ (n : ℕ). record { 0 = n }) e

same_answer : (leaf found : FoundLeaf) (f g : Frame) (changed : Bool) → leaf ≡ found → f ≡ g → changed ≡ false → Leaf found g changed ≡ Leaf leaf f false
same_answer leaf found f g changed e h k = cc

finds_is : (leaf : FoundLeaf) (answer : Nested) → finds leaf answer ≡ true → answer ≡ Leaf leaf leaf.frame false
finds_is leaf (Leaf found guest_frame changed) e =
    let to_frame = and_first (is_leaf leaf found && (leaf.frame.0 == guest_frame.0)) _ e in
    let same = leaf_is leaf found (and_first _ _ to_frame) in
    let frame = frame_is leaf.frame guest_frame (number_is _ _ (and_next (is_leaf leaf found) _ to_frame)) in
    let kept = not_true changed (and_next (is_leaf leaf found && (leaf.frame.0 == guest_frame.0)) _ e) in
    same_answer leaf found leaf.frame guest_frame changed same frame kept
finds_is leaf (Bar found changed) e = absurd (cc)
finds_is leaf (PageFault code) e = absurd (cc)
finds_is leaf (NestedFault code address) e = absurd (cc)
finds_is leaf (Ended outside) e = absurd (cc)

-- what a choice gives says which way it went
some_if : (b : Bool) (leaf found : FoundLeaf) → (if b then Some leaf else None) ≡ Some found → (b ≡ true) × (leaf ≡ found)
some_if true leaf found e = (refl, cc)
some_if false leaf found e = absurd (cc)

then_if : (b : Bool) (first second found : Option FoundLeaf) → b ≡ true → first ≡ found → (if b then first else second) ≡ found
then_if true first second found e k = k
then_if false first second found e k = absurd (cc)

-- a kept leaf is recalled for its access
recalled_kept : (kept : Option Kept) (asid : ℕ) (access : Access) (leaf : FoundLeaf) (history : List Told) → leaf_for kept asid access ≡ Some leaf → Stands kept history → recalled history asid access ≡ Some leaf
recalled_kept None asid access leaf history e stands = absurd (cc)
recalled_kept (Some kept) asid access leaf history e stands =
    let known = some_if (is_same kept.asid kept.access asid access) kept.leaf leaf e in
    let same = same_is kept.asid kept.access asid access known.0 in
    subst (λ (l : FoundLeaf). recalled history asid access ≡ Some l) known.1
    (subst (λ (x : Access). recalled history asid x ≡ Some kept.leaf) same.1 (subst (λ (x : ℕ). recalled history x kept.access ≡ Some kept.leaf) same.0 stands))

-- so the walk finds it
found_again : (kept : Option Kept) (asid : ℕ) (write_protect : Bool) (access : Access) (leaf : FoundLeaf) (history : List Told) (answer : Nested) (passed : List Pass)
    → leaf_for kept asid access ≡ Some leaf → Stands kept history → keeps history (Accessed asid write_protect access answer passed) ≡ true → answer ≡ Leaf leaf leaf.frame false
unfolding keeps
found_again kept asid write_protect access leaf history answer passed e stands keep =
    finds_is leaf answer (subst (λ (o : Option FoundLeaf). agrees o answer ≡ true) (recalled_kept kept asid access leaf history e stands) keep)

-- and it is recalled again
stands_again : (kept : Option Kept) (asid : ℕ) (write_protect : Bool) (access : Access) (leaf : FoundLeaf) (history : List Told) (answer : Nested) (passed : List Pass)
    → leaf_for kept asid access ≡ Some leaf → answer ≡ Leaf leaf leaf.frame false → Stands kept (Accessed asid write_protect access answer passed ∷ history)
stands_again None asid write_protect access leaf history answer passed e found = absurd (cc)
stands_again (Some kept) asid write_protect access leaf history answer passed e found =
    let known = some_if (is_same kept.asid kept.access asid access) kept.leaf leaf e in
    then_if _ _ _ _ known.0 (ap leaf_in found ∙ ap Some (sym known.1))

as_walked : (w : Walked) (leaf : FoundLeaf) (frame : Frame) → as_nested w ≡ Leaf leaf frame false → w ≡ walk.Leaf leaf false
as_walked (walk.Leaf found changed) leaf frame e = cc
as_walked (walk.PageFault code) leaf frame e = absurd (cc)
as_walked (walk.Ended outside) leaf frame e = absurd (cc)

unchanged-over : (outer : Outer) (memory : List ℕ) (paging : Paging) (access : Access) (leaf : FoundLeaf) → (walked_over outer memory paging access).answer ≡ Leaf leaf leaf.frame false → (walked_over outer memory paging access).memory ≡ memory
unchanged-over Direct memory paging access leaf e = unchanged-walked memory paging access leaf (as_walked (walked memory paging access).0 leaf leaf.frame e)
unchanged-over (Tables n) memory paging access leaf e = unchanged-nested n memory paging access (subst SaysUnchanged (sym e) refl)

-- a hit is the answer of the walk, which leaves memory as it was
pub record Hits (kept : Option Kept) (space : Space) (memory : List ℕ) (access : Access) (history : List Told) (leaf : FoundLeaf) : Type 0 where
  pub answer : Leaf leaf leaf.frame false ≡ (walked_over space.outer memory space.paging access).answer
  pub memory_is : memory ≡ (walked_over space.outer memory space.paging access).memory
  pub stands_after : Stands kept (told_of space memory access ∷ history)

pub hit : (kept : Option Kept) (space : Space) (memory : List ℕ) (access : Access) (history : List Told) (leaf : FoundLeaf)
    → leaf_for kept space.asid access ≡ Some leaf → Stands kept history → keeps history (told_of space memory access) ≡ true → Hits kept space memory access history leaf
hit kept space memory access history leaf e stands keep =
    let reached = walked_over space.outer memory space.paging access in
    let found = found_again kept space.asid space.paging.write_protect access leaf history reached.answer reached.passes e stands keep in
    record {
      answer = sym found;
      memory_is = sym (unchanged-over space.outer memory space.paging access leaf found);
      stands_after = stands_again kept space.asid space.paging.write_protect access leaf history reached.answer reached.passes e found;
    }
