-- What a history recalls of an access, and when a copy of that may serve.
use Rattle.std.specs.Prelude.{◌≡◌, ℕ, ◌==◌, ◌&&◌, ◌||◌, not, Bool, true, false, if◌then◌else◌, List, [], ◌∷◌, Option, Some, None}
use Rattle.svm_model.specs.Turn.Course.{Told, Accessed, Flushed, Found, Left}
use Rattle.svm_model.specs.Memory.PageEntries.{is_write, is_fetch}
use Rattle.svm_model.specs.declared.names.Access.{Access}
use Rattle.svm_model.specs.declared.names.Kind.{Kind}
use Rattle.svm_model.specs.declared.names.Kind.TheVariants.{Read, Write, Fetch}
use Rattle.svm_model.specs.declared.page_tables.Leaf.{Leaf as FoundLeaf}
use Rattle.svm_model.specs.declared.page_tables.PageSize.{PageSize}
use Rattle.svm_model.specs.declared.page_tables.PageSize.TheVariants.{Small, Large, Huge}
use Rattle.svm_model.specs.declared.page_tables.Nested.{Nested}
use Rattle.svm_model.specs.declared.page_tables.Nested.TheVariants.{Leaf, Bar, PageFault, NestedFault, Ended}
use Rattle.one_copy.specs.declared.kept.Kept.{Kept}

-- both are true, or both are false
abbrev pub is_bool : Bool → Bool → Bool
is_bool true other = other
is_bool false other = not other

-- the same kind of access
abbrev pub is_kind : Kind → Kind → Bool
is_kind Read other = not (is_write other || is_fetch other)
is_kind Write other = is_write other
is_kind Fetch other = is_fetch other

-- the same access, in the same address space
abbrev pub is_same : ℕ → Access → ℕ → Access → Bool
is_same asid access other_asid other =
    (asid == other_asid) && (access.page.0 == other.page.0) && is_kind access.kind other.kind && is_bool access.user other.user

-- how many frames a page has
abbrev pub frames_of : PageSize → ℕ
frames_of Small = 1
frames_of Large = 512
frames_of Huge = 262144

-- the same translation
abbrev pub is_leaf : FoundLeaf → FoundLeaf → Bool
is_leaf leaf other =
    (leaf.frame.0 == other.frame.0) && (frames_of leaf.size == frames_of other.size) && is_bool leaf.global other.global
    && is_bool leaf.writable other.writable && is_bool leaf.user other.user && is_bool leaf.executable other.executable && is_bool leaf.dirty other.dirty

-- the leaf that a walk found, if it found one
abbrev pub leaf_in : Nested → Option FoundLeaf
leaf_in (Leaf leaf guest_frame changed) = Some leaf
leaf_in (Bar leaf changed) = None
leaf_in (PageFault code) = None
leaf_in (NestedFault code address) = None
leaf_in (Ended outside) = None

-- the leaf that was found when the access was last told of; none where it was not told of since a flush, or found none then
abbrev pub recalled : List Told → ℕ → Access → Option FoundLeaf
recalled [] asid access = None
recalled (Accessed told_asid write_protect told answer passed ∷ history) asid access =
    if is_same asid access told_asid told then leaf_in answer else recalled history asid access
recalled (Flushed flush ∷ history) asid access = None
recalled (Found vmcb entering found ∷ history) asid access = recalled history asid access
recalled (Left vmcb stored ∷ history) asid access = recalled history asid access

-- the walk finds this very leaf, and sets no bit
abbrev pub finds : FoundLeaf → Nested → Bool
finds leaf (Leaf found guest_frame changed) = is_leaf leaf found && (leaf.frame.0 == guest_frame.0) && not changed
finds leaf (Bar found changed) = false
finds leaf (PageFault code) = false
finds leaf (NestedFault code address) = false
finds leaf (Ended outside) = false

-- a leaf that is recalled is found again
abbrev pub agrees : Option FoundLeaf → Nested → Bool
agrees None answer = true
agrees (Some leaf) answer = finds leaf answer

-- The rule: an access for which a leaf is recalled finds it again, and sets no bit.
unfoldable pub keeps : List Told → Told → Bool
keeps history (Accessed asid write_protect access answer passed) = agrees (recalled history asid access) answer
keeps history (Flushed flush) = true
keeps history (Found vmcb entering found) = true
keeps history (Left vmcb stored) = true

-- the kept leaf, where it was found for this access
abbrev pub leaf_for : Option Kept → ℕ → Access → Option FoundLeaf
leaf_for None asid access = None
leaf_for (Some kept) asid access = if is_same kept.asid kept.access asid access then Some kept.leaf else None

-- what is kept is what the history recalls
abbrev pub Stands : Option Kept → List Told → Type 0
Stands None history = Unit {0}
Stands (Some kept) history = recalled history kept.asid kept.access ≡ Some kept.leaf
