-- What the map of spaces keeps where one space changes.
use Rattle.std.proofs.Common.{true≢false, ◌≡◌, ◌⊎◌, inl, inr, ℕ, ◌==◌, Bool, true, false, not, ◌&&◌, cond, List, [], ◌∷◌, ◌++◌, sym, refl, ap, ◌∙◌, subst, Some, if◌then◌else◌, Result, Ok, Err, OnOk}
use Rattle.std.specs.BTreeMap.{get, is_at}
use Rattle.std.specs.Bool.{beq}
use Rattle.std.specs.List.{list_any}
use Rattle.std.specs.Ordering.{is_eq}
use Rattle.svm_model.specs.Audit.Records.{covers}
use Rattle.svm_model.specs.Machine.Events.{is_vcpu}
use Rattle.svm_model.specs.declared.names.VcpuId.{VcpuId}
use Rattle.svm_model.specs.declared.page_tables.Leaf.{Leaf}
use Rattle.svm_model.specs.declared.system.Flush.{Flush}
use Rattle.svm_model.specs.declared.system.Flush.TheVariants.{Local, Asid, Page, All, Whole}
use Rattle.rule_memory.specs.Kept.{IsHugeKnownAt, Pages, Translations, kept_at, kept_in, kept_of, record_at, spaces, uncovered, uncovered_in}
use Rattle.rule_memory.specs.Leaves.{is_huge}
use Rattle.rule_memory.specs.Places.{owner_of, same_place, same_space, space_of}
use Rattle.rule_memory.specs.declared.places.Place.{Place}
use Rattle.rule_memory.specs.declared.places.Space.{Space}
use Rattle.rule_memory.proofs.FlushLemmas.{all_covered, huge_left, none_covered}
use Rattle.rule_memory.proofs.Orders.{equal_from_is_eq, exact_spaces, order_itself}
use Rattle.rule_memory.proofs.StandLemmas.{same_number, space_from_same}

same_bool : (b : Bool) → beq b b ≡ true
same_bool true = refl
same_bool false = refl

pub same_itself : (a : Space) → same_space a a ≡ true
same_itself a = rw (same_number a.asid) (rw (same_bool a.nested) (rw (same_number a.guest) (same_number a.vcpu)))

at_itself : (a b : Space) → same_space a b ≡ true → is_at (spaces b) a ≡ true
at_itself a b e = subst (λ s. is_at (spaces s) a ≡ true) (space_from_same a b e) (ap is_eq (order_itself a))

at_other : (a b : Space) → same_space a b ≡ false → is_at (spaces b) a ≡ false
at_other a b e = by (is_at (spaces b) a) refl where
  by : (c : Bool) → is_at (spaces b) a ≡ c → is_at (spaces b) a ≡ false
  by true h = absurd (true≢false (sym (same_itself a) ∙ ap (same_space a) (sym (exact_spaces b a (equal_from_is_eq _ h))) ∙ e))
  by false h = h

-- one space has other pages
module _ (old new : Translations) (space : Space) (after : Pages) (now : (q : Space) → get spaces new q ≡ cond (is_at (spaces space) q) (Some after) (get spaces old q)) where
  space_by : (g : ℕ → List Leaf) → ((page : ℕ) → kept_of after page ≡ g page) → (p : Place) (b : Bool) → same_space p.space space ≡ b → kept_at new p ≡ (if b then g p.page else kept_at old p)
  space_by g h p true e =
      ap (λ o. kept_in o p.page) (now p.space ∙ ap (λ b. cond b (Some after) (get spaces old p.space)) (at_itself p.space space e)) ∙ h p.page
  space_by g h p false e =
      ap (λ o. kept_in o p.page) (now p.space ∙ ap (λ b. cond b (Some after) (get spaces old p.space)) (at_other p.space space e))

  pub in_space : (g : ℕ → List Leaf) → ((page : ℕ) → kept_of after page ≡ g page) → (p : Place) → kept_at new p ≡ (if same_space p.space space then g p.page else kept_at old p)
  in_space g h p = space_by g h p (same_space p.space space) refl

-- A leaf is appended.

appended_by : (old : Translations) (place p : Place) (leaf : Leaf) (here there : Bool) → (p.page == place.page) ≡ here → same_space p.space place.space ≡ there
    → (if there then (if here then kept_at old place ++ leaf ∷ [] else kept_in (get spaces old place.space) p.page) else kept_at old p)
    ≡ (if here && there then kept_at old place ++ leaf ∷ [] else kept_at old p)
appended_by old place p leaf true true e h = refl
appended_by old place p leaf true false e h = refl
appended_by old place p leaf false true e h = ap (λ s. kept_in (get spaces old s) p.page) (sym (space_from_same p.space place.space h))
appended_by old place p leaf false false e h = refl

pub appended : (old new : Translations) (place : Place) (after : Pages) (leaf : Leaf)
    → ((q : Space) → get spaces new q ≡ cond (is_at (spaces place.space) q) (Some after) (get spaces old q))
    → ((page : ℕ) → kept_of after page ≡ (if page == place.page then kept_at old place ++ leaf ∷ [] else kept_in (get spaces old place.space) page))
    → (p : Place) → kept_at new p ≡ (if same_place p place then kept_at old place ++ leaf ∷ [] else kept_at old p)
appended old new place after leaf now h p =
    in_space old new place.space after now (λ page. if page == place.page then kept_at old place ++ leaf ∷ [] else kept_in (get spaces old place.space) page) h p
    ∙ appended_by old place p leaf (p.page == place.page) (same_space p.space place.space) refl refl

-- A flush.

flushed_by : (old : Translations) (space : Space) (flush : Flush) (p : Place) (b : Bool) → same_space p.space space ≡ b
    → (if b then uncovered_in space flush p.page (kept_in (get spaces old space) p.page) else kept_at old p) ≡ (if b then uncovered_in space flush p.page (kept_at old p) else kept_at old p)
flushed_by old space flush p true e = ap (λ s. uncovered_in space flush p.page (kept_in (get spaces old s) p.page)) (sym (space_from_same p.space space e))
flushed_by old space flush p false e = refl

pub space_flushed : (old new : Translations) (space : Space) (after : Pages) (flush : Flush)
    → ((q : Space) → get spaces new q ≡ cond (is_at (spaces space) q) (Some after) (get spaces old q))
    → ((page : ℕ) → kept_of after page ≡ uncovered_in space flush page (kept_in (get spaces old space) page))
    → (p : Place) → kept_at new p ≡ (if same_space p.space space then uncovered_in space flush p.page (kept_at old p) else kept_at old p)
space_flushed old new space after flush now h p =
    in_space old new space after now (λ page. uncovered_in space flush page (kept_in (get spaces old space) page)) h p
    ∙ flushed_by old space flush p (same_space p.space space) refl

-- what is left of a space
abbrev pub left_of : Space → Flush → Place → List Leaf → List Leaf
left_of space flush p leaves = if same_space p.space space then uncovered_in space flush p.page leaves else leaves

huge_by : (space : Space) (flush : Flush) (page : ℕ) (leaves : List Leaf) (b : Bool) → list_any is_huge leaves ≡ false → list_any is_huge (if b then uncovered_in space flush page leaves else leaves) ≡ false
huge_by space flush page leaves true e = huge_left _ leaves e
huge_by space flush page leaves false e = e

-- the pages of 1 GiB that were known stay known
pub huge_behind : (huge : Bool) (old new : Translations) (space : Space) (flush : Flush) → ((p : Place) → kept_at new p ≡ left_of space flush p (kept_at old p)) → IsHugeKnownAt huge old → IsHugeKnownAt huge new
huge_behind huge old new space flush h known none p = ap (list_any is_huge) (h p) ∙ huge_by space flush p.page (kept_at old p) (same_space p.space space) (known none p)

pub huge_uncovered : (huge : Bool) (old new : Translations) (vcpu : VcpuId) (flush : Flush) → ((p : Place) → kept_at new p ≡ uncovered vcpu flush p (kept_at old p)) → IsHugeKnownAt huge old → IsHugeKnownAt huge new
huge_uncovered huge old new vcpu flush h known none p = ap (list_any is_huge) (h p) ∙ huge_by p.space flush p.page (kept_at old p) (is_vcpu (owner_of p.space) vcpu) (known none p)

-- A flush of one linear space is all of the flush.

linear_apart : (nested asid guest vcpu : Bool) → (guest && vcpu) ≡ true → (((asid && beq nested false) && guest) && vcpu) ≡ false → (not nested && asid) ≡ false
linear_apart true asid guest vcpu owner e = refl
linear_apart false false guest vcpu owner e = refl
linear_apart false true true true owner e = absurd (true≢false e)
linear_apart false true true false owner e = absurd (true≢false (sym owner))
linear_apart false true false vcpu owner e = absurd (true≢false (sym owner))

first_and_false : (a b : Bool) → a ≡ false → (a && b) ≡ false
first_and_false true b e = absurd (true≢false e)
first_and_false false b e = refl

-- the flush drops linear pages of this address space alone
abbrev pub IsLinear : ℕ → Flush → Type 0
IsLinear asid (Local other) = other ≡ asid
IsLinear asid (Asid other) = other ≡ asid
IsLinear asid (Page other address) = other ≡ asid
IsLinear asid All = ⊥
IsLinear asid (Whole other) = ⊥

linear_not_covered : (flush : Flush) (asid : ℕ) (space : Space) (page : ℕ) (leaf : Leaf) → IsLinear asid flush → (not space.nested && (space.asid == asid)) ≡ false → covers flush (record_at space page leaf) ≡ false
linear_not_covered (Local other) asid space page leaf h e = first_and_false _ (not leaf.global) (ap (λ a. not space.nested && (space.asid == a)) h ∙ e)
linear_not_covered (Asid other) asid space page leaf h e = ap (λ a. not space.nested && (space.asid == a)) h ∙ e
linear_not_covered (Page other address) asid space page leaf h e = first_and_false _ _ (ap (λ a. not space.nested && (space.asid == a)) h ∙ e)
linear_not_covered All asid space page leaf h e = absurd h
linear_not_covered (Whole other) asid space page leaf h e = absurd h

itself : (v : VcpuId) → is_vcpu v v ≡ true
itself v = rw (same_number v.guest.0) (same_number v.index)

owned_space : (vcpu : VcpuId) (asid : ℕ) (nested : Bool) (space : Space) → same_space space (space_of vcpu asid nested) ≡ true → is_vcpu (owner_of space) vcpu ≡ true
owned_space vcpu asid nested space e = subst (λ s. is_vcpu (owner_of s) vcpu ≡ true) (sym (space_from_same space (space_of vcpu asid nested) e)) (itself vcpu)

in_one : (vcpu : VcpuId) (asid : ℕ) (nested : Bool) (flush : Flush) (p : Place) (leaves : List Leaf) → same_space p.space (space_of vcpu asid nested) ≡ true
    → uncovered_in (space_of vcpu asid nested) flush p.page leaves ≡ uncovered vcpu flush p leaves
in_one vcpu asid nested flush p leaves e =
    ap (λ s. uncovered_in s flush p.page leaves) (sym (space_from_same p.space (space_of vcpu asid nested) e))
    ∙ ap (λ b. if b then uncovered_in p.space flush p.page leaves else leaves) (sym (owned_space vcpu asid nested p.space e))

-- one of the three flushes of linear pages
pub is_linear : (flush : Flush) (asid : ℕ) → (flush ≡ Local asid) ⊎ (flush ≡ Asid asid) ⊎ ((address : ℕ) × (flush ≡ Page asid address)) → IsLinear asid flush
is_linear flush asid (inl e) = subst (IsLinear asid) (sym e) refl
is_linear flush asid (inr (inl e)) = subst (IsLinear asid) (sym e) refl
is_linear flush asid (inr (inr e)) = subst (IsLinear asid) (sym e.1) refl

module _ (vcpu : VcpuId) (asid : ℕ) (flush : Flush) (linear : IsLinear asid flush) (p : Place) (leaves : List Leaf) where
  outside : (owned : Bool) → is_vcpu (owner_of p.space) vcpu ≡ owned → same_space p.space (space_of vcpu asid false) ≡ false → leaves ≡ (if owned then uncovered_in p.space flush p.page leaves else leaves)
  outside true owner e =
      sym (none_covered p.space flush p.page
      (λ leaf. linear_not_covered flush asid p.space p.page leaf linear (linear_apart p.space.nested (p.space.asid == asid) (p.space.guest == vcpu.guest.0) (p.space.vcpu == vcpu.index) owner e)) leaves)
  outside false owner e = refl

  linear_by : (b : Bool) → same_space p.space (space_of vcpu asid false) ≡ b → (if b then uncovered_in (space_of vcpu asid false) flush p.page leaves else leaves) ≡ uncovered vcpu flush p leaves
  linear_by true e = in_one vcpu asid false flush p leaves e
  linear_by false e = outside (is_vcpu (owner_of p.space) vcpu) refl e

  pub linear_all : left_of (space_of vcpu asid false) flush p leaves ≡ uncovered vcpu flush p leaves
  linear_all = linear_by (same_space p.space (space_of vcpu asid false)) refl

-- One of all of an address space is that of its two spaces.

whole_apart : (nested asid guest vcpu : Bool) → (guest && vcpu) ≡ true → (((asid && beq nested false) && guest) && vcpu) ≡ false → (((asid && beq nested true) && guest) && vcpu) ≡ false → asid ≡ false
whole_apart nested false guest vcpu owner e h = refl
whole_apart true true true true owner e h = absurd (true≢false h)
whole_apart false true true true owner e h = absurd (true≢false e)
whole_apart nested true true false owner e h = absurd (true≢false (sym owner))
whole_apart nested true false vcpu owner e h = absurd (true≢false (sym owner))

module _ (vcpu : VcpuId) (asid : ℕ) (p : Place) (leaves : List Leaf) where
  whole_outside : (owned : Bool) → is_vcpu (owner_of p.space) vcpu ≡ owned → same_space p.space (space_of vcpu asid false) ≡ false → same_space p.space (space_of vcpu asid true) ≡ false
      → leaves ≡ (if owned then uncovered_in p.space (Whole asid) p.page leaves else leaves)
  whole_outside true owner e h =
      sym (none_covered p.space (Whole asid) p.page
      (λ leaf. whole_apart p.space.nested (p.space.asid == asid) (p.space.guest == vcpu.guest.0) (p.space.vcpu == vcpu.index) owner e h) leaves)
  whole_outside false owner e h = refl

  not_both : same_space p.space (space_of vcpu asid false) ≡ true → same_space p.space (space_of vcpu asid true) ≡ true → ⊥
  not_both e h =
      true≢false (ap (λ (s : Space). s.nested) (sym (space_from_same p.space (space_of vcpu asid true) h) ∙ space_from_same p.space (space_of vcpu asid false) e))

  whole_by : (linear nested : Bool) → same_space p.space (space_of vcpu asid false) ≡ linear → same_space p.space (space_of vcpu asid true) ≡ nested
      → (if nested then uncovered_in (space_of vcpu asid true) (Whole asid) p.page (if linear then uncovered_in (space_of vcpu asid false) (Whole asid) p.page leaves else leaves)
      else (if linear then uncovered_in (space_of vcpu asid false) (Whole asid) p.page leaves else leaves))
      ≡ uncovered vcpu (Whole asid) p leaves
  whole_by true true e h = absurd (not_both e h)
  whole_by true false e h = in_one vcpu asid false (Whole asid) p leaves e
  whole_by false true e h = in_one vcpu asid true (Whole asid) p leaves h
  whole_by false false e h = whole_outside (is_vcpu (owner_of p.space) vcpu) refl e h

  pub whole_all : left_of (space_of vcpu asid true) (Whole asid) p (left_of (space_of vcpu asid false) (Whole asid) p leaves) ≡ uncovered vcpu (Whole asid) p leaves
  whole_all = whole_by (same_space p.space (space_of vcpu asid false)) (same_space p.space (space_of vcpu asid true)) refl refl

-- One of all drops each space of the vcpu.

abbrev pub kept_apart : VcpuId → Space → List Leaf → List Leaf
kept_apart vcpu space leaves = if is_vcpu (owner_of space) vcpu then [] else leaves

apart_by : (vcpu : VcpuId) (p : Place) (leaves : List Leaf) (b : Bool) → (if b then [] else leaves) ≡ (if b then uncovered_in p.space All p.page leaves else leaves)
apart_by vcpu p leaves true = sym (all_covered p.space All p.page (λ leaf. refl) leaves)
apart_by vcpu p leaves false = refl

pub apart_all : (vcpu : VcpuId) (p : Place) (leaves : List Leaf) → kept_apart vcpu p.space leaves ≡ uncovered vcpu All p leaves
apart_all vcpu p leaves = apart_by vcpu p leaves (is_vcpu (owner_of p.space) vcpu)

none_apart : (leaves : List Leaf) (b : Bool) → (if b then leaves else leaves) ≡ leaves
none_apart leaves true = refl
none_apart leaves false = refl

pub apart_none : (vcpu : VcpuId) (space : Space) → kept_apart vcpu space [] ≡ []
apart_none vcpu space = none_apart [] (is_vcpu (owner_of space) vcpu)

pub on_ok_from : {A E : Type 0} (r : Result A E) (P Q : Type 0) → (P → Q) → OnOk r P → OnOk r Q
on_ok_from (Ok x) P Q f h = f h
on_ok_from (Err x) P Q f h = h
