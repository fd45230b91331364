-- Windows in a row: a change within one of them leaves what all others hold.
use Rattle.std.proofs.Common.{◌≡◌, ◌∙◌, ℕ, zero, suc, ◌+◌, ◌-◌, ◌≤◌, ◌<◌, List, [], ◌∷◌, Option, Some, IfSome, length, take, drop, ap, sym, refl, arith, subst, slice_get, slice_set, slice_index_or}
use Rattle.std.proofs.lemmas.List.{drop-drop, take-take, drop-take}
use Rattle.std.proofs.lemmas.Option.{slice_get-get_or}
use Rattle.svm_model.specs.Machine.Guest.{Guest}
use Rattle.svm_model.specs.Memory.Bytes.{Host, IsWithin, SameOutside, guest_of}
use Rattle.svm_model.specs.declared.windows.GuestWindow.{GuestWindow}
use Rattle.plain_machine.specs.Slots.{Kept, Layout, layout, guest_at, guests_at, layouts, AreInRow, IsSlot}

-- a window behind the changed one
behind : (w v : GuestWindow) (old new : Host) → SameOutside w old new → w.base + w.size ≤ v.base → guest_of v new.bytes ≡ guest_of v old.bytes
behind w v old new same h =
    let up : v.base ≡ w.base + w.size + (v.base - (w.base + w.size)) = omega arith in
    let at : (xs : List ℕ) → drop v.base xs ≡ drop (v.base - (w.base + w.size)) (drop (w.base + w.size) xs)
    = λ xs. ap (λ (n : ℕ). drop n xs) up ∙ sym (drop-drop (v.base - (w.base + w.size)) (w.base + w.size) xs) in
    ap (take v.size) (at new.bytes ∙ ap (drop (v.base - (w.base + w.size))) same.after ∙ sym (at old.bytes))

-- a window before it
pub before : (w v : GuestWindow) (old new : Host) → SameOutside w old new → v.base + v.size ≤ w.base → guest_of v new.bytes ≡ guest_of v old.bytes
before w v old new same h =
    let at : (xs : List ℕ) → take v.size (drop v.base xs) ≡ drop v.base (take (v.base + v.size) (take w.base xs))
    = λ xs. sym (drop-take v.base v.size xs) ∙ ap (drop v.base) (sym (take-take (v.base + v.size) w.base xs h)) in
    at new.bytes ∙ ap (λ (xs : List ℕ). drop v.base (take (v.base + v.size) xs)) same.before ∙ sym (at old.bytes)

-- every window of a row begins at its start or behind it
from_start : (size from : ℕ) (slots : List Kept) (i : ℕ) (s : Kept) → AreInRow size from (layouts slots) → slice_get slots i ≡ Some s → from ≤ s.window.base
from_start size from [] i s row there = absurd (cc)
from_start size from (x ∷ slots) zero s row there =
    let same : x ≡ s = cc in
    omega (arith, ap (λ (k : Kept). k.window.base) same, row.0)
from_start size from (x ∷ slots) (suc i) s row there =
    let later = from_start size (from + x.window.size) slots i s row.2 there in
    omega (arith, later)

abbrev with_memory : Kept → List ℕ → Guest
with_memory s m = record { memory = m; ended = s.ended; vcpus = s.vcpus; apics = s.apics }

-- all those behind the changed one stay
pub all_behind : (w : GuestWindow) (size from : ℕ) (slots : List Kept) (old new : Host) → SameOutside w old new → AreInRow size from (layouts slots) → w.base + w.size ≤ from → guests_at new.bytes slots ≡ guests_at old.bytes slots
all_behind w size from [] old new same row h = refl
all_behind w size from (x ∷ slots) old new same row h =
    let here = behind w x.window old new same (omega (arith, row.0)) in
    ap (λ (m : List ℕ). with_memory x m ∷ guests_at new.bytes slots) here
    ∙ ap (λ (gs : List Guest). guest_at old.bytes x ∷ gs) (all_behind w size (from + x.window.size) slots old new same row.2 (omega arith))

-- One guest of the row is changed, with its window alone.
pub others_stay : (size from : ℕ) (slots : List Kept) (i : ℕ) (s t : Kept) (old new : Host) → AreInRow size from (layouts slots) → slice_get slots i ≡ Some s → SameOutside s.window old new →
    guests_at new.bytes (slice_set slots i t) ≡ slice_set (guests_at old.bytes slots) i (guest_at new.bytes t)
others_stay size from [] i s t old new row there same = absurd (cc)
others_stay size from (x ∷ slots) zero s t old new row there same =
    let one : x ≡ s = cc in
    let ends : s.window.base + s.window.size ≤ from + x.window.size = omega (arith, ap (λ (k : Kept). k.window.base) one, ap (λ (k : Kept). k.window.size) one, row.0) in
    ap (λ (gs : List Guest). guest_at new.bytes t ∷ gs) (all_behind s.window size (from + x.window.size) slots old new same row.2 ends)
others_stay size from (x ∷ slots) (suc i) s t old new row there same =
    let later = from_start size (from + x.window.size) slots i s row.2 there in
    let here = before s.window x.window old new same (omega (arith, later, row.0)) in
    ap (λ (m : List ℕ). with_memory x m ∷ guests_at new.bytes (slice_set slots i t)) here
    ∙ ap (λ (gs : List Guest). guest_at old.bytes x ∷ gs) (others_stay size (from + x.window.size) slots i s t old new row.2 there same)

pub row_end : (size from : ℕ) (guests : List Layout) → AreInRow size from guests → from ≤ size
row_end size from [] row = row
row_end size from (g ∷ guests) row = let rest = row_end size (from + g.window.size) guests row.2 in omega (arith, rest)

-- a window of the row lies within
pub in_row-within : (size from : ℕ) (slots : List Kept) (i : ℕ) (s : Kept) → AreInRow size from (layouts slots) → slice_get slots i ≡ Some s → s.window.base + s.window.size ≤ size
in_row-within size from [] i s row there = absurd (cc)
in_row-within size from (x ∷ slots) zero s row there =
    let same : x ≡ s = cc in
    let rest = row_end size (from + x.window.size) (layouts slots) row.2 in
    omega (arith, ap (λ (k : Kept). k.window.base) same, ap (λ (k : Kept). k.window.size) same, row.0, rest)
in_row-within size from (x ∷ slots) (suc i) s row there = in_row-within size (from + x.window.size) slots i s row.2 there

-- it is one of a slot
pub in_row-slot : (size from : ℕ) (slots : List Kept) (i : ℕ) (s : Kept) → AreInRow size from (layouts slots) → slice_get slots i ≡ Some s → IsSlot (layout s)
in_row-slot size from [] i s row there = absurd (cc)
in_row-slot size from (x ∷ slots) zero s row there =
    let same : x ≡ s = cc in
    subst (λ (k : Kept). IsSlot (layout k)) same row.1
in_row-slot size from (x ∷ slots) (suc i) s row there = in_row-slot size (from + x.window.size) slots i s row.2 there

-- a changed guest keeps its window
pub layouts-set : (slots : List Kept) (i : ℕ) (s t : Kept) → slice_get slots i ≡ Some s → layout t ≡ layout s → layouts (slice_set slots i t) ≡ layouts slots
layouts-set [] i s t there same = refl
layouts-set (x ∷ slots) zero s t there same =
    let one : x ≡ s = cc in
    ap (λ (l : Layout). l ∷ layouts slots) (same ∙ ap (λ (k : Kept). layout k) (sym one))
layouts-set (x ∷ slots) (suc i) s t there same = ap (λ (ls : List Layout). layout x ∷ ls) (layouts-set slots i s t there same)

-- The slot at an index.

pub slot_within : (bytes : List ℕ) (slots : List Kept) (i : ℕ) (d : Kept) → AreInRow (length bytes) 0 (layouts slots) → i < length slots → IsWithin (slice_index_or slots i d).window bytes
slot_within bytes slots i d row h = in_row-within (length bytes) 0 slots i (slice_index_or slots i d) row (slice_get-get_or slots i d h)

pub slot_is : (size : ℕ) (slots : List Kept) (i : ℕ) (d : Kept) → AreInRow size 0 (layouts slots) → i < length slots → IsSlot (layout (slice_index_or slots i d))
slot_is size slots i d row h = in_row-slot size 0 slots i (slice_index_or slots i d) row (slice_get-get_or slots i d h)

pub slot_vcpu : (slots : List Kept) (i index : ℕ) (d : Kept) → i < length slots → IfSome (slice_get slots i) (λ slot. index < length slot.vcpus) → index < length (slice_index_or slots i d).vcpus
slot_vcpu slots i index d h vcpu = subst (λ (o : Option Kept). IfSome o (λ slot. index < length slot.vcpus)) (slice_get-get_or slots i d h) vcpu

pub slot_apic : (slots : List Kept) (i index : ℕ) (d : Kept) → i < length slots → IfSome (slice_get slots i) (λ slot. index < length slot.apics) → index < length (slice_index_or slots i d).apics
slot_apic slots i index d h apic = subst (λ (o : Option Kept). IfSome o (λ slot. index < length slot.apics)) (slice_get-get_or slots i d h) apic

pub slot_set : (size : ℕ) (slots : List Kept) (i : ℕ) (d t : Kept) (old new : Host) (g : Guest) → AreInRow size 0 (layouts slots) → i < length slots → SameOutside (slice_index_or slots i d).window old new → guest_at new.bytes t ≡ g →
    guests_at new.bytes (slice_set slots i t) ≡ slice_set (guests_at old.bytes slots) i g
slot_set size slots i d t old new g row h same e =
    others_stay size 0 slots i (slice_index_or slots i d) t old new row (slice_get-get_or slots i d h) same ∙ ap (slice_set (guests_at old.bytes slots) i) e

pub slot_layouts : (slots : List Kept) (i : ℕ) (d t : Kept) → i < length slots → layout t ≡ layout (slice_index_or slots i d) → layouts (slice_set slots i t) ≡ layouts slots
slot_layouts slots i d t h same = layouts-set slots i (slice_index_or slots i d) t (slice_get-get_or slots i d h) same
