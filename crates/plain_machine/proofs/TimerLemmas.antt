-- Timers of guests that are kept are those of the guests.
use Rattle.std.proofs.Common.{length, ◌≡◌, ◌∙◌, ℕ, List, [], ◌∷◌, Option, Some, None, map, ap, refl}
use Rattle.std.proofs.lemmas.List.{length-map}
use Rattle.svm_model.specs.Machine.Events.{guest_with_timers}
use Rattle.svm_model.specs.Machine.Guest.{Guest}
use Rattle.svm_model.specs.declared.names.Ended.{Ended}
use Rattle.plain_machine.specs.Slots.{Kept, Layout, layout, guest_at, guests_at, layouts, rung, rung_slot, rung_if}

one_if : (bytes : List ℕ) (event : ℕ) (slot : Kept) (o : Option Ended) → slot.ended ≡ o → guest_at bytes (rung_if event slot o) ≡ guest_with_timers event (guest_at bytes slot)
one_if bytes event slot (Some ended) e = rw e refl
one_if bytes event slot None e = rw e refl

one : (bytes : List ℕ) (event : ℕ) (slot : Kept) → guest_at bytes (rung_slot event slot) ≡ guest_with_timers event (guest_at bytes slot)
one bytes event slot = one_if bytes event slot slot.ended refl

pub guests_at-rung : (bytes : List ℕ) (event : ℕ) (slots : List Kept) → guests_at bytes (map (rung_slot event) slots) ≡ map (guest_with_timers event) (guests_at bytes slots)
guests_at-rung bytes event [] = refl
guests_at-rung bytes event (slot ∷ slots) =
    ap (λ (g : Guest). g ∷ guests_at bytes (map (rung_slot event) slots)) (one bytes event slot)
    ∙ ap (λ (gs : List Guest). guest_with_timers event (guest_at bytes slot) ∷ gs) (guests_at-rung bytes event slots)

layout_if : (event : ℕ) (slot : Kept) (o : Option Ended) → layout (rung_if event slot o) ≡ layout slot
layout_if event slot (Some ended) = refl
layout_if event slot None = ap (λ (n : ℕ). record { window = slot.window; vcpus = length slot.vcpus; apics = n }) (length-map slot.apics (rung event))

pub layouts-rung : (event : ℕ) (slots : List Kept) → layouts (map (rung_slot event) slots) ≡ layouts slots
layouts-rung event [] = refl
layouts-rung event (slot ∷ slots) =
    ap (λ (l : Layout). l ∷ layouts (map (rung_slot event) slots)) (layout_if event slot slot.ended)
    ∙ ap (λ (ls : List Layout). layout slot ∷ ls) (layouts-rung event slots)

pub ruleset timers = (guests_at-rung, layouts-rung)
