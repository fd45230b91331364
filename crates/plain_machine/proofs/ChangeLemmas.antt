-- A change of one vcpu among all guests is that of one of them.
use Rattle.std.proofs.Common.{◌≡◌, ◌∙◌, ℕ, ◌<◌, List, Option, Some, length, ap, sym, slice_get, slice_set, slice_index_or}
use Rattle.std.specs.Option.{option_map}
use Rattle.std.proofs.lemmas.List.{map-set}
use Rattle.std.proofs.lemmas.Option.{slice_get-get_or, slice_get-map}
use Rattle.svm_model.specs.Machine.Events.{at}
use Rattle.svm_model.specs.Machine.Guest.{Guest}
use Rattle.plain_machine.specs.Slots.{Kept, guest_at, guests_at}

pub slot_change : (change : Guest → Guest) (bytes : List ℕ) (slots : List Kept) (i place : ℕ) (d t : Kept) → i ≡ place → i < length slots → guest_at bytes t ≡ change (guest_at bytes (slice_index_or slots i d)) →
    guests_at bytes (slice_set slots i t) ≡ at place change (slice_get (guests_at bytes slots) place) (guests_at bytes slots)
slot_change change bytes slots i place d t same h e =
    let there : slice_get (guests_at bytes slots) i ≡ Some (guest_at bytes (slice_index_or slots i d))
    = slice_get-map (guest_at bytes) slots i ∙ ap (option_map (guest_at bytes)) (slice_get-get_or slots i d h) in
    map-set (guest_at bytes) slots i t
    ∙ ap (slice_set (guests_at bytes slots) i) e
    ∙ sym (ap (λ (o : Option Guest). at i change o (guests_at bytes slots)) there)
    ∙ ap (λ (n : ℕ). at n change (slice_get (guests_at bytes slots) n) (guests_at bytes slots)) same
