-- Look-ups of slots by their place.
use Rattle.std.proofs.Common.{◌≡◌, ◌∙◌, ◌<◌, ℕ, List, Option, Some, length, ap, slice_get, slice_index_or}
use Rattle.std.specs.Option.{option_map}
use Rattle.std.proofs.lemmas.Option.{slice_get-get_or, slice_get-map}
use Rattle.svm_model.specs.Machine.Apic.{Apic}
use Rattle.svm_model.specs.Machine.Guest.{Guest}
use Rattle.svm_model.specs.declared.vcpus.Vcpu.{Vcpu}
use Rattle.plain_machine.specs.Machines.{apic_of, vcpu_of}
use Rattle.plain_machine.specs.Slots.{Kept, guest_at, guests_at}
use Rattle.plain_machine.proofs.Rows.{slot_apic, slot_vcpu}

pub guest_of-place : (bytes : List ℕ) (slots : List Kept) (i : ℕ) (d : Kept) → i < length slots → slice_get (guests_at bytes slots) i ≡ Some (guest_at bytes (slice_index_or slots i d))
guest_of-place bytes slots i d h = slice_get-map (guest_at bytes) slots i ∙ ap (option_map (guest_at bytes)) (slice_get-get_or slots i d h)

pub slot_of-place : (slots : List Kept) (i : ℕ) (d : Kept) → i < length slots → slice_get slots i ≡ Some (slice_index_or slots i d)
slot_of-place slots i d h = slice_get-get_or slots i d h

pub vcpu_of-place : (bytes : List ℕ) (slots : List Kept) (i index : ℕ) (d : Kept) (v : Vcpu) → i < length slots → index < length (slice_index_or slots i d).vcpus → vcpu_of (slice_get (guests_at bytes slots) i) index ≡ Some (slice_index_or (slice_index_or slots i d).vcpus index v)
vcpu_of-place bytes slots i index d v h k =
    ap (λ (o : Option Guest). vcpu_of o index) (guest_of-place bytes slots i d h) ∙ slice_get-get_or (slice_index_or slots i d).vcpus index v k

pub apic_of-place : (bytes : List ℕ) (slots : List Kept) (i index : ℕ) (d : Kept) (a : Apic) → i < length slots → index < length (slice_index_or slots i d).apics → apic_of (slice_get (guests_at bytes slots) i) index ≡ Some (slice_index_or (slice_index_or slots i d).apics index a)
apic_of-place bytes slots i index d a h k =
    ap (λ (o : Option Guest). apic_of o index) (guest_of-place bytes slots i d h) ∙ slice_get-get_or (slice_index_or slots i d).apics index a k

pub ruleset lookups = (guest_of-place, slot_of-place, vcpu_of-place, apic_of-place, slot_vcpu, slot_apic)
