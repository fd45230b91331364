-- The turn among all guests is that of one of them.
use Rattle.std.proofs.Common.{◌≡◌, ◌∙◌, ◌<◌, ℕ, length, ap, sym, subst, arith, slice_get, slice_set, slice_index_or, IfSome}
use Rattle.svm_model.specs.Machine.Guest.{Guest}
use Rattle.plain_machine.specs.Slots.{Kept, guest_at, guests_at}
use Rattle.plain_machine.proofs.Rows.{slot_within, slot_is, slot_vcpu, slot_set, slot_layouts}
use Rattle.plain_machine.proofs.GuestTurnLemmas.{at_slot, on_ok, if_ok, if_err}
use Rattle.plain_machine.proofs.turns.turn_in.Given.{Over}
use Rattle.plain_machine.proofs.turns.turn_in.Goals as goal

pub turn_guest-requires-clause-window : goal.turn_guest-requires-clause-window
turn_guest-requires-clause-window g c = slot_within _ c.args.slots.now _ _ c.requires.row (omega (arith, c.requires.there, c.from.ensures))

pub turn_guest-requires-clause-slot : goal.turn_guest-requires-clause-slot
turn_guest-requires-clause-slot g c = slot_is _ c.args.slots.now _ _ c.requires.row (omega (arith, c.requires.there, c.from.ensures))

pub turn_guest-requires-clause-there : goal.turn_guest-requires-clause-there
turn_guest-requires-clause-there g c =
    slot_vcpu c.args.slots.now _ _ _ (omega (arith, c.requires.there, c.from.ensures))
    (subst (λ (n : ℕ). IfSome (slice_get c.args.slots.now n) (λ slot. c.args.moment.now.vcpu.index < length slot.vcpus)) (sym c.from.ensures) c.requires.vcpu)

below : (g : Over) (c : goal.After-turn_guest g) → c.from.result < length c.args.slots.now
below g c = omega (arith, c.requires.there, c.from.ensures)

-- what the clauses say of the slot
at_place : (g : Over) (c : goal.After-turn_guest g) (P : Kept → Type 0) → P (slice_index_or c.args.slots.now c.from.result c.index-slots-from.result) → IfSome (slice_get c.args.slots.now c.args.moment.now.vcpu.guest.0) P
at_place g c P p = at_slot c.args.slots.now c.from.result c.args.moment.now.vcpu.guest.0 c.index-slots-from.result P c.from.ensures (below g c) p

-- the guests behind the turn
changed : (g : Over) (c : goal.After-turn_guest g) (guest : Guest) → guest_at c.turn_guest.new.memory.bytes c.turn_guest.new.slot ≡ guest →
    guests_at c.turn_guest.new.memory.bytes (slice_set c.args.slots.now c.from.result c.turn_guest.new.slot) ≡ slice_set (guests_at c.args.memory.now.bytes c.args.slots.now) c.args.moment.now.vcpu.guest.0 guest
changed g c guest e =
    slot_set _ c.args.slots.now c.from.result c.index-slots-from.result c.turn_guest.new.slot c.args.memory.now c.turn_guest.new.memory guest c.requires.row (below g c) c.turn_guest.ensures.others e
    ∙ ap (λ (n : ℕ). slice_set (guests_at c.args.memory.now.bytes c.args.slots.now) n guest) c.from.ensures

pub returns-clause-guests : goal.returns-clause-guests
returns-clause-guests g c = on_ok c.turn_guest.result _ _ (λ e. at_place g c _ (changed g c _ e)) c.turn_guest.ensures.guest

pub returns-clause-bus : goal.returns-clause-bus
returns-clause-bus g c = on_ok c.turn_guest.result _ _ (λ e. at_place g c _ e) c.turn_guest.ensures.bus

pub returns-clause-ended : goal.returns-clause-ended
returns-clause-ended g c = if_ok c.turn_guest.result _ _ (λ end e. at_place g c _ e) c.turn_guest.ensures.ended

pub returns-clause-reached : goal.returns-clause-reached
returns-clause-reached g c = if_err c.turn_guest.result _ _ (λ cut e. at_place g c _ (changed g c _ e)) c.turn_guest.ensures.reached

pub returns-clause-told : goal.returns-clause-told
returns-clause-told g c = on_ok c.turn_guest.result _ _ (λ h. at_place g c _ h) c.turn_guest.ensures.told

pub returns-clause-bus_reached : goal.returns-clause-bus_reached
returns-clause-bus_reached g c = if_err c.turn_guest.result _ _ (λ cut e. at_place g c _ e) c.turn_guest.ensures.bus_reached

pub returns-clause-cut : goal.returns-clause-cut
returns-clause-cut g c = if_err c.turn_guest.result _ _ (λ cut h. at_place g c _ h) c.turn_guest.ensures.cut

pub returns-clause-layouts : goal.returns-clause-layouts
returns-clause-layouts g c = slot_layouts c.args.slots.now _ c.index-slots-from.result _ (below g c) c.turn_guest.ensures.layout
