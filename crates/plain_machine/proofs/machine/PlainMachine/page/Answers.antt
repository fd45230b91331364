use Rattle.std.proofs.Common.{◌≡◌, ◌∙◌, ◌<◌, ℕ, List, Some, length, ap, sym, subst, arith, slice_get}
use Rattle.svm_model.specs.Memory.Bytes.{IsWithin, guest_of, page_at}
use Rattle.plain_machine.specs.Machines.{Machine}
use Rattle.plain_machine.specs.Slots.{Kept}
use Rattle.plain_machine.proofs.MarkLemmas.{in_slot}
use Rattle.plain_machine.proofs.Worlds.{few_slots}
use Rattle.plain_machine.proofs.machine.PlainMachine.page.Goals as goal

pub slot_of-slot-requires : goal.slot_of-slot-requires
slot_of-slot-requires g c =
    let here = few_slots c.args.self.now.world c.self.inside.memory.bytes c.self.inside.guests.items c.args.guest.0 (sym (ap (λ (m : Machine). m.world.guests) c.self.view_is)) c.requires.there in
    subst (λ (slots : List Kept). c.args.guest.0 < length slots) (sym c.deref.ensures.value) here

pub page-requires-clause-window : goal.page-requires-clause-window
page-requires-clause-window g c =
    let there : slice_get c.self.inside.guests.items c.args.guest.0 ≡ Some c.slot_of-slot.result.now =
    ap (λ (slots : List Kept). slice_get slots c.args.guest.0) (sym c.deref.ensures.value) ∙ c.slot_of-slot.ensures.slot in
    let slot = in_slot c.self.inside.memory.bytes c.self.inside.guests.items c.args.self.now.world.guests c.args.guest.0 c.slot_of-slot.result.now c.self.invariant.0 (sym (ap (λ (m : Machine). m.world.guests) c.self.view_is)) there in
    subst (λ (s : Kept). IsWithin s.window c.self.inside.memory.bytes) (sym c.slot.view_is) slot.within

pub page-requires-clause-inside : goal.page-requires-clause-inside
page-requires-clause-inside g c =
    let there : slice_get c.self.inside.guests.items c.args.guest.0 ≡ Some c.slot_of-slot.result.now =
    ap (λ (slots : List Kept). slice_get slots c.args.guest.0) (sym c.deref.ensures.value) ∙ c.slot_of-slot.ensures.slot in
    let slot = in_slot c.self.inside.memory.bytes c.self.inside.guests.items c.args.self.now.world.guests c.args.guest.0 c.slot_of-slot.result.now c.self.invariant.0 (sym (ap (λ (m : Machine). m.world.guests) c.self.view_is)) there in
    omega (arith, c.requires.page, slot.size, ap (λ (s : Kept). s.window.size) c.slot.view_is)

pub returns-clause-bytes : goal.returns-clause-bytes
returns-clause-bytes g c =
    let there : slice_get c.self.inside.guests.items c.args.guest.0 ≡ Some c.slot_of-slot.result.now =
    ap (λ (slots : List Kept). slice_get slots c.args.guest.0) (sym c.deref.ensures.value) ∙ c.slot_of-slot.ensures.slot in
    let slot = in_slot c.self.inside.memory.bytes c.self.inside.guests.items c.args.self.now.world.guests c.args.guest.0 c.slot_of-slot.result.now c.self.invariant.0 (sym (ap (λ (m : Machine). m.world.guests) c.self.view_is)) there in
    c.page.ensures.bytes
    ∙ ap (λ (s : Kept). page_at (guest_of s.window c.self.inside.memory.bytes) c.args.page) c.slot.view_is
    ∙ ap (λ (m : List ℕ). page_at m c.args.page) (sym slot.memory)
