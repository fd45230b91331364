use Rattle.std.proofs.Common.{◌≡◌, ◌∙◌, ◌<◌, ◌^◌, List, Option, Some, length, ap, sym, subst, arith, slice_get, IfSome}
use Rattle.svm_model.specs.Machine.Guest.{Guest}
use Rattle.plain_machine.specs.Machines.{Machine}
use Rattle.plain_machine.specs.Slots.{Kept, guest_at}
use Rattle.plain_machine.proofs.Worlds.{few_slots, guest_there}
use Rattle.svm_model.specs.Memory.Bytes.{IsWithin, guest_of}
use Rattle.svm_model.proofs.WindowLemmas.{length-guest_of}
use Rattle.plain_machine.proofs.Rows.{in_row-within}
use Rattle.plain_machine.proofs.machine.PlainMachine.memory_byte.Goals as goal

pub slot_of-slot-requires : goal.slot_of-slot-requires
slot_of-slot-requires g c =
    let here = few_slots c.args.self.now.world c.self.inside.memory.bytes c.self.inside.guests.items c.args.guest.0 (sym (ap (λ (m : Machine). m.world.guests) c.self.view_is)) c.requires in
    subst (λ (slots : List Kept). c.args.guest.0 < length slots) (sym c.deref.ensures.value) here

pub read_guest-requires-clause-window : goal.read_guest-requires-clause-window
read_guest-requires-clause-window g c =
    let there : slice_get c.self.inside.guests.items c.args.guest.0 ≡ Some c.slot_of-slot.result.now
    = ap (λ (slots : List Kept). slice_get slots c.args.guest.0) (sym c.deref.ensures.value) ∙ c.slot_of-slot.ensures.slot in
    subst (λ (s : Kept). IsWithin s.window c.self.inside.memory.bytes) (sym c.slot.view_is)
    (in_row-within _ 0 c.self.inside.guests.items c.args.guest.0 c.slot_of-slot.result.now c.self.invariant.0 there)

pub returns-clause-fits : goal.returns-clause-fits
returns-clause-fits g c =
    let bytes = c.self.inside.memory.bytes in
    let slot = c.slot_of-slot.result.now in
    let there : slice_get c.self.inside.guests.items c.args.guest.0 ≡ Some slot
    = ap (λ (slots : List Kept). slice_get slots c.args.guest.0) (sym c.deref.ensures.value) ∙ c.slot_of-slot.ensures.slot in
    let within = in_row-within _ 0 c.self.inside.guests.items c.args.guest.0 slot c.self.invariant.0 there in
    let is : slice_get c.args.self.now.world.guests c.args.guest.0 ≡ Some (guest_at bytes slot)
    = ap (λ (m : Machine). slice_get m.world.guests c.args.guest.0) (sym c.self.view_is) ∙ guest_there bytes c.self.inside.guests.items c.args.guest.0 slot there in
    let few : length (guest_of slot.window bytes) < 2 ^ 64 = omega (arith, length-guest_of slot.window bytes within, c.size_of-size.ensures, c.size_of-size.type_inv) in
    subst (λ (o : Option Guest). IfSome o (λ g. length g.memory < 2 ^ 64)) (sym is) few
