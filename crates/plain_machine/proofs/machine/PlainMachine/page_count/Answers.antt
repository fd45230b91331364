use Rattle.std.proofs.Common.{◌≡◌, ◌∙◌, ◌<◌, List, Some, length, ap, sym, subst, arith, slice_get}
use Rattle.plain_machine.specs.Machines.{Machine}
use Rattle.plain_machine.specs.Slots.{Kept}
use Rattle.plain_machine.proofs.MarkLemmas.{in_slot}
use Rattle.plain_machine.proofs.Worlds.{few_slots}
use Rattle.plain_machine.proofs.machine.PlainMachine.page_count.Goals as goal

pub slot_of-requires : goal.slot_of-requires
slot_of-requires c =
    let here = few_slots c.args.self.now.world c.self.inside.memory.bytes c.self.inside.guests.items c.args.guest.0 (sym (ap (λ (m : Machine). m.world.guests) c.self.view_is)) c.requires in
    subst (λ (slots : List Kept). c.args.guest.0 < length slots) (sym c.deref.ensures.value) here

pub pages_of-requires : goal.pages_of-requires
pages_of-requires c =
    let there : slice_get c.self.inside.guests.items c.args.guest.0 ≡ Some c.slot_of.result.now =
    ap (λ (slots : List Kept). slice_get slots c.args.guest.0) (sym c.deref.ensures.value) ∙ c.slot_of.ensures.slot in
    let slot = in_slot c.self.inside.memory.bytes c.self.inside.guests.items c.args.self.now.world.guests c.args.guest.0 c.slot_of.result.now c.self.invariant.0 (sym (ap (λ (m : Machine). m.world.guests) c.self.view_is)) there in
    omega (arith, slot.within, c.self.invariant.2)

pub returns : goal.returns
returns c =
    let there : slice_get c.self.inside.guests.items c.args.guest.0 ≡ Some c.slot_of.result.now =
    ap (λ (slots : List Kept). slice_get slots c.args.guest.0) (sym c.deref.ensures.value) ∙ c.slot_of.ensures.slot in
    let slot = in_slot c.self.inside.memory.bytes c.self.inside.guests.items c.args.self.now.world.guests c.args.guest.0 c.slot_of.result.now c.self.invariant.0 (sym (ap (λ (m : Machine). m.world.guests) c.self.view_is)) there in
    let pages = slot.paged.pages in
    omega (arith, c.pages_of.ensures, pages, slot.size)
