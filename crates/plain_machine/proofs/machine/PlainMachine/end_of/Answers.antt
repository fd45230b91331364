use Rattle.std.proofs.Common.{◌<◌, List, length, ap, sym, subst}
use Rattle.plain_machine.specs.Machines.{Machine}
use Rattle.plain_machine.specs.Slots.{Kept}
use Rattle.plain_machine.proofs.Worlds.{few_slots}
use Rattle.plain_machine.proofs.machine.PlainMachine.end_of.Goals as goal

pub slot_of-requires : goal.slot_of-requires
slot_of-requires c =
    let here = few_slots c.args.self.now.world c.self.inside.memory.bytes c.self.inside.guests.items c.args.guest.0 (sym (ap (λ (m : Machine). m.world.guests) c.self.view_is)) c.requires in
    subst (λ (slots : List Kept). c.args.guest.0 < length slots) (sym c.deref.ensures.value) here
