use Rattle.std.proofs.Common.{◌≡◌, ◌∙◌, refl, length, ap, sym, arith}
use Rattle.svm_model.specs.Machine.Shapes.{world_shape}
use Rattle.plain_machine.specs.Machines.{Machine}
use Rattle.plain_machine.specs.Slots.{layouts}
use Rattle.svm_model.proofs.WindowLemmas.{are_marked}
use Rattle.plain_machine.proofs.MarkLemmas.{marked-written}
use Rattle.plain_machine.proofs.Worlds.{shape-written}
use Rattle.plain_machine.proofs.machine.PlainMachine.ring_timers.Goals as goal

pub returns-clause-shape : goal.returns-clause-shape
returns-clause-shape c =
    let bytes = c.self.inside.memory.bytes in
    let old = c.self.inside.guests.items in
    let new = c.ring_guests.new.slots in
    let long : length new ≡ c.self.inside.guests.len = omega (arith, c.ring_guests.auto.slots, c.deref_mut.ensures.len) in
    let same : layouts new ≡ layouts old = c.ring_guests.ensures.layouts ∙ ap layouts c.deref_mut.ensures.value in
    shape-written (length c.self.inside.placing.items) bytes bytes old new _ long c.self.invariant.0 same refl
    ∙ ap (λ (m : Machine). world_shape m.world) c.self.view_is

pub returns-clause-marked : goal.returns-clause-marked
returns-clause-marked c =
    let memory = c.self.inside.memory in
    let old = c.self.inside.guests.items in
    let new = c.ring_guests.new.slots in
    let long : length new ≡ c.self.inside.guests.len = omega (arith, c.ring_guests.auto.slots, c.deref_mut.ensures.len) in
    let same : layouts new ≡ layouts old = c.ring_guests.ensures.layouts ∙ ap layouts c.deref_mut.ensures.value in
    marked-written memory memory old new _ _ _ long c.self.invariant.0 same (are_marked memory)
    (ap (λ (m : Machine). m.world.guests) (sym c.self.view_is)) (ap (λ (m : Machine). m.marks) (sym c.self.view_is)) refl refl
