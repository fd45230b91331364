use Rattle.std.proofs.Common.{◌≡◌, ◌∙◌, refl, List, length, map, ap, sym, arith}
use Rattle.svm_model.specs.Machine.Guest.{Guest}
use Rattle.svm_model.specs.Machine.Shapes.{world_shape}
use Rattle.plain_machine.specs.Machines.{Machine}
use Rattle.plain_machine.specs.Slots.{Kept, guests_at, layouts}
use Rattle.svm_model.proofs.WindowLemmas.{are_marked}
use Rattle.plain_machine.proofs.MarkLemmas.{marked-written}
use Rattle.plain_machine.proofs.Worlds.{named_vcpu, shape-written}
use Rattle.plain_machine.proofs.machine.PlainMachine.make_nmi_pending.Goals as goal

pub make_nmi_pending-requires-clause-vcpu : goal.make_nmi_pending-requires-clause-vcpu
make_nmi_pending-requires-clause-vcpu c =
    named_vcpu c.self.inside.memory.bytes _ c.args.vcpu (world_shape c.args.self.now.world)
    (sym (ap (λ (m : Machine). (world_shape m.world).vcpus) c.self.view_is)
    ∙ ap (λ (slots : List Kept). map (λ (g : Guest). length g.vcpus) (guests_at c.self.inside.memory.bytes slots)) (sym c.deref_mut.ensures.value))
    c.requires

pub returns-clause-shape : goal.returns-clause-shape
returns-clause-shape c =
    let bytes = c.self.inside.memory.bytes in
    let old = c.self.inside.guests.items in
    let new = c.make_nmi_pending.new.slots in
    let long : length new ≡ c.self.inside.guests.len = omega (arith, c.make_nmi_pending.auto.slots, c.deref_mut.ensures.len) in
    let same : layouts new ≡ layouts old = c.make_nmi_pending.ensures.layouts ∙ ap layouts c.deref_mut.ensures.value in
    shape-written (length c.self.inside.placing.items) bytes bytes old new _ long c.self.invariant.0 same refl
    ∙ ap (λ (m : Machine). world_shape m.world) c.self.view_is

pub returns-clause-marked : goal.returns-clause-marked
returns-clause-marked c =
    let memory = c.self.inside.memory in
    let old = c.self.inside.guests.items in
    let new = c.make_nmi_pending.new.slots in
    let long : length new ≡ c.self.inside.guests.len = omega (arith, c.make_nmi_pending.auto.slots, c.deref_mut.ensures.len) in
    let same : layouts new ≡ layouts old = c.make_nmi_pending.ensures.layouts ∙ ap layouts c.deref_mut.ensures.value in
    marked-written memory memory old new _ _ _ long c.self.invariant.0 same (are_marked memory)
    (ap (λ (m : Machine). m.world.guests) (sym c.self.view_is)) (ap (λ (m : Machine). m.marks) (sym c.self.view_is)) refl refl
