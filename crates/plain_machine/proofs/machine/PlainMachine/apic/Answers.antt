use Rattle.std.proofs.Common.{◌∙◌, List, length, map, ap, sym, subst}
use Rattle.svm_model.specs.Machine.Guest.{Guest}
use Rattle.svm_model.specs.Machine.Shapes.{world_shape}
use Rattle.plain_machine.specs.Machines.{Machine}
use Rattle.plain_machine.specs.Slots.{Kept, AreInRow, guests_at, layouts}
use Rattle.plain_machine.proofs.Worlds.{named_vcpu, named_apic}
use Rattle.plain_machine.proofs.machine.PlainMachine.apic.Goals as goal

pub apic_at-requires-clause-apic : goal.apic_at-requires-clause-apic
apic_at-requires-clause-apic c =
    let row = subst (λ (slots : List Kept). AreInRow (length c.self.inside.memory.bytes) 0 (layouts slots)) (sym c.deref.ensures.value) c.self.invariant.0 in
    named_apic _ _ c.args.vcpu row
    (named_vcpu c.self.inside.memory.bytes _ c.args.vcpu (world_shape c.args.self.now.world)
    (sym (ap (λ (m : Machine). (world_shape m.world).vcpus) c.self.view_is)
    ∙ ap (λ (slots : List Kept). map (λ (g : Guest). length g.vcpus) (guests_at c.self.inside.memory.bytes slots)) (sym c.deref.ensures.value))
    c.requires)
