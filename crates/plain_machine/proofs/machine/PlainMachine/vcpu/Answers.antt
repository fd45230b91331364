use Rattle.std.proofs.Common.{◌∙◌, List, length, map, ap, sym}
use Rattle.svm_model.specs.Machine.Guest.{Guest}
use Rattle.svm_model.specs.Machine.Shapes.{world_shape}
use Rattle.plain_machine.specs.Machines.{Machine}
use Rattle.plain_machine.specs.Slots.{Kept, guests_at}
use Rattle.plain_machine.proofs.Worlds.{named_vcpu}
use Rattle.plain_machine.proofs.machine.PlainMachine.vcpu.Goals as goal

pub vcpu_at-requires-clause-vcpu : goal.vcpu_at-requires-clause-vcpu
vcpu_at-requires-clause-vcpu c =
    named_vcpu c.self.inside.memory.bytes _ c.args.vcpu (world_shape c.args.self.now.world)
    (sym (ap (λ (m : Machine). (world_shape m.world).vcpus) c.self.view_is)
    ∙ ap (λ (slots : List Kept). map (λ (g : Guest). length g.vcpus) (guests_at c.self.inside.memory.bytes slots)) (sym c.deref.ensures.value))
    c.requires
