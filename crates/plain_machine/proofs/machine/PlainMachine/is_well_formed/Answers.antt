use Rattle.std.proofs.Common.{subst}
use Rattle.svm_model.specs.Machine.Shapes.{IsWellFormed}
use Rattle.plain_machine.specs.Machines.{Machine}
use Rattle.plain_machine.proofs.WellFormed.{well_formed}
use Rattle.plain_machine.proofs.machine.PlainMachine.is_well_formed.Goals as goal

pub returns-clause-world : goal.returns-clause-world
returns-clause-world c =
    subst (λ (m : Machine). IsWellFormed m.world) c.self.view_is
    (well_formed c.self.inside.version c.self.inside.features c.self.inside.event c.self.inside.memory.bytes c.self.inside.guests.items c.self.inside.placing.items c.self.invariant.0 c.self.invariant.1)
