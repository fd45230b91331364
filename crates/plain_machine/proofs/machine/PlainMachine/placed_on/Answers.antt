use Rattle.std.proofs.Common.{ℕ, List, sym, subst, IfSome}
use Rattle.svm_model.specs.Machine.Shapes.{IsVcpu, world_shape}
use Rattle.plain_machine.specs.Machines.{Machine}
use Rattle.plain_machine.specs.Slots.{AreThere, IsThere, counts, layouts}
use Rattle.plain_machine.proofs.Worlds.{counts-layouts}
use Rattle.plain_machine.proofs.machine.PlainMachine.placed_on.Goals as goal

pub returns-clause-there : goal.returns-clause-there
returns-clause-there c =
    subst (λ (m : Machine). IfSome c.placed_at.result (IsVcpu (world_shape m.world))) c.self.view_is
    (subst (λ (ns : List ℕ). IfSome c.placed_at.result (IsThere ns)) (counts-layouts c.self.inside.memory.bytes c.self.inside.guests.items)
    (c.placed_at.ensures.there _ (subst (AreThere (counts (layouts c.self.inside.guests.items))) (sym c.deref.ensures.value) c.self.invariant.1)))
