use Rattle.std.proofs.Common.{sym, subst, List, Option, Some, slice_set}
use Rattle.svm_model.specs.declared.names.VcpuId.{VcpuId}
use Rattle.plain_machine.specs.Slots.{AreThere}
use Rattle.plain_machine.proofs.PlacingLemmas.{there-placed}
use Rattle.plain_machine.proofs.placing.place_on.Goals as goal

pub returns-clause-there : goal.returns-clause-there
returns-clause-there c = λ counts here before.
    subst (λ (placing : List (Option VcpuId)). AreThere counts (slice_set placing c.from.result (Some c.args.vcpu))) (sym c.take_off.ensures)
    (there-placed counts c.args.placing.now c.from.result c.args.vcpu here before)
