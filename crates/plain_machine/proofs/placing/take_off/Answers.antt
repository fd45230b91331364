use Rattle.std.proofs.Common.{rules}
use Rattle.std.proofs.lemmas.List.Edits.{map_over_more}
use Rattle.svm_model.specs.Machine.Events.{without}
use Rattle.plain_machine.proofs.placing.take_off.Goals as goal

pub loop-i-preserved : goal.loop-i-preserved
loop-i-preserved c = search (rules, map_over_more (without c.args.vcpu))
