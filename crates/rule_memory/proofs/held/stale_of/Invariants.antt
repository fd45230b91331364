use Rattle.std.proofs.Common.{◌≡◌}
use Rattle.svm_model.specs.Audit.HeldFields.{stale_below}
use Rattle.rule_memory.proofs.held.stale_of.Given as goal

abbrev pub invariant-loop-group : goal.invariant-loop-group
invariant-loop-group l = l.first ≡ stale_below l.entering l.vmcb l.found l.held l.group
