use Rattle.std.proofs.Common.{◌≡◌}
use Rattle.svm_model.specs.Audit.HeldFields.{with_groups}
use Rattle.rule_memory.proofs.held.enter.Given as goal

abbrev pub invariant-loop-group : goal.invariant-loop-group
invariant-loop-group l = l.held ≡ with_groups l.found l.group l.fn.held
