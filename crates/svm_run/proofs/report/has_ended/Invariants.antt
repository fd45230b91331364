use Rattle.std.proofs.Common.{◌≡◌, drop}
use Rattle.svm_run.specs.Outcome.{has_ended}
use Rattle.svm_run.proofs.report.has_ended.Given as goal

-- no guest so far was ended
abbrev pub invariant-loop-number : goal.invariant-loop-number
invariant-loop-number l = has_ended (drop l.number l.machine.world.guests) ≡ has_ended l.machine.world.guests
