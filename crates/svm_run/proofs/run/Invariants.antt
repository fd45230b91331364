use Rattle.std.proofs.Common.{◌≡◌, length}
use Rattle.svm_run.proofs.run.Given as goal

-- one device for each place so far
abbrev pub invariant-loop-place : goal.invariant-loop-place
invariant-loop-place g l = length l.devices.items ≡ l._place
