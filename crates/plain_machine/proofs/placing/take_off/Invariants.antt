use Rattle.std.proofs.Common.{◌≡◌, ◌++◌, map, take, drop}
use Rattle.svm_model.specs.Machine.Events.{without}
use Rattle.plain_machine.proofs.placing.take_off.Given as goal

-- it stands on none of the processors so far
abbrev pub invariant-loop-i : goal.invariant-loop-i
invariant-loop-i l = record {
  so_far : l.placing ≡ map (without l.vcpu) (take l.i l.initial.placing) ++ drop l.i l.initial.placing;
}
