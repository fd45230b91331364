use Rattle.std.proofs.Common.{◌≡◌, ◌+◌, drop}
use Rattle.svm_model.specs.Svm.VmcbRules.{first_broken}
use Rattle.vmcb_checks.proofs.rules.first_broken.Given as goal

abbrev pub invariant-loop-i : goal.invariant-loop-i
invariant-loop-i l = first_broken (l.i + 1) (drop l.i l.rules) ≡ first_broken 1 l.rules
