use Rattle.std.proofs.Common.{◌≡◌, drop}
use Rattle.svm_model.specs.Audit.HeldFields.{first_differing}
use Rattle.rule_memory.proofs.held.first_differing.Given as goal

abbrev pub invariant-loop-field : goal.invariant-loop-field
invariant-loop-field l = first_differing l.found l.held (drop l.field-index l.list) ≡ first_differing l.found l.held l.list
