use Rattle.std.proofs.Common.{◌≡◌, drop}
use Rattle.svm_model.specs.Svm.Vmcb.{values_of, with_values}
use Rattle.rule_memory.proofs.held.set_values.Given as goal

abbrev pub invariant-loop-field : goal.invariant-loop-field
invariant-loop-field l =
    with_values (values_of l.from (drop l.field-index l.list)) l.fields ≡ with_values (values_of l.from l.list) l.fn.fields
