use Rattle.std.proofs.Common.{arith, ap, sym, ◌∙◌, ◌+◌, List, drop}
use Rattle.svm_model.specs.Svm.VmcbLayout.{layout}
use Rattle.svm_model.specs.declared.vmcbs.FieldPlace.{FieldPlace}
use Rattle.vmcb_layout.specs.Reading.{reads_from}
use Rattle.vmcb_layout.proofs.LayoutLemmas.{are_read-step, are_read-end, drop-layout-at, reads-none}
use Rattle.vmcb_layout.proofs.reads.read_inside.Goals as goal

pub loop-number-preserved : goal.loop-number-preserved
loop-number-preserved g c = (
  are_read-step (omega (arith, c.loop-number-test.true)) c.place_at.ensures c.field_value-value.ensures.value c.set_at.ensures c.loop-number.invariant.0,
  c.field_value-value.ensures.piece,
  c.field_value-value.ensures.steps (drop (c.loop-number.number + 1) layout)
      ∙ ap (λ (ps : List FieldPlace). c.loop-number.steps + reads_from ps c.loop-number.piece.offset) (sym (drop-layout-at (omega (arith, c.loop-number-test.true)) c.place_at.ensures))
      ∙ c.loop-number.invariant.2,
)

pub returns-clause-fields : goal.returns-clause-fields
returns-clause-fields g c = are_read-end (omega (arith, c.loop-number-test.false, c.loop-number.auto.number-end)) c.loop-number.invariant.0

pub returns-clause-steps : goal.returns-clause-steps
returns-clause-steps g c = omega (arith, c.loop-number.invariant.2, reads-none c.loop-number.number c.loop-number.piece.offset (omega (arith, c.loop-number-test.false, c.loop-number.auto.number-end)))
