use Rattle.std.proofs.Common.{◌∙◌, ◌+◌, Some, Ok, ap, arith}
use Rattle.std.proofs.lemmas.Result.{err_from_is_err_and}
use Rattle.svm_model.specs.Machine.Shapes.{image_shape}
use Rattle.script_format.proofs.Lawful.{few_behind}
use Rattle.script_format.proofs.Whole.{goes_on, goes_past, ends, is_done}
use Rattle.script_format.proofs.parsing.script_from.Goals as goal

pub returns-in_err-said : goal.returns-in_err-said
returns-in_err-said c =
    let shape = image_shape c.args.image.now in
    let p = err_from_is_err_and c.from_residual.result c.from_residual.ensures.1 in
    rw (p.1, p.2) (ends shape c.in_err-said.field-0.0 c.loop-line.found.items (c.loop-line.number + 1) c.loop-line.events c.loop-line.line-index c.args.lines.now _ _ c.loop-line-test.true c.in_err-said.ensures c.loop-line.invariant.so_far)

pub loop-line-preserved-in_default : goal.loop-line-preserved-in_default
loop-line-preserved-in_default c = record {
  so_far = goes_past (image_shape c.args.image.now) c.loop-line.found.items (c.loop-line.number + 1) c.loop-line.events c.loop-line.line-index c.args.lines.now _ _ c.loop-line-test.true
      (c.in_ok-said.ensures ∙ ap (λ said. Ok said) c.in_default.is) c.loop-line.invariant.so_far;
  last = omega arith;
  few = c.loop-line.invariant.few;
}

pub events_behind-events-requires : goal.events_behind-events-requires
events_behind-events-requires c = record {
  few = few_behind (image_shape c.args.image.now) (c.loop-line.number + 1) c.loop-line.events _ (Some c.in-Some.said) c.requires.lawful.some_cpus c.loop-line.invariant.few (c.in_ok-said.ensures ∙ ap (λ said. Ok said) c.in-Some.is);
}

pub loop-line-preserved : goal.loop-line-preserved
loop-line-preserved c =
    let shape = image_shape c.args.image.now in
    let said = c.in_ok-said.ensures ∙ ap (λ said. Ok said) c.in-Some.is in
    record {
      so_far = rw (c.in_ok-push.ensures.items, c.events_behind-events.ensures) (goes_on shape c.loop-line.found.items (c.loop-line.number + 1) c.loop-line.events c.loop-line.line-index c.args.lines.now _ (Some c.in-Some.said) _ c.loop-line-test.true
          said c.loop-line.invariant.so_far);
      last = omega arith;
      few = rw c.events_behind-events.ensures (few_behind shape (c.loop-line.number + 1) c.loop-line.events _ (Some c.in-Some.said) c.requires.lawful.some_cpus c.loop-line.invariant.few said);
    }

pub returns : goal.returns
returns c = is_done (image_shape c.args.image.now) c.loop-line.found.items (c.loop-line.number + 1) c.loop-line.events c.loop-line.line-index c.args.lines.now _ c.loop-line-test.false c.loop-line.invariant.so_far
