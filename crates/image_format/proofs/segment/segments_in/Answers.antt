use Rattle.std.proofs.lemmas.Result.{err_from_is_err_and}
use Rattle.svm_model.specs.Formats.ImageBytes.{segment_in, many_in}
use Rattle.image_format.specs.Reading.{left}
use Rattle.image_format.proofs.Many.{goes_on, ends, is_done}
use Rattle.image_format.proofs.segment.segments_in.Goals as goal

pub returns-in_err-segment : goal.returns-in_err-segment
returns-in_err-segment c =
    let p = err_from_is_err_and c.from_residual.result c.from_residual.ensures.1 in
    rw (p.1, p.2) (ends (segment_in c.args.pages) c.in_err-segment.field-0.0 c.loop.segments.items c.args.count c.loop.counter (left c.loop.rest) (many_in (segment_in c.args.pages) c.args.count (left c.args.source)) c.loop-test.true c.in_err-segment.ensures c.loop.invariant)

pub loop-preserved : goal.loop-preserved
loop-preserved c =
    rw c.in_ok-push.ensures.items (goes_on (segment_in c.args.pages) c.loop.segments.items c.args.count c.loop.counter (left c.loop.rest) c.in_ok-segment.segment (left c.in_ok-segment.after) (many_in (segment_in c.args.pages) c.args.count (left c.args.source)) c.loop-test.true c.in_ok-segment.ensures c.loop.invariant)

pub returns : goal.returns
returns c = is_done (segment_in c.args.pages) c.loop.segments.items c.args.count c.loop.counter (left c.loop.rest) (many_in (segment_in c.args.pages) c.args.count (left c.args.source)) c.loop-test.false c.loop.invariant
