use Rattle.std.proofs.lemmas.Result.{err_from_is_err_and}
use Rattle.svm_model.specs.Formats.ImageBytes.{guest_in, many_in}
use Rattle.image_format.specs.Reading.{left}
use Rattle.image_format.proofs.Many.{goes_on, ends, is_done}
use Rattle.image_format.proofs.guest.guests_in.Goals as goal

pub returns-in_err-guest : goal.returns-in_err-guest
returns-in_err-guest c =
    let p = err_from_is_err_and c.from_residual.result c.from_residual.ensures.1 in
    rw (p.1, p.2) (ends guest_in c.in_err-guest.field-0.0 c.loop.guests.items c.args.count c.loop.counter (left c.loop.rest) (many_in guest_in c.args.count (left c.args.source)) c.loop-test.true c.in_err-guest.ensures c.loop.invariant)

pub loop-preserved : goal.loop-preserved
loop-preserved c =
    rw c.in_ok-push.ensures.items (goes_on guest_in c.loop.guests.items c.args.count c.loop.counter (left c.loop.rest) c.in_ok-guest.guest (left c.in_ok-guest.after) (many_in guest_in c.args.count (left c.args.source)) c.loop-test.true c.in_ok-guest.ensures c.loop.invariant)

pub returns : goal.returns
returns c = is_done guest_in c.loop.guests.items c.args.count c.loop.counter (left c.loop.rest) (many_in guest_in c.args.count (left c.args.source)) c.loop-test.false c.loop.invariant
