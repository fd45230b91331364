use Rattle.std.proofs.lemmas.Result.{err_from_is_err_and}
use Rattle.svm_model.specs.Formats.ImageBytes.{many_in}
use Rattle.svm_model.specs.Formats.ImageVcpus.{vcpu_in}
use Rattle.image_format.specs.Reading.{left}
use Rattle.image_format.proofs.Many.{goes_on, ends, is_done}
use Rattle.image_format.proofs.vcpu.vcpus_in.Goals as goal

pub returns-in_err-vcpu : goal.returns-in_err-vcpu
returns-in_err-vcpu c =
    let p = err_from_is_err_and c.from_residual.result c.from_residual.ensures.1 in
    rw (p.1, p.2) (ends vcpu_in c.in_err-vcpu.field-0.0 c.loop.vcpus.items c.args.count c.loop.counter (left c.loop.rest) (many_in vcpu_in c.args.count (left c.args.source)) c.loop-test.true c.in_err-vcpu.ensures c.loop.invariant)

pub loop-preserved : goal.loop-preserved
loop-preserved c =
    rw c.in_ok-push.ensures.items (goes_on vcpu_in c.loop.vcpus.items c.args.count c.loop.counter (left c.loop.rest) c.in_ok-vcpu.vcpu (left c.in_ok-vcpu.after) (many_in vcpu_in c.args.count (left c.args.source)) c.loop-test.true c.in_ok-vcpu.ensures c.loop.invariant)

pub returns : goal.returns
returns c = is_done vcpu_in c.loop.vcpus.items c.args.count c.loop.counter (left c.loop.rest) (many_in vcpu_in c.args.count (left c.args.source)) c.loop-test.false c.loop.invariant
