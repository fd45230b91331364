use Rattle.std.proofs.Common.{◌∙◌, arith, sym}
use Rattle.svm_model.specs.Machine.Turns.{with_nmi}
use Rattle.plain_machine.proofs.SendingLemmas.{nmis-each, none-nmi, received_all, received_next}
use Rattle.plain_machine.proofs.sending.receive_nmis.Goals as goal

pub loop-i-preserved : goal.loop-i-preserved
loop-i-preserved c = record {
  received = received_next with_nmi none-nmi c.args.mask c.loop-i.rest c.loop-i.i _ c.loop-i.vcpus _ c.receive_nmi.new.vcpu (omega (arith, c.loop-i-test.true, c.loop-i.auto.vcpus)) c.loop-i.invariant.received (c.receive_nmi.ensures);
}

pub returns : goal.returns
returns c = λ targets e.
    received_all with_nmi c.args.mask c.loop-i.rest c.loop-i.i _ c.loop-i.vcpus (omega (arith, c.loop-i-test.false, c.loop-i.auto.vcpus)) c.loop-i.invariant.received targets e
    ∙ sym (nmis-each targets _)
