use Rattle.std.proofs.Common.{◌∙◌, arith, refl, sym, Bool}
use Rattle.svm_model.specs.Machine.Apic.{Apic}
use Rattle.svm_model.specs.Machine.Turns.{accepted_where}
use Rattle.plain_machine.proofs.SendingLemmas.{vectors-each, received_all, received_next}
use Rattle.plain_machine.proofs.sending.receive_vectors.Goals as goal

pub loop-i-preserved : goal.loop-i-preserved
loop-i-preserved c = record {
  received = received_next (λ (t : Bool) (a : Apic). accepted_where t c.args.vector a) (λ a. refl) c.args.mask c.loop-i.rest c.loop-i.i _ c.loop-i.apics _ c.receive_vector.new.apic (omega (arith, c.loop-i-test.true, c.loop-i.auto.apics)) c.loop-i.invariant.received (c.receive_vector.ensures);
}

pub returns : goal.returns
returns c = λ targets e.
    received_all (λ (t : Bool) (a : Apic). accepted_where t c.args.vector a) c.args.mask c.loop-i.rest c.loop-i.i _ c.loop-i.apics (omega (arith, c.loop-i-test.false, c.loop-i.auto.apics)) c.loop-i.invariant.received targets e
    ∙ sym (vectors-each c.args.vector targets _)
