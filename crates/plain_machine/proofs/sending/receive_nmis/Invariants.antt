use Rattle.svm_model.specs.Machine.Turns.{with_nmi}
use Rattle.plain_machine.proofs.SendingLemmas.{Received}
use Rattle.plain_machine.proofs.sending.receive_nmis.Given as goal

-- those before have received it
abbrev pub invariant-loop-i : goal.invariant-loop-i
invariant-loop-i l = record {
  received : Received with_nmi l.mask l.rest l.i l.initial.vcpus l.vcpus;
}
