use Rattle.std.proofs.Common.{Bool}
use Rattle.svm_model.specs.Machine.Apic.{Apic}
use Rattle.svm_model.specs.Machine.Turns.{accepted_where}
use Rattle.plain_machine.proofs.SendingLemmas.{Received}
use Rattle.plain_machine.proofs.sending.receive_vectors.Given as goal

-- those before have received it
abbrev pub invariant-loop-i : goal.invariant-loop-i
invariant-loop-i l = record {
  received : Received (λ (t : Bool) (a : Apic). accepted_where t l.vector a) l.mask l.rest l.i l.initial.apics l.apics;
}
