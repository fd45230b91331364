-- What a write of a register of the APIC led to.
use Rattle.std.proofs.Common.{◌≡◌, Option, Some, None, refl}
use Rattle.svm_model.specs.Machine.ApicRegisters.{Written as Outcome}
use Rattle.svm_model.specs.Turn.Play.{sent_after, written_answer}
use Rattle.svm_model.specs.declared.apics.Ipi.{Ipi}
use Rattle.svm_model.specs.declared.turns.ApicAnswer.TheVariants as said
use Rattle.apic_state.specs.Answers.{answer_of, answer_for}
use Rattle.apic_state.specs.declared.access.Written.TheVariants.{Stored, Send, Unsupported}

stored_sends : (s : Option Ipi) → Stored ≡ answer_for s → s ≡ None
stored_sends None e = refl
stored_sends (Some ipi) e = absurd (cc)

send_sends : (s : Option Ipi) (ipi : Ipi) → Send ipi ≡ answer_for s → s ≡ Some ipi
send_sends None ipi e = absurd (cc)
send_sends (Some other) ipi e = cc

unsupported_sends : (s : Option Ipi) (A : Type 0) → Unsupported ≡ answer_for s → A
unsupported_sends None A e = absurd (cc)
unsupported_sends (Some ipi) A e = absurd (cc)

pub answer-stored : (o : Option Outcome) → Stored ≡ answer_of o → written_answer o ≡ said.Stored
answer-stored None e = absurd (cc)
answer-stored (Some w) e = refl

pub answer-send : (o : Option Outcome) (ipi : Ipi) → Send ipi ≡ answer_of o → written_answer o ≡ said.Stored
answer-send None ipi e = absurd (cc)
answer-send (Some w) ipi e = refl

pub answer-unsupported : (o : Option Outcome) → Unsupported ≡ answer_of o → written_answer o ≡ said.Unoffered
answer-unsupported None e = refl
answer-unsupported (Some w) e = unsupported_sends w.sent _ e

pub sent-stored : (o : Option Outcome) (before : Option Ipi) → Stored ≡ answer_of o → sent_after o before ≡ None
sent-stored None before e = absurd (cc)
sent-stored (Some w) before e = stored_sends w.sent e

pub sent-send : (o : Option Outcome) (before : Option Ipi) (ipi : Ipi) → Send ipi ≡ answer_of o → sent_after o before ≡ Some ipi
sent-send None before ipi e = absurd (cc)
sent-send (Some w) before ipi e = send_sends w.sent ipi e

pub sent-unsupported : (o : Option Outcome) (before : Option Ipi) → Unsupported ≡ answer_of o → sent_after o before ≡ before
sent-unsupported None before e = refl
sent-unsupported (Some w) before e = unsupported_sends w.sent _ e

pub ruleset told = (answer-stored, answer-send, answer-unsupported, sent-stored, sent-send, sent-unsupported)
