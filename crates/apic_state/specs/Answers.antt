-- What is answered to a write, and to an event of the timer.
use Rattle.std.specs.Prelude.{ℕ, ◌%◌, Bool, ◌&&◌, not, Option, Some, None}
use Rattle.svm_model.specs.Machine.Apic.{Apic, is_accepted, is_due, is_masked, timer_word}
use Rattle.svm_model.specs.Machine.ApicRegisters.{Written as Outcome}
use Rattle.svm_model.specs.declared.apics.Ipi.{Ipi}
use Rattle.apic_state.specs.declared.access.Written.{Written}
use Rattle.apic_state.specs.declared.access.Written.TheVariants.{Stored, Send, Unsupported}

abbrev pub answer_for : Option Ipi → Written
answer_for None = Stored
answer_for (Some ipi) = Send ipi

-- what a write that leads to this answers
abbrev pub answer_of : Option Outcome → Written
answer_of None = Unsupported
answer_of (Some outcome) = answer_for outcome.sent

-- the APIC behind it
abbrev pub after : Apic → Option Outcome → Apic
after a None = a
after a (Some outcome) = outcome.apic

-- the timer's vector was accepted, and not dropped
abbrev pub has_expired : Apic → ℕ → Bool
has_expired a event = is_due a event && (not (is_masked (timer_word a)) && is_accepted a (timer_word a % 256))
