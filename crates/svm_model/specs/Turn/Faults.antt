-- What comes of an exception or an interrupt under a control: its exit, or its delivery and what the faults of its delivery
-- lead to, all in one turn (volume 2, 'Exception Intercepts', 'Double-Fault Exception', 'Shutdown').
use Rattle.std.specs.Prelude.{ℕ, suc, zero, [], Bool, true, false, ◌||◌, if◌then◌else◌, Option, Some, None, Result, Ok, Err}
use Rattle.svm_model.specs.Turn.Along.{along}
use Rattle.svm_model.specs.Turn.Control.{Control, asks}
use Rattle.svm_model.specs.Turn.Course.{Course}
use Rattle.svm_model.specs.Turn.Delivery.{delivery}
use Rattle.svm_model.specs.Turn.DoubleFaults.{combined}
use Rattle.svm_model.specs.declared.vcpus.Vcpu.{Vcpu}
use Rattle.svm_model.specs.Svm.Intercepts.{asks_shutdown, nested_exit, shutdown_exit, trap_exit}
use Rattle.svm_model.specs.declared.exits.Exit.{Exit}
use Rattle.svm_model.specs.declared.names.End.{End}
use Rattle.svm_model.specs.declared.names.End.TheVariants as end
use Rattle.svm_model.specs.declared.register_file.Registers.{Registers}
use Rattle.svm_model.specs.declared.traps.Cause.{Cause}
use Rattle.svm_model.specs.declared.traps.Cause.TheVariants as cause
use Rattle.svm_model.specs.declared.traps.Combined.{Combined}
use Rattle.svm_model.specs.declared.traps.Combined.TheVariants.{Deliver, Shutdown}
use Rattle.svm_model.specs.declared.traps.Trap.{Trap}
use Rattle.svm_model.specs.declared.turns.Stepped.{Stepped}
use Rattle.svm_model.specs.declared.turns.Stepped.TheVariants.{Went, Leaves, Ends}
use Rattle.svm_model.specs.declared.turns.Stop.{Stop}
use Rattle.svm_model.specs.declared.turns.Stop.TheVariants as stop

-- what a turn or a row of it comes to: the vcpu behind it, and how it comes out
pub record Came : Type 0 where
  pub vcpu : Vcpu
  pub stepped : Stepped

abbrev pub came : Vcpu → Stepped → Came
came vcpu stepped = record { vcpu = vcpu; stepped = stepped }

abbrev pub ends : Vcpu → End → Came
ends vcpu e = came vcpu (Ends e)

-- the guest is left, with the event that was in delivery
abbrev pub leaves : Vcpu → Exit → Option Trap → Came
leaves vcpu exit delivering = came vcpu (Leaves exit delivering)

-- An exception is looked at for an exit; INT3's tells the next instruction.

abbrev pub exit_under : Option Control → Trap → ℕ → Option Exit
exit_under None trap next_rip = None
exit_under (Some c) trap next_rip = trap_exit c.fields trap next_rip

abbrev pub unless_exit : Option Exit → Vcpu → Option Trap → (Came → Course) → Course → Course
unless_exit None vcpu delivering next rest = rest
unless_exit (Some exit) vcpu delivering next rest = next (leaves vcpu exit delivering)

-- where no event is to be delivered any more: its exit, or the guest shuts down
abbrev pub shut_down : Option Control → Vcpu → Trap → Came
shut_down control vcpu trap = if asks asks_shutdown control then leaves vcpu shutdown_exit (Some trap) else ends vcpu end.Shutdown

-- the vcpu behind a delivery: it is no longer halted, and behind that of an NMI further ones are blocked
abbrev pub is_nmi : Cause → Bool
is_nmi cause.Fault = false
is_nmi cause.Software = false
is_nmi cause.External = false
is_nmi cause.Nmi = true

abbrev pub delivered : Vcpu → Trap → Registers → Vcpu
delivered vcpu trap r = record vcpu { registers = r; nmi_blocked = vcpu.nmi_blocked || is_nmi trap.cause; halted = false }

-- a fault of a delivery pushes the address of the instruction
abbrev pub again : Vcpu → Registers → Registers
again vcpu from = record from { rip = vcpu.registers.rip }

abbrev pub on_combined : Option Control → Vcpu → Trap → (Trap → Course) → (Came → Course) → Combined → Course
on_combined control vcpu trap deliver next (Deliver other) = unless_exit (exit_under control other 0) vcpu (Some trap) next (deliver other)
on_combined control vcpu trap deliver next Shutdown = next (shut_down control vcpu trap)

-- What comes of the delivery of an event. A second fault is looked at before it is combined, and what combining gives before
-- its delivery.
abbrev pub on_delivery : Option Control → Vcpu → Trap → (Trap → Course) → (Came → Course) → Result Registers Stop → Course
on_delivery control vcpu trap deliver next (Ok r) = next (came (delivered vcpu trap r) Went)
on_delivery control vcpu trap deliver next (Err (stop.Trap second)) =
    unless_exit (exit_under control second 0) vcpu (Some trap) next (on_combined control vcpu trap deliver next (combined trap second))
on_delivery control vcpu trap deliver next (Err (stop.Nested code address)) = next (leaves vcpu (nested_exit code address) (Some trap))
on_delivery control vcpu trap deliver next (Err (stop.Ended e)) = next (ends vcpu e)

-- The delivery of an event from these registers, whose RIP is pushed, while the vcpu is what an exit or an end finds. At most
-- so many deliveries may follow one another: after the first a contributory fault, a page fault and a double fault.
unfoldable pub delivering : ℕ → Option Control → Vcpu → Registers → Trap → (Came → Course) → Course
delivering zero control vcpu from trap next = next (ends vcpu end.Shutdown)
delivering (suc more) control vcpu from trap next =
    along [] (delivery trap from)
    (on_delivery control vcpu trap (λ other. delivering more control vcpu (again vcpu from) other next) next)

abbrev pub deliver : Option Control → Vcpu → Registers → Trap → (Came → Course) → Course
deliver = delivering 4

-- the registers of a vcpu whose instruction is behind, and with it the interrupt shadow
abbrev pub without_shadow : Vcpu → Registers
without_shadow vcpu = record vcpu.registers { shadow = false }

-- a fault of an instruction: its exit, or its delivery
unfoldable pub fault : Option Control → Vcpu → Trap → (Came → Course) → Course
fault control vcpu trap next =
    unless_exit (exit_under control trap 0) vcpu None next (deliver control vcpu (without_shadow vcpu) trap next)

-- what an instruction comes to, or what stops it
abbrev pub finished : Option Control → Vcpu → (Came → Course) → Result Came Stop → Course
finished control vcpu next (Ok c) = next c
finished control vcpu next (Err (stop.Trap trap)) = fault control vcpu trap next
finished control vcpu next (Err (stop.Nested code address)) = next (leaves vcpu (nested_exit code address) None)
finished control vcpu next (Err (stop.Ended e)) = next (ends vcpu e)
