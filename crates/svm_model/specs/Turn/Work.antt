-- The work of a turn, and its course under a control (volume 2, 'Virtual Interrupts', 'Global Interrupt Flag', 'Event
-- Injection', 'Interrupt Intercepts').
use Rattle.std.specs.Prelude.{ℕ, ◌&&◌, Bool, true, false, not, if◌then◌else◌, Option, Some, None}
use Rattle.svm_model.specs.Turn.Control.{Control, asks, turn_by, with_live_irq}
use Rattle.svm_model.specs.Turn.Course.{Course, Done, Take}
use Rattle.svm_model.specs.Turn.Faults.{Came, came, deliver, finished, leaves}
use Rattle.svm_model.specs.declared.vcpus.Vcpu.{Vcpu}
use Rattle.svm_model.specs.Turn.Instruction.{instruction}
use Rattle.svm_model.specs.Svm.Intercepts.{asks_interrupts, asks_nmis, asks_virtual, interrupt_exit, nmi_exit, virtual_exit}
use Rattle.svm_model.specs.Svm.Vmcb.{Fields, v_intr_vector}
use Rattle.svm_model.specs.declared.exits.Exit.{Exit}
use Rattle.svm_model.specs.declared.traps.Cause.{Cause}
use Rattle.svm_model.specs.declared.traps.Cause.TheVariants as cause
use Rattle.svm_model.specs.declared.traps.Trap.{Trap}
use Rattle.svm_model.specs.declared.turns.Facts.{Facts}
use Rattle.svm_model.specs.declared.turns.Stepped.TheVariants.{Went}
use Rattle.svm_model.specs.declared.turns.Turn.{Turn}
use Rattle.svm_model.specs.declared.turns.Work.{Work}
use Rattle.svm_model.specs.declared.turns.Work.TheVariants.{Inject, Nmi, Interrupt, Virtual, Nothing, Instruction}

-- The first of these that applies.

abbrev pub is_some : Option ℕ → Bool
is_some None = false
is_some (Some n) = true

abbrev pub takes_nmi : Turn → Bool
takes_nmi t = t.nmi && t.gif && not t.nmi_blocked

abbrev pub takes_interrupt : Turn → Bool
takes_interrupt t = is_some t.interrupt && t.gif && not t.shadow && t.interrupt_flag

abbrev pub takes_virtual : Turn → Bool
takes_virtual t = t.virtual_ready && t.gif && not t.shadow

unfoldable pub next_work : Turn → Work
next_work t =
    if t.injection then Inject
    else if takes_nmi t then Nmi
    else if takes_interrupt t then Interrupt
    else if takes_virtual t then Virtual
    else if t.halted then Nothing
    else Instruction

-- What each comes to.

abbrev pub event : ℕ → Cause → Trap
event vector from = record { vector = vector; code = None; address = None; cause = from }

-- an event that is intercepted stays as it is; one that is not is taken before the first step of its delivery
abbrev pub unless_asked : (Fields → Bool) → Option Control → Vcpu → Exit → (Came → Course) → Course → Course
unless_asked test control vcpu exit next rest = if asks test control then next (leaves vcpu exit None) else rest

-- the event is delivered from the registers as they stand
abbrev pub taken_by : Option Control → Vcpu → Trap → (Came → Course) → Course
taken_by control vcpu trap next = deliver control vcpu vcpu.registers trap next

-- an injection is not looked at for an intercept, and is gone
abbrev pub inject : Option Control → Vcpu → Option Trap → (Came → Course) → Course
inject control vcpu None next = next (came vcpu Went)
inject control vcpu (Some trap) next = taken_by control (record vcpu { held = None }) trap next

abbrev pub take_nmi : Option Control → Vcpu → (Came → Course) → Course
take_nmi control vcpu next =
    unless_asked asks_nmis control vcpu nmi_exit next (taken_by control (record vcpu { nmi = false }) (event 2 cause.Nmi) next)

-- the APIC's vector goes from IRR to ISR
abbrev pub take_interrupt : Option Control → Vcpu → Option ℕ → (Came → Course) → Course
take_interrupt control vcpu None next = next (came vcpu Went)
take_interrupt control vcpu (Some vector) next =
    unless_asked asks_interrupts control vcpu interrupt_exit next (Take (taken_by control vcpu (event vector cause.External) next))

abbrev pub virtual_vector : Option Control → ℕ
virtual_vector None = 0
virtual_vector (Some c) = v_intr_vector c.fields

abbrev pub take_virtual : Option Control → Vcpu → (Came → Course) → Course
take_virtual control vcpu next =
    unless_asked asks_virtual control vcpu virtual_exit next
    (taken_by control (record vcpu { inside = with_live_irq false vcpu.inside }) (event (virtual_vector control) cause.External) next)

unfoldable pub course_of : Work → Option Control → Facts → Vcpu → Option ℕ → (Came → Course) → Course
course_of Inject control facts vcpu interrupt next = inject control vcpu vcpu.held next
course_of Nmi control facts vcpu interrupt next = take_nmi control vcpu next
course_of Interrupt control facts vcpu interrupt next = take_interrupt control vcpu interrupt next
course_of Virtual control facts vcpu interrupt next = take_virtual control vcpu next
course_of Nothing control facts vcpu interrupt next = next (came vcpu Went)
course_of Instruction control facts vcpu interrupt next = instruction control facts vcpu (finished control vcpu next)

-- the turn is over
abbrev pub done : Came → Course
done c = Done c.vcpu c.stepped

-- the course of a turn, where its APIC gives this vector
abbrev pub turn_course : Option Control → Facts → Vcpu → Option ℕ → Course
turn_course control facts vcpu interrupt = course_of (next_work (turn_by control vcpu interrupt)) control facts vcpu interrupt done
