-- The course of what a system row asks for beyond the registers, under a control.
use Rattle.std.specs.Prelude.{ℕ, ◌*◌, ◌%◌, ◌^◌, nat_le, List, [], Bool, true, false, if◌then◌else◌, Option, None, Result, Ok, Err}
use Rattle.svm_model.specs.Turn.Accesses.{results_written}
use Rattle.svm_model.specs.Turn.Along.{along}
use Rattle.svm_model.specs.Turn.Control.{Control, asid_of, masks_interrupts, owns_gif, with_live_tpr, with_live_gif}
use Rattle.svm_model.specs.Turn.Course.{Course, Drop, In, Out, Priority}
use Rattle.svm_model.specs.Turn.Faults.{Came, came, deliver, exit_under, unless_exit}
use Rattle.svm_model.specs.declared.vcpus.Vcpu.{Vcpu}
use Rattle.svm_model.specs.Instructions.Operands.{rax, rcx, state, whole_register, with_register}
use Rattle.svm_model.specs.Turn.Return.{coming_back}
use Rattle.svm_model.specs.declared.exits.Exit.{Exit}
use Rattle.svm_model.specs.declared.ports.PortWrite.{PortWrite}
use Rattle.svm_model.specs.declared.register_file.Registers.{Registers}
use Rattle.svm_model.specs.declared.rows.Op.{Op}
use Rattle.svm_model.specs.declared.rows.Op.TheVariants as op
use Rattle.svm_model.specs.declared.rows.PlannedAccess.{PlannedAccess}
use Rattle.svm_model.specs.declared.rows.Row.{Row}
use Rattle.svm_model.specs.declared.rows.Width.{Width}
use Rattle.svm_model.specs.declared.system.Flush.{Flush}
use Rattle.svm_model.specs.declared.system.Flush.TheVariants as flush
use Rattle.svm_model.specs.declared.system.Outside.{Outside}
use Rattle.svm_model.specs.declared.system.Outside.TheVariants as outside
use Rattle.svm_model.specs.declared.traps.Cause.TheVariants.{Software}
use Rattle.svm_model.specs.declared.traps.Trap.{Trap}
use Rattle.svm_model.specs.declared.turns.Facts.{Facts}
use Rattle.svm_model.specs.declared.turns.Stop.{Stop}
use Rattle.svm_model.specs.declared.turns.Stop.TheVariants as stop
use Rattle.svm_model.specs.declared.turns.Stepped.TheVariants.{Went, Moves}

-- a row in its turn: what it is under, what is known, the vcpu before it, the row, and the next instruction
pub record Doing : Type 0 where
  pub control : Option Control
  pub facts : Facts
  pub vcpu : Vcpu
  pub row : Row
  pub next_rip : ℕ

abbrev pub went : Doing → Registers → Came
went d r = came (record d.vcpu { registers = r }) Went

-- what follows a row: what it comes to, or what stops it
abbrev pub going : Doing → Registers → (Result Came Stop → Course) → Course
going d r next = next (Ok (went d r))

abbrev pub coming : (Result Came Stop → Course) → Came → Course
coming next c = next (Ok c)

-- the registers behind a row that leaves them to what it asks for
abbrev pub behind : Doing → Registers
behind d = record d.vcpu.registers { rip = d.next_rip; shadow = false }

-- INT3 is an exception, which is looked at; INT n is none. Both push the next instruction.

abbrev pub software_trap : ℕ → Trap
software_trap vector = record { vector = vector; code = None; address = None; cause = Software }

abbrev pub interrupt_exit_of : Doing → ℕ → Bool → Option Exit
interrupt_exit_of d vector true = None
interrupt_exit_of d vector false = exit_under d.control (software_trap vector) d.next_rip

unfoldable pub with_interrupt : Doing → ℕ → Bool → (Result Came Stop → Course) → Course
with_interrupt d vector software next =
    unless_exit (interrupt_exit_of d vector software) d.vcpu None (coming next) (deliver d.control d.vcpu (behind d) (software_trap vector) (coming next))

-- IRETQ: NMIs are no longer blocked
abbrev pub back : Doing → Registers → Came
back d r = came (record d.vcpu { registers = record r { shadow = false }; nmi_blocked = false }) Went

abbrev pub on_return : Doing → (Result Came Stop → Course) → Result Registers Stop → Course
on_return d next (Ok r) = next (Ok (back d r))
on_return d next (Err reason) = next (Err reason)

unfoldable pub with_return : Doing → (Result Came Stop → Course) → Course
with_return d next = along [] (coming_back d.vcpu.registers) (on_return d next)

-- Ports.

abbrev pub with_input : Width → ℕ → Registers → Registers
with_input w value r = (with_register w rax false value (state r [])).registers

abbrev pub port_write : Facts → ℕ → ℕ → ℕ → PortWrite
port_write facts port width value = record { event = facts.event; vcpu = facts.vcpu; port = port; width = width; value = value }

-- where what a row asks for is refused the vcpu stands before it
abbrev pub where_done : Doing → Registers → Bool → Came
where_done d r done = if done then went d r else came d.vcpu Went

unfoldable pub with_output : Doing → Registers → PortWrite → (Result Came Stop → Course) → Course
with_output d r write next = Out write (λ done. next (Ok (where_done d r done)))

unfoldable pub with_flush : Doing → Registers → Flush → (Result Came Stop → Course) → Course
with_flush d r flush next = Drop flush (λ done. next (Ok (where_done d r done)))

-- a write of CR8: V_TPR under V_INTR_MASKING, else the TPR of the APIC
unfoldable pub with_priority : Doing → Registers → ℕ → (Result Came Stop → Course) → Course
with_priority d r value next =
    if masks_interrupts d.control then next (Ok (came (record d.vcpu { registers = r; inside = with_live_tpr value d.vcpu.inside }) Went))
    else Priority (16 * value) (going d r next)

-- The rows of SVM that stay in the turn (volume 3, 'STGI', 'CLGI', 'INVLPGA'; volume 2, 'Virtual GIF').

abbrev pub with_gif : Bool → Doing → Came
with_gif gif d =
    if owns_gif d.control then came (record d.vcpu { registers = behind d; inside = with_live_gif gif d.vcpu.inside }) Went
    else came (record d.vcpu { registers = behind d; gif = gif }) Went

-- address-space identifiers above 15 have no translations
abbrev pub with_page_dropped : Doing → (Result Came Stop → Course) → Course
with_page_dropped d next =
    let asid = whole_register rcx d.vcpu.registers % 2 ^ 32 in
    if nat_le asid 15 then with_flush d (behind d) (flush.Page asid (whole_register rax d.vcpu.registers)) next else going d (behind d) next

-- VMRUN, VMLOAD and VMSAVE move a VMCB, which is left to whom the turn comes out to
unfoldable pub with_svm : Op → Doing → (Result Came Stop → Course) → Course
with_svm op.Stgi d next = next (Ok (with_gif true d))
with_svm op.Clgi d next = next (Ok (with_gif false d))
with_svm op.Invlpga d next = with_page_dropped d next
with_svm o d next = next (Ok (came d.vcpu (Moves o d.next_rip)))

-- what is asked for, where these accesses were planned
unfoldable pub with_outside : Doing → List PlannedAccess → List ℕ → List ℕ → Registers → Outside → (Result Came Stop → Course) → Course
with_outside d plan numbers results r outside.None next = results_written 0 plan numbers results (going d r next)
with_outside d plan numbers results r outside.Halt next = next (Ok (came (record d.vcpu { registers = r; halted = true }) Went))
with_outside d plan numbers results r outside.Shadow next = going d (record r { shadow = true }) next
with_outside d plan numbers results r (outside.Interrupt vector software) next = with_interrupt d vector software next
with_outside d plan numbers results r outside.Return next = with_return d next
with_outside d plan numbers results r (outside.PortRead port width) next = In port width (λ value. going d (with_input d.row.width value r) next)
with_outside d plan numbers results r (outside.PortWrite port width value) next = with_output d r (port_write d.facts port width value) next
with_outside d plan numbers results r outside.DropLocal next = with_flush d r (flush.Local (asid_of d.control)) next
with_outside d plan numbers results r outside.DropAsid next = with_flush d r (flush.Asid (asid_of d.control)) next
with_outside d plan numbers results r (outside.DropPage address) next = with_flush d r (flush.Page (asid_of d.control) address) next
with_outside d plan numbers results r (outside.Priority value) next = with_priority d r value next
with_outside d plan numbers results r outside.Svm next = with_svm d.row.op d next
with_outside d plan numbers results r (outside.Ends e) next = next (Err (stop.Ended e))
