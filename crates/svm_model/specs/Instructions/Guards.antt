-- What is looked at before a system row is done: the faults that precede its intercept, and the intercept. One line a row, in
-- the order of the table of rows (volume 2, 'Instruction Intercepts', 'Exceptions and Intercepts'; volume 3, 'System
-- Instruction Reference'). The other faults of a row, and the ends of the guest, come behind its intercept.
use Rattle.std.specs.Prelude.{ℕ, ◌-◌, ◌^◌, nat_le, nat_lt, Bool, true, false, ◌==◌, ◌&&◌, ◌||◌, not, if◌then◌else◌, Option, Some, None, []}
use Rattle.svm_model.specs.Memory.Bits.{bit, has_some}
use Rattle.svm_model.specs.Instructions.Exceptions.{general_protection, invalid_opcode}
use Rattle.svm_model.specs.Instructions.Operands.{operand_value, whole_register, rax}
use Rattle.svm_model.specs.Memory.RegisterFile.{io_privilege}
use Rattle.svm_model.specs.declared.guards.Before.{Before}
use Rattle.svm_model.specs.declared.guards.Before.TheVariants.{Nothing, Supervisor, PortLevel, TimeStamp, ControlValue, DebugValue, Svm, SvmSupervisor, SvmPage}
use Rattle.svm_model.specs.declared.guards.Guard.{Guard}
use Rattle.svm_model.specs.declared.guards.Intercept.{Intercept}
use Rattle.svm_model.specs.declared.guards.Intercept.TheVariants.{Never, WordC, Word10, Control, Debug, Ports, Msrs, Always}
use Rattle.svm_model.specs.declared.register_file.Registers.{Registers}
use Rattle.svm_model.specs.declared.rows.Form.{Form}
use Rattle.svm_model.specs.declared.rows.Form.TheVariants as form
use Rattle.svm_model.specs.declared.rows.Op.{Op}
use Rattle.svm_model.specs.declared.rows.Op.TheVariants as op
use Rattle.svm_model.specs.declared.rows.Row.{Row}
use Rattle.svm_model.specs.declared.rows.Width.TheVariants.{W64}
use Rattle.svm_model.specs.declared.traps.Trap.{Trap}

abbrev pub guard : Before → Intercept → Guard
guard before intercept = record { before = before; intercept = intercept }

unfoldable pub guard_of : Op → Guard
guard_of op.Pause = guard Nothing (WordC 23)
guard_of op.Hlt = guard Supervisor (WordC 24)
guard_of op.Ud2 = guard Nothing Never
guard_of op.Cli = guard PortLevel Never
guard_of op.Sti = guard PortLevel Never
guard_of op.Pushfq = guard Nothing (WordC 16)
guard_of op.Popfq = guard Nothing (WordC 17)
guard_of op.Int3 = guard Nothing Never
guard_of op.Int = guard Nothing (WordC 21)
guard_of op.Iretq = guard Nothing (WordC 20)
guard_of op.In = guard PortLevel Ports
guard_of op.Out = guard PortLevel Ports
guard_of op.MovCr = guard ControlValue Control
guard_of op.MovDr = guard DebugValue Debug
guard_of op.Rdmsr = guard Supervisor Msrs
guard_of op.Wrmsr = guard Supervisor Msrs
guard_of op.Cpuid = guard Nothing (WordC 18)
guard_of op.Rdtsc = guard TimeStamp (WordC 14)
guard_of op.Lgdt = guard Supervisor (WordC 11)
guard_of op.Lidt = guard Supervisor (WordC 10)
guard_of op.Invlpg = guard Supervisor (WordC 25)
guard_of op.Swapgs = guard Supervisor Never
guard_of op.Vmrun = guard SvmPage (Always 0x80)
guard_of op.Vmmcall = guard Svm (Word10 1)
guard_of op.Vmload = guard SvmPage (Word10 2)
guard_of op.Vmsave = guard SvmPage (Word10 3)
guard_of op.Stgi = guard SvmSupervisor (Word10 4)
guard_of op.Clgi = guard SvmSupervisor (Word10 5)
guard_of op.Invlpga = guard SvmSupervisor (WordC 26)
guard_of _ = guard Nothing Never

-- the forms of MOV CR and MOV DR that write the register
unfoldable pub writes_special : Form → Bool
writes_special form.MovCr0F22 = true
writes_special form.MovDr0F23 = true
writes_special _ = false

-- the general register of MOV CR and MOV DR
abbrev pub special_operand : Row → Registers → ℕ
special_operand row r = operand_value W64 row.operand r []

-- CR0: bits 63:32, PG without PE, NW without CD
abbrev pub is_refused_cr0 : ℕ → Bool
is_refused_cr0 value = has_some value (2 ^ 64 - 2 ^ 32) || (bit 31 value && not (bit 0 value)) || (bit 29 value && not (bit 30 value))

-- CR3: bits 63:40
abbrev pub is_refused_cr3 : ℕ → Bool
is_refused_cr3 value = nat_le (2 ^ 40) value

-- CR4: a bit that is not offered
abbrev pub is_refused_cr4 : ℕ → Bool
is_refused_cr4 value = has_some value (2 ^ 64 - 1 - 0x6B4)

-- CR8: above 15
abbrev pub is_refused_control : ℕ → ℕ → Bool
is_refused_control register value =
    if register == 0 then is_refused_cr0 value
    else if register == 3 then is_refused_cr3 value
    else if register == 4 then is_refused_cr4 value
    else (register == 8) && nat_lt 15 value

-- DR6 and DR7: bits 63:32
abbrev pub is_refused_debug : ℕ → Bool
is_refused_debug value = nat_le (2 ^ 32) value

abbrev pub refused_where : Bool → Trap → Option Trap
refused_where test trap = if test then Some trap else None

-- the first of two refusals
abbrev pub or_else : Option Trap → Option Trap → Option Trap
or_else None second = second
or_else (Some first) second = Some first

abbrev pub supervisor_refusal : Registers → Option Trap
supervisor_refusal r = refused_where (not (r.cpl == 0)) general_protection

-- EFER.SVME, bit 12
abbrev pub has_svm : Registers → Bool
has_svm r = bit 12 r.efer

abbrev pub svm_refusal : Registers → Option Trap
svm_refusal r = refused_where (not (has_svm r)) invalid_opcode

-- a page of 4 KiB below 2^40
abbrev pub is_page : ℕ → Bool
is_page address = not (has_some address 0xFFF) && nat_lt address (2 ^ 40)

-- the fault that comes before the intercept
unfoldable pub refusal_by : Before → Row → Registers → Option Trap
refusal_by Nothing row r = None
refusal_by Supervisor row r = supervisor_refusal r
refusal_by PortLevel row r = refused_where (nat_lt (io_privilege r) r.cpl) general_protection
refusal_by TimeStamp row r = refused_where (bit 2 r.cr4 && nat_lt 0 r.cpl) general_protection
refusal_by ControlValue row r =
    or_else (supervisor_refusal r) (refused_where (writes_special row.form && is_refused_control row.register (special_operand row r)) general_protection)
refusal_by DebugValue row r =
    or_else (supervisor_refusal r) (refused_where (writes_special row.form && is_refused_debug (special_operand row r)) general_protection)
refusal_by Svm row r = svm_refusal r
refusal_by SvmSupervisor row r = or_else (svm_refusal r) (supervisor_refusal r)
refusal_by SvmPage row r =
    or_else (svm_refusal r) (or_else (supervisor_refusal r) (refused_where (not (is_page (whole_register rax r))) general_protection))

abbrev pub refusal : Row → Registers → Option Trap
refusal row r = refusal_by (guard_of row.op).before row r
