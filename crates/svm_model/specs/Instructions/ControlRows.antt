-- Rows of control registers, debug registers, MSRs, CPUID and tables (volume 2, 'System Resources'; volume 3, 'System
-- Instruction Reference').
use Rattle.std.specs.Prelude.{ℕ, ◌+◌, ◌*◌, ◌/◌, ◌%◌, ◌^◌, List, false, ◌==◌, ◌||◌, not, if◌then◌else◌, Option, Some, None, Result, Err, slice_index}
use Rattle.svm_model.specs.Instructions.Addresses.{linear_address}
use Rattle.svm_model.specs.Memory.Bits.{bit, bits_from, has_some, with_bits}
use Rattle.svm_model.specs.Instructions.Cpuid.{Leaf, leaf_of}
use Rattle.svm_model.specs.Instructions.Exceptions.{general_protection}
use Rattle.svm_model.specs.Instructions.Guards.{writes_special, special_operand}
use Rattle.svm_model.specs.Instructions.Msrs.{Msr, MsrWritten, Wrote, Refused, Leaves, msr_of, msr_value, with_msr}
use Rattle.svm_model.specs.Instructions.Operands.{State, rax, rcx, rdx, whole_register, with_operand, with_register}
use Rattle.svm_model.specs.Memory.RegisterFile.{is_canonical}
use Rattle.svm_model.specs.Svm.VmcbRules.{breakpoints}
use Rattle.svm_model.specs.declared.register_file.Registers.{Registers}
use Rattle.svm_model.specs.declared.rows.Op.{Op}
use Rattle.svm_model.specs.declared.rows.Op.TheVariants as op
use Rattle.svm_model.specs.declared.rows.Row.{Row}
use Rattle.svm_model.specs.declared.rows.Width.TheVariants.{W32, W64}
use Rattle.svm_model.specs.declared.system.Outside.{Outside}
use Rattle.svm_model.specs.declared.system.Outside.TheVariants as outside
use Rattle.svm_model.specs.declared.traps.Trap.{Trap}
use Rattle.svm_model.specs.declared.turns.Facts.{Facts}
use Rattle.svm_model.specs.Instructions.SystemState.{Systemic, asking, plainly, leaving, at_next}

-- Control and debug registers (volume 2, 'CR0', 'CR3', 'CR4', 'CR8', 'Debug Registers').

-- CR8 is the class of the task priority
abbrev pub control_value : ℕ → Facts → Registers → ℕ
control_value register facts r =
    if register == 0 then r.cr0
    else if register == 2 then r.cr2
    else if register == 3 then r.cr3
    else if register == 4 then r.cr4
    else facts.tpr / 16

-- ET, bit 4, stays 1; PG 0 and AM 1, bits 31 and 18, are modes that are not offered
abbrev pub with_cr0 : ℕ → ℕ → State → Result Systemic Trap
with_cr0 value next s =
    if not (bit 31 value) || bit 18 value then leaving 1 s
    else plainly (at_next next (record s { registers = record s.registers { cr0 = with_bits value (2 ^ 4) } }))

abbrev pub with_cr2 : ℕ → ℕ → State → Result Systemic Trap
with_cr2 value next s = plainly (at_next next (record s { registers = record s.registers { cr2 = value } }))

abbrev pub with_cr3 : ℕ → ℕ → State → Result Systemic Trap
with_cr3 value next s = asking outside.DropLocal (at_next next (record s { registers = record s.registers { cr3 = value } }))

-- PAE, bit 5, has to be 1; a change of PGE drops translations
abbrev pub flush_of_cr4 : ℕ → ℕ → Outside
flush_of_cr4 old new = if bits_from 7 1 old == bits_from 7 1 new then outside.None else outside.DropAsid

abbrev pub with_cr4 : ℕ → ℕ → State → Result Systemic Trap
with_cr4 value next s =
    if not (bit 5 value) then leaving 2 s
    else asking (flush_of_cr4 s.registers.cr4 value) (at_next next (record s { registers = record s.registers { cr4 = value } }))

abbrev pub with_control : ℕ → ℕ → ℕ → State → Result Systemic Trap
with_control register value next s =
    if register == 0 then with_cr0 value next s
    else if register == 2 then with_cr2 value next s
    else if register == 3 then with_cr3 value next s
    else if register == 4 then with_cr4 value next s
    else asking (outside.Priority (value % 16)) (at_next next s)

abbrev pub moves_control : Row → ℕ → Facts → State → Result Systemic Trap
moves_control row next facts s =
    if writes_special row.form then with_control row.register (special_operand row s.registers) next s
    else plainly (at_next next (with_operand W64 row.operand (control_value row.register facts s.registers) s))

-- breakpoints are not offered
abbrev pub with_debug : ℕ → ℕ → ℕ → State → Result Systemic Trap
with_debug register value next s =
    if register == 6 then plainly (at_next next (record s { registers = record s.registers { dr6 = value } }))
    else if has_some value breakpoints then leaving 6 s
    else plainly (at_next next (record s { registers = record s.registers { dr7 = value } }))

abbrev pub debug_value : ℕ → Registers → ℕ
debug_value register r = if register == 6 then r.dr6 else r.dr7

abbrev pub moves_debug : Row → ℕ → State → Result Systemic Trap
moves_debug row next s =
    if writes_special row.form then with_debug row.register (special_operand row s.registers) next s
    else plainly (at_next next (with_operand W64 row.operand (debug_value row.register s.registers) s))

-- MSRs, CPUID, the time-stamp counter: 64 bits stand in EDX and EAX.

abbrev pub with_pair : ℕ → State → State
with_pair value s = with_register W32 rdx false (value / 2 ^ 32) (with_register W32 rax false (value % 2 ^ 32) s)

abbrev pub pair_of : Registers → ℕ
pair_of r = whole_register rdx r % 2 ^ 32 * 2 ^ 32 + whole_register rax r % 2 ^ 32

abbrev pub msr_named : Registers → Option Msr
msr_named r = msr_of (whole_register rcx r % 2 ^ 32)

abbrev pub reads_named : Option Msr → ℕ → Facts → State → Result Systemic Trap
reads_named None next facts s = Err general_protection
reads_named (Some msr) next facts s = plainly (at_next next (with_pair (msr_value msr facts s.registers) s))

abbrev pub on_written : MsrWritten → ℕ → State → Result Systemic Trap
on_written (Wrote r) next s = plainly (at_next next (record s { registers = r }))
on_written Refused next s = Err general_protection
on_written (Leaves rule) next s = leaving rule s

abbrev pub writes_named : Option Msr → ℕ → Facts → State → Result Systemic Trap
writes_named None next facts s = Err general_protection
writes_named (Some msr) next facts s = on_written (with_msr msr (pair_of s.registers) facts s.registers) next s

-- EBX is register 3
abbrev pub with_leaf : Leaf → State → State
with_leaf l s =
    with_register W32 rdx false l.edx (with_register W32 rcx false l.ecx (with_register W32 3 false l.ebx (with_register W32 rax false l.eax s)))

abbrev pub identifies : ℕ → Facts → State → Result Systemic Trap
identifies next facts s = plainly (at_next next (with_leaf (leaf_of facts (whole_register rax s.registers % 2 ^ 32)) s))

-- Tables and translations.

abbrev pub with_table : Op → ℕ → ℕ → Registers → Registers
with_table op.Lgdt limit base r = record r { gdtr = record r.gdtr { limit = limit; base = base } }
with_table _ limit base r = record r { idtr = record r.idtr { limit = limit; base = base } }

-- a limit of 16 bits, and then a base
abbrev pub loads_table : Op → ℕ → List ℕ → State → Result Systemic Trap
loads_table o next values s =
    if is_canonical (slice_index values 1)
    then plainly (at_next next (record s { registers = with_table o (slice_index values 0 % 2 ^ 16) (slice_index values 1) s.registers }))
    else Err general_protection

-- an address that is not canonical has no translation
abbrev pub drops_page : Row → ℕ → State → Result Systemic Trap
drops_page row next s =
    let address = linear_address row.operand s.registers next in
    asking (if is_canonical address then outside.DropPage address else outside.None) (at_next next s)

abbrev pub swapped : Registers → Registers
swapped r = record r { gs = record r.gs { base = r.kernel_gs }; kernel_gs = r.gs.base }
