-- Which intercepts of a VMCB make a guest exit (volume 2, 'Instruction Intercepts', 'Exception Intercepts', 'Interrupt
-- Intercepts', 'I/O Intercepts', 'MSR Intercepts', 'SVM Intercept Exit Codes').
use Rattle.std.specs.Prelude.{ℕ, ◌+◌, ◌-◌, ◌*◌, ◌/◌, ◌%◌, ◌^◌, nat_le, nat_lt, List, Bool, true, false, ◌==◌, ◌&&◌, not, if◌then◌else◌, Option, Some, None}
use Rattle.svm_model.specs.Memory.Bits.{bits_from, bits_where}
use Rattle.svm_model.specs.Memory.Bytes.{value_of_bytes}
use Rattle.svm_model.specs.Instructions.Guards.{guard_of, writes_special}
use Rattle.svm_model.specs.declared.guards.Intercept.{Intercept}
use Rattle.svm_model.specs.declared.guards.Intercept.TheVariants.{Never, WordC, Word10, Control, Debug, Ports, Msrs, Always}
use Rattle.svm_model.specs.Svm.Vmcb.{Fields, value, field_bit}
use Rattle.svm_model.specs.declared.exits.Exit.{Exit}
use Rattle.svm_model.specs.declared.rows.Row.{Row}
use Rattle.svm_model.specs.declared.traps.Cause.{Cause}
use Rattle.svm_model.specs.declared.traps.Cause.TheVariants as cause
use Rattle.svm_model.specs.declared.traps.Trap.{Trap}
use Rattle.svm_model.specs.declared.vmcbs.Field.{Field}
use Rattle.svm_model.specs.declared.vmcbs.Field.TheVariants as f

-- an exit that tells nothing but its code
abbrev pub bare_exit : ℕ → Exit
bare_exit code = record { code = code; info1 = 0; info2 = 0; next_rip = 0 }

-- the exits of NMIs, of interrupts and of virtual ones, of shutdown, and of an illegal VMCB
abbrev pub interrupt_exit : Exit
interrupt_exit = bare_exit 0x60

abbrev pub nmi_exit : Exit
nmi_exit = bare_exit 0x61

abbrev pub virtual_exit : Exit
virtual_exit = bare_exit 0x64

abbrev pub shutdown_exit : Exit
shutdown_exit = bare_exit 0x7F

abbrev pub invalid_exit : Exit
invalid_exit = bare_exit (2 ^ 64 - 1)

-- a nested fault
abbrev pub nested_exit : ℕ → ℕ → Exit
nested_exit code address = record { code = 0x400; info1 = code; info2 = address; next_rip = 0 }

-- the bits that ask for them, of the word at 00Ch
abbrev pub asks_interrupts : Fields → Bool
asks_interrupts = field_bit f.InterceptWordC 0

abbrev pub asks_nmis : Fields → Bool
asks_nmis = field_bit f.InterceptWordC 1

abbrev pub asks_virtual : Fields → Bool
asks_virtual = field_bit f.InterceptWordC 4

abbrev pub asks_shutdown : Fields → Bool
asks_shutdown = field_bit f.InterceptWordC 31

-- Rows.

abbrev pub exit_where : Bool → ℕ → ℕ → Option Exit
exit_where test code next_rip = if test then Some (record { code = code; info1 = 0; info2 = 0; next_rip = next_rip }) else None

-- a control or debug register: bits 15:0 for reads, 31:16 for writes
abbrev pub register_bit : Row → ℕ
register_bit row = bits_where (writes_special row.form) 16 + row.register

abbrev pub exit_by : Intercept → Fields → Row → ℕ → Option Exit
exit_by Never fields row next_rip = None
exit_by (WordC number) fields row next_rip = exit_where (field_bit f.InterceptWordC number fields) (0x60 + number) next_rip
exit_by (Word10 number) fields row next_rip = exit_where (field_bit f.InterceptWord10 number fields) (0x80 + number) next_rip
exit_by Control fields row next_rip = exit_where (field_bit f.CrIntercepts (register_bit row) fields) (register_bit row) next_rip
exit_by Debug fields row next_rip = exit_where (field_bit f.DrIntercepts (register_bit row) fields) (0x20 + register_bit row) next_rip
exit_by Ports fields row next_rip = None
exit_by Msrs fields row next_rip = None
exit_by (Always code) fields row next_rip = exit_where true code next_rip

-- the exit of a row, but for those that a permission map decides
unfoldable pub row_exit : Fields → Row → ℕ → Option Exit
row_exit fields row next_rip = exit_by (guard_of row.op).intercept fields row next_rip

-- Exceptions: INT3's is one, of software cause; INT n is none.

abbrev pub is_exception : Trap → Cause → Bool
is_exception trap cause.Fault = nat_lt trap.vector 32
is_exception trap cause.Software = trap.vector == 3
is_exception trap cause.External = false
is_exception trap cause.Nmi = false

abbrev pub number_or : ℕ → Option ℕ → ℕ
number_or other None = other
number_or other (Some n) = n

-- only INT3 tells the next instruction
abbrev pub next_of : Cause → ℕ → ℕ
next_of cause.Software next_rip = next_rip
next_of _ next_rip = 0

abbrev pub exception_exit : Trap → ℕ → Exit
exception_exit trap next_rip = record {
  code = 0x40 + trap.vector;
  info1 = number_or 0 trap.code;
  info2 = if trap.vector == 14 then number_or 0 trap.address else 0;
  next_rip = next_of trap.cause next_rip;
}

unfoldable pub trap_exit : Fields → Trap → ℕ → Option Exit
trap_exit fields trap next_rip =
    if is_exception trap trap.cause && field_bit f.ExceptionIntercepts trap.vector fields then Some (exception_exit trap next_rip) else None

-- Permission maps: of their bases bits 51:12 are looked at.

abbrev pub map_base : Fields → Field → ℕ
map_base fields field = 4096 * bits_from 12 40 (value fields field)

-- one bit a port: the bytes of the map that an access of so many ports touches
abbrev pub asks_ports : Fields → Bool
asks_ports = field_bit f.InterceptWordC 27

abbrev pub ports_at : Fields → ℕ → ℕ
ports_at fields port = map_base fields f.IopmBase + port / 8

abbrev pub ports_count : ℕ → ℕ → ℕ
ports_count port width = (port + width - 1) / 8 - port / 8 + 1

abbrev pub ports_set : List ℕ → ℕ → ℕ → Bool
ports_set bytes port width = not (bits_from (port % 8) width (value_of_bytes bytes) == 0)

-- bit 0 for a read, 4, 5 or 6 the size, 9 an address of 64 bits, 31:16 the port
abbrev pub port_exit : Bool → ℕ → ℕ → ℕ → Exit
port_exit reads port width next_rip = record {
  code = 0x7B;
  info1 = bits_where reads 1 + 16 * width + 2 ^ 9 + 2 ^ 16 * port;
  info2 = next_rip;
  next_rip = next_rip;
}

-- two bits an MSR, for reads and writes, in three ranges of 2000h
abbrev pub asks_msrs : Fields → Bool
asks_msrs = field_bit f.InterceptWordC 28

abbrev pub msr_place : ℕ → Option ℕ
msr_place msr =
    if nat_lt msr 0x2000 then Some (2 * msr)
    else if nat_le 0xC0000000 msr && nat_lt msr 0xC0002000 then Some (8 * 0x800 + 2 * (msr - 0xC0000000))
    else if nat_le 0xC0010000 msr && nat_lt msr 0xC0012000 then Some (8 * 0x1000 + 2 * (msr - 0xC0010000))
    else None

abbrev pub msr_exit : Bool → ℕ → Exit
msr_exit writes next_rip = record { code = 0x7C; info1 = bits_where writes 1; info2 = 0; next_rip = next_rip }
