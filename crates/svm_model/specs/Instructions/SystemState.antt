-- What a system row gives: registers and written values, and what it asks for beyond them; rows of flags and of ports
-- (volume 3, 'System Instruction Reference').
use Rattle.std.specs.Prelude.{ℕ, ◌+◌, ◌-◌, ◌*◌, ◌%◌, ◌^◌, ◌≤◌, List, false, if◌then◌else◌, Result, Ok, Err, slice_index}
use Rattle.svm_model.specs.Memory.Bits.{bit, with_bits, without_bits}
use Rattle.svm_model.specs.Machine.Bus.{IsWidth}
use Rattle.svm_model.specs.Instructions.Operands.{State, state, rax, rdx, rsp, whole_register, with_register, with_result}
use Rattle.svm_model.specs.Turn.Return.{popped_flags, steps_singly}
use Rattle.svm_model.specs.Instructions.Sources.{names_dx}
use Rattle.svm_model.specs.declared.names.End.TheVariants.{Mode}
use Rattle.svm_model.specs.declared.register_file.Registers.{Registers}
use Rattle.svm_model.specs.declared.rows.Row.{Row}
use Rattle.svm_model.specs.declared.rows.Width.{Width}
use Rattle.svm_model.specs.declared.rows.Width.TheVariants.{W8, W16, W64}
use Rattle.svm_model.specs.declared.system.Outside.{Outside}
use Rattle.svm_model.specs.declared.system.Outside.TheVariants as outside
use Rattle.svm_model.specs.declared.traps.Trap.{Trap}

-- the registers and results behind a row, and what is to be done beyond them
pub record Systemic : Type 0 where
  pub state : State
  pub outside : Outside

abbrev pub asking : Outside → State → Result Systemic Trap
asking outside s = Ok (record { state = s; outside = outside })

-- nothing more is asked for
abbrev pub plainly : State → Result Systemic Trap
plainly s = asking outside.None s

-- the guest leaves the modes that are offered
abbrev pub leaving : ℕ → State → Result Systemic Trap
leaving rule s = asking (outside.Ends (Mode rule)) s

-- the instruction is behind, and with it the interrupt shadow of the one before
abbrev pub at_next : ℕ → State → State
at_next next s = record s { registers = record s.registers { rip = next; shadow = false } }

abbrev pub with_rflags : ℕ → State → State
with_rflags rflags s = record s { registers = record s.registers { rflags = rflags } }

abbrev pub with_rsp : ℕ → State → State
with_rsp value s = with_register W64 rsp false (value % 2 ^ 64) s

-- Flags.

-- IF, bit 9
abbrev pub interrupt_bit : ℕ
interrupt_bit = 2 ^ 9

abbrev pub clears_interrupts : ℕ → State → Result Systemic Trap
clears_interrupts next s = plainly (with_rflags (without_bits s.registers.rflags interrupt_bit) (at_next next s))

-- an interrupt shadow of one instruction, where interrupts were off
abbrev pub sets_interrupts : ℕ → State → Result Systemic Trap
sets_interrupts next s =
    asking (if bit 9 s.registers.rflags then outside.None else outside.Shadow) (with_rflags (with_bits s.registers.rflags interrupt_bit) (at_next next s))

-- with RF and VM, bits 16 and 17, clear
abbrev pub pushes_flags : ℕ → State → Result Systemic Trap
pushes_flags next s =
    plainly (with_result 0 (without_bits s.registers.rflags (2 ^ 16 + 2 ^ 17)) (with_rsp (whole_register rsp s.registers + (2 ^ 64 - 8)) (at_next next s)))

abbrev pub pops_flags : ℕ → List ℕ → State → Result Systemic Trap
pops_flags next values s =
    if steps_singly (slice_index values 0) then leaving 6 s
    else plainly (with_rflags (popped_flags s.registers (slice_index values 0)) (with_rsp (whole_register rsp s.registers + 8) (at_next next s)))

-- Ports.

-- the port of IN and OUT, of 16 bits: in DX, or a byte of the instruction
abbrev pub port_of : Row → Registers → ℕ
port_of row r = (if names_dx row.form then whole_register rdx r else row.immediate) % 2 ^ 16

-- how many bytes IN and OUT move
abbrev pub port_bytes : Width → ℕ
port_bytes W8 = 1
port_bytes W16 = 2
port_bytes w = 4

abbrev pub reads_port : Row → ℕ → State → Result Systemic Trap
reads_port row next s = asking (outside.PortRead (port_of row s.registers) (port_bytes row.width)) (at_next next s)

abbrev pub output_of : Width → Registers → ℕ
output_of w r = whole_register rax r % 2 ^ (8 * port_bytes w)

abbrev pub writes_port : Row → ℕ → State → Result Systemic Trap
writes_port row next s =
    asking (outside.PortWrite (port_of row s.registers) (port_bytes row.width) (output_of row.width s.registers)) (at_next next s)

-- What a call that does a row gave: its answer, and the registers and results that it left.
abbrev pub systemic : Result Outside Trap → Registers → List ℕ → Result Systemic Trap
systemic (Ok o) r results = Ok (record { state = state r results; outside = o })
systemic (Err trap) r results = Err trap

-- what is asked for fits: a port's width, and the class of a priority
abbrev pub Fits : Outside → Type 0
Fits outside.None = Unit {0}
Fits outside.Halt = Unit {0}
Fits outside.Shadow = Unit {0}
Fits (outside.Interrupt vector software) = Unit {0}
Fits outside.Return = Unit {0}
Fits (outside.PortRead port width) = IsWidth width
Fits (outside.PortWrite port width value) = IsWidth width
Fits outside.DropLocal = Unit {0}
Fits outside.DropAsid = Unit {0}
Fits (outside.DropPage address) = Unit {0}
Fits (outside.Priority value) = value ≤ 15
Fits outside.Svm = Unit {0}
Fits (outside.Ends e) = Unit {0}
