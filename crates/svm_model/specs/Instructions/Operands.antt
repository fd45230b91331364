-- General registers and the operands of a row (volume 1, 'Byte Registers', 'Zero-Extension of 32-Bit Results',
-- 'No Extension of 8-Bit and 16-Bit Results'), and what a row changes.
use Rattle.std.specs.Prelude.{ℕ, ◌+◌, ◌-◌, ◌*◌, ◌/◌, ◌%◌, ◌^◌, nat_lt, Bool, true, false, if◌then◌else◌, List, Option, Some, None, slice_index, slice_set}
use Rattle.svm_model.specs.Instructions.Widths.{bits}
use Rattle.svm_model.specs.Instructions.Rflags.{flags_in, with_flags}
use Rattle.svm_model.specs.declared.rows.Width.{Width}
use Rattle.svm_model.specs.declared.rows.Width.TheVariants.{W8, W16}
use Rattle.svm_model.specs.declared.rows.Operand.{Operand}
use Rattle.svm_model.specs.declared.rows.Operand.TheVariants.{None as NoOperand, Register, Memory}
use Rattle.svm_model.specs.declared.flags.Flags.{Flags}
use Rattle.svm_model.specs.declared.register_file.Registers.{Registers}

-- What a row changes: the registers, and the values for its planned accesses. An access that writes takes the value of
-- its place.
pub record State : Type 0 where
  pub registers : Registers
  pub results : List ℕ

abbrev pub state : Registers → List ℕ → State
state r results = record { registers = r; results = results }

-- the low bits of a register, or its bits 15:8
abbrev pub part_of : Width → Bool → ℕ → ℕ
part_of W8 high whole = if high then whole / 2 ^ 8 % 2 ^ 8 else whole % 2 ^ 8
part_of w high whole = whole % 2 ^ bits w

-- a register after a write of that part: 8 and 16 bits leave the rest, 32 bits clear the upper half
abbrev pub merged : Width → Bool → ℕ → ℕ → ℕ
merged W8 high whole value =
    if high then whole / 2 ^ 16 * 2 ^ 16 + value * 2 ^ 8 + whole % 2 ^ 8 else whole / 2 ^ 8 * 2 ^ 8 + value
merged W16 high whole value = whole / 2 ^ 16 * 2 ^ 16 + value
merged w high whole value = value

-- the whole of a register; its number has four bits
abbrev pub whole_register : ℕ → Registers → ℕ
whole_register index r = slice_index r.general (index % 16)

abbrev pub register_value : Width → ℕ → Bool → Registers → ℕ
register_value w index high r = part_of w high (whole_register index r)

-- a result is cut to its width
abbrev pub cut : Width → ℕ → ℕ
cut w value = value % 2 ^ bits w

abbrev pub with_register : Width → ℕ → Bool → ℕ → State → State
with_register w index high value s = record s {
  registers = record s.registers {
    general = slice_set s.registers.general (index % 16) (merged w high (whole_register index s.registers) (cut w value));
  };
}

-- the value that the planned access of this number writes
abbrev pub with_result : ℕ → ℕ → State → State
with_result place value s = record s { results = slice_set s.results place value }

-- An operand's value: of a register, or what the row's first access read.
abbrev pub operand_value : Width → Operand → Registers → List ℕ → ℕ
operand_value w (Register index high) r values = register_value w index high r
operand_value w (Memory base index scale displacement next segment) r values = cut w (slice_index values 0)
operand_value w NoOperand r values = 0

-- An operand written: a register, or memory by the access of this number.
abbrev pub with_operand_at : ℕ → Width → Operand → ℕ → State → State
with_operand_at place w (Register index high) value s = with_register w index high value s
with_operand_at place w (Memory base index scale displacement next segment) value s = with_result place (cut w value) s
with_operand_at place w NoOperand value s = s

-- memory is written by the row's first access
abbrev pub with_operand : Width → Operand → ℕ → State → State
with_operand w operand value s = with_operand_at 0 w operand value s

abbrev pub is_memory : Operand → Bool
is_memory (Memory base index scale displacement next segment) = true
is_memory _ = false

-- the register that a row's reg field names: 16 to 19 are AH, CH, DH and BH
abbrev pub register_named : ℕ → Operand
register_named register = if nat_lt register 16 then Register register false else Register (register - 16) true

-- rAX, rCX, rDX, RSP and RBP, by their numbers
abbrev pub rax : ℕ
rax = 0

abbrev pub rcx : ℕ
rcx = 1

abbrev pub rdx : ℕ
rdx = 2

abbrev pub rsp : ℕ
rsp = 4

abbrev pub rbp : ℕ
rbp = 5

-- AL, AX, EAX or RAX
abbrev pub accumulator : Operand
accumulator = Register rax false

-- what goes with the accumulator to hold twice its width: AH, DX, EDX or RDX
abbrev pub upper_accumulator : Width → Operand
upper_accumulator W8 = Register rax true
upper_accumulator w = Register rdx false

abbrev pub flags_of : Registers → Flags
flags_of r = flags_in r.rflags

-- the status flags are set; all other bits of RFLAGS stay
abbrev pub after_flags : Flags → State → State
after_flags f s = record s { registers = record s.registers { rflags = with_flags s.registers.rflags f } }

-- the row is done: the next instruction is here
abbrev pub at_rip : ℕ → State → State
at_rip rip s = record s { registers = record s.registers { rip = rip } }

abbrev pub register_or_zero : Option ℕ → Registers → ℕ
register_or_zero (Some index) r = whole_register index r
register_or_zero None r = 0

-- The effective address of a memory operand, without the base of a segment (volume 1, 'Effective Addresses'); an
-- address relative to the next instruction begins there.
abbrev pub effective_address : Operand → ℕ → Registers → ℕ
effective_address (Memory base index scale displacement next segment) next_rip r =
    (register_or_zero base r + register_or_zero index r * scale + displacement + (if next then next_rip else 0)) % 2 ^ 64
effective_address _ next_rip r = 0
