-- The data accesses of each row, in order (volume 3, 'General-Purpose Instruction Reference' and 'System Instruction
-- Reference').
use Rattle.std.specs.Prelude.{ℕ, ◌+◌, ◌-◌, ◌≤◌, ◌/◌, ◌%◌, ◌^◌, List, [], ◌∷◌, ◌++◌, Bool, true, false, if◌then◌else◌, Option, Some, None}
use Rattle.svm_model.specs.Instructions.Addresses.{linear_address, is_on_stack}
use Rattle.svm_model.specs.Instructions.Branches.{popped}
use Rattle.svm_model.specs.Instructions.Operands.{state, whole_register, rsp, rbp, is_memory}
use Rattle.svm_model.specs.Instructions.Sources.{is_reversed, operand_width}
use Rattle.svm_model.specs.Instructions.Widths.{bits}
use Rattle.svm_model.specs.declared.rows.Op.{Op}
use Rattle.svm_model.specs.declared.rows.Op.TheVariants as op
use Rattle.svm_model.specs.declared.rows.PlannedAccess.{PlannedAccess}
use Rattle.svm_model.specs.declared.rows.Row.{Row}
use Rattle.svm_model.specs.declared.rows.Touch.{Touch}
use Rattle.svm_model.specs.declared.rows.Touch.TheVariants.{Read, Write, Update}
use Rattle.svm_model.specs.declared.register_file.Registers.{Registers}

abbrev pub access : ℕ → ℕ → Touch → Bool → PlannedAccess
access address length touch stack = record { address = address; length = length; touch = touch; stack = stack }

-- an access has 1 to 8 bytes
pub record IsQuadAtMost (a : PlannedAccess) : Type 0 where
  pub some : 1 ≤ a.length
  pub most : a.length ≤ 8

-- What an instruction does to its memory operand, in the manual's order: the operand is read, written, or read and then
-- written. XCHG, XADD and CMPXCHG always write it. LEA, NOP and INVLPG take its address alone, LGDT and LIDT read theirs
-- in two parts (`table_accesses`), and all others have none.
unfoldable pub touch_of : Op → Option Touch
touch_of op.Adc = Some Update
touch_of op.Add = Some Update
touch_of op.And = Some Update
touch_of op.Bt = Some Read
touch_of op.Btc = Some Update
touch_of op.Btr = Some Update
touch_of op.Bts = Some Update
touch_of op.Call = Some Read
touch_of op.Cmovcc = Some Read
touch_of op.Cmp = Some Read
touch_of op.Cmpxchg = Some Update
touch_of op.Dec = Some Update
touch_of op.Div = Some Read
touch_of op.Idiv = Some Read
touch_of op.Imul = Some Read
touch_of op.Inc = Some Update
touch_of op.Jmp = Some Read
touch_of op.Mov = Some Write
touch_of op.Movsx = Some Read
touch_of op.Movsxd = Some Read
touch_of op.Movzx = Some Read
touch_of op.Mul = Some Read
touch_of op.Neg = Some Update
touch_of op.Not = Some Update
touch_of op.Or = Some Update
touch_of op.Pop = Some Write
touch_of op.Push = Some Read
touch_of op.Rol = Some Update
touch_of op.Ror = Some Update
touch_of op.Sar = Some Update
touch_of op.Sbb = Some Update
touch_of op.Setcc = Some Write
touch_of op.Shl = Some Update
touch_of op.Shr = Some Update
touch_of op.Sub = Some Update
touch_of op.Test = Some Read
touch_of op.Xadd = Some Update
touch_of op.Xchg = Some Update
touch_of op.Xor = Some Update
touch_of _ = None

-- the operand is only read where it is the source, as the reg field names the destination
abbrev pub operand_touch : Row → Option Touch
operand_touch row = if is_reversed row.form then Some Read else touch_of row.op

-- how many bytes an operand in memory has
abbrev pub operand_bytes : Row → ℕ
operand_bytes row = bits (operand_width row) / 8

-- LGDT and LIDT
unfoldable pub is_lgdt_or_lidt : Op → Bool
is_lgdt_or_lidt op.Lgdt = true
is_lgdt_or_lidt op.Lidt = true
is_lgdt_or_lidt _ = false

-- their operand: the limit in two bytes, and then the base in eight
abbrev pub table_accesses : ℕ → Bool → List PlannedAccess
table_accesses address stack = access address 2 Read stack ∷ access ((address + 2) % 2 ^ 64) 8 Read stack ∷ []

abbrev pub touched : Option Touch → ℕ → ℕ → Bool → List PlannedAccess
touched None address bytes stack = []
touched (Some touch) address bytes stack = access address bytes touch stack ∷ []

abbrev pub memory_accesses : Row → ℕ → Bool → List PlannedAccess
memory_accesses row address stack =
    if is_lgdt_or_lidt row.op then table_accesses address stack
    else touched (operand_touch row) address (operand_bytes row) stack

-- the accesses to an operand
unfoldable pub operand_accesses : Row → Registers → ℕ → List PlannedAccess
operand_accesses row r next =
    if is_memory row.operand then memory_accesses row (linear_address row.operand r next) (is_on_stack row.operand) else []

-- a quadword is pushed below RSP
abbrev pub push_access : Registers → PlannedAccess
push_access r = access ((whole_register rsp r + (2 ^ 64 - 8)) % 2 ^ 64) 8 Write true

-- a quadword is popped from here
abbrev pub pop_access : ℕ → PlannedAccess
pop_access address = access address 8 Read true

-- what an instruction pushes or pops
unfoldable pub stack_access : Op → Registers → Option PlannedAccess
stack_access op.Call r = Some (push_access r)
stack_access op.Leave r = Some (pop_access (whole_register rbp r))
stack_access op.Pop r = Some (pop_access (whole_register rsp r))
stack_access op.Popfq r = Some (pop_access (whole_register rsp r))
stack_access op.Push r = Some (push_access r)
stack_access op.Pushfq r = Some (push_access r)
stack_access op.Ret r = Some (pop_access (whole_register rsp r))
stack_access _ r = None

abbrev pub is_read : Touch → Bool
is_read Read = true
is_read _ = false

-- A push comes after the operand is read. A pop comes before the operand is written, whose address takes RSP as the pop
-- leaves it (volume 3, 'POP').
abbrev pub with_stack : Option PlannedAccess → Row → Registers → ℕ → List PlannedAccess
with_stack None row r next = operand_accesses row r next
with_stack (Some stack) row r next =
    if is_read stack.touch then stack ∷ operand_accesses row (popped 0 (state r [])).registers next
    else operand_accesses row r next ++ stack ∷ []

-- The data accesses of a row, in order; `next` is the address of the next row. A LOCK prefix changes none of them. What
-- the delivery of an event, IRETQ and the instructions of SVM access is not planned.
unfoldable pub planned : Row → Registers → ℕ → List PlannedAccess
planned row r next = with_stack (stack_access row.op r) row r next
