-- Rows of the stack and branches (volume 3, 'CALL (Near)', 'Jcc', 'JMP (Near)', 'LEAVE', 'POP', 'PUSH', 'RET (Near)').
use Rattle.std.specs.Prelude.{ℕ, ◌+◌, ◌-◌, ◌%◌, ◌^◌, false, if◌then◌else◌, List, Result, Ok, Err, slice_index}
use Rattle.svm_model.specs.Memory.RegisterFile.{is_canonical}
use Rattle.svm_model.specs.Instructions.Exceptions.{general_protection}
use Rattle.svm_model.specs.Instructions.Operands.{State, whole_register, with_register, with_result, operand_value, with_operand_at, is_memory, rsp, rbp, flags_of, at_rip}
use Rattle.svm_model.specs.Instructions.Conditions.{condition_holds}
use Rattle.svm_model.specs.declared.rows.Operand.{Operand}
use Rattle.svm_model.specs.declared.rows.Operand.TheVariants.{None as NoOperand}
use Rattle.svm_model.specs.declared.rows.Row.{Row}
use Rattle.svm_model.specs.declared.rows.Width.TheVariants.{W64}
use Rattle.svm_model.specs.declared.register_file.Registers.{Registers}
use Rattle.svm_model.specs.declared.traps.Trap.{Trap}

abbrev pub with_rsp : ℕ → State → State
with_rsp value s = with_register W64 rsp false value s

-- a quadword pushed, by the access of this number
abbrev pub pushed : ℕ → ℕ → State → State
pushed place value s =
    with_result place value (with_rsp ((whole_register rsp s.registers + (2 ^ 64 - 8)) % 2 ^ 64) s)

-- a quadword and so many bytes popped
abbrev pub popped : ℕ → State → State
popped bytes s = with_rsp ((whole_register rsp s.registers + 8 + bytes) % 2 ^ 64) s

-- the access that pushes: it follows the read of a memory operand
abbrev pub stack_place : Operand → ℕ
stack_place operand = if is_memory operand then 1 else 0

-- an operand of 64 bits, or what stands in place of one that the form does not have
abbrev pub operand_or : ℕ → Operand → Registers → List ℕ → ℕ
operand_or other NoOperand r values = other
operand_or other operand r values = operand_value W64 operand r values

-- PUSH: an operand as it is before RSP changes, or the immediate
unfoldable pub pushes : Row → ℕ → List ℕ → State → State
pushes row next values s =
    let value = operand_or row.immediate row.operand s.registers values in
    at_rip next (pushed (stack_place row.operand) value s)

-- POP: the first access reads the stack, the second writes a memory operand. RSP as the operand takes the popped value.
unfoldable pub pops : Row → ℕ → List ℕ → State → State
pops row next values s = at_rip next (with_operand_at 1 W64 row.operand (slice_index values 0) (popped 0 s))

-- LEAVE: RSP is RBP, and then RBP is popped
unfoldable pub leaves : ℕ → List ℕ → State → State
leaves next values s =
    at_rip next (with_register W64 rbp false (slice_index values 0) (popped 0 (with_rsp (whole_register rbp s.registers) s)))

-- a near branch: an address that is not canonical is refused
abbrev pub branched : ℕ → State → Result State Trap
branched target s = if is_canonical target then Ok (at_rip target s) else Err general_protection

-- where CALL and JMP lead: to an operand's value, or so many bytes behind the row
abbrev pub target_of : Row → ℕ → Registers → List ℕ → ℕ
target_of row next r values = operand_or ((next + row.immediate) % 2 ^ 64) row.operand r values

-- JMP
unfoldable pub jumps : Row → ℕ → List ℕ → State → Result State Trap
jumps row next values s = branched (target_of row next s.registers values) s

-- Jcc
unfoldable pub jumps_where : Row → ℕ → State → Result State Trap
jumps_where row next s =
    if condition_holds row.condition (flags_of s.registers) then branched ((next + row.immediate) % 2 ^ 64) s
    else Ok (at_rip next s)

-- CALL: the address of the next row is pushed
unfoldable pub calls : Row → ℕ → List ℕ → State → Result State Trap
calls row next values s =
    branched (target_of row next s.registers values) (pushed (stack_place row.operand) next s)

-- RET: the immediate counts bytes of the stack that are dropped
unfoldable pub returns : Row → List ℕ → State → Result State Trap
returns row values s = branched (slice_index values 0) (popped row.immediate s)
