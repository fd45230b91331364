-- What each user row does, one line an instruction, in the manual's order (volume 3, 'General-Purpose Instruction
-- Reference').
use Rattle.std.specs.Prelude.{◌≡◌, ℕ, ◌+◌, ◌%◌, ◌^◌, true, false, if◌then◌else◌, List, [], Result, Ok, Err, slice_index}
use Rattle.svm_model.specs.Instructions.Exceptions.{invalid_opcode}
use Rattle.svm_model.specs.Instructions.Operands.{State, flags_of}
use Rattle.svm_model.specs.Instructions.Locking.{lock_is_undefined}
use Rattle.svm_model.specs.Instructions.Conditions.{condition_holds}
use Rattle.svm_model.specs.Instructions.Moves.{moves, movzx_extends, movsx_extends, lea_loads, cmovcc_moves, setcc_sets, cbw_extends, cwd_spreads_sign}
use Rattle.svm_model.specs.Instructions.Arithmetic.{adds, subtracts, compares, combines, tests_bits, not_inverts, negates, increments, decrements}
use Rattle.svm_model.specs.Instructions.ShiftRows.{shifts}
use Rattle.svm_model.specs.Instructions.MultiplyRows.{multiplies, multiplies_signed, divides}
use Rattle.svm_model.specs.Instructions.BitRows.{bt_copies_bit, changes_bit, exchanges, exchanges_and_adds, compares_and_exchanges}
use Rattle.svm_model.specs.Instructions.Branches.{pushes, pops, leaves, jumps, jumps_where, calls, returns, target_of}
use Rattle.svm_model.specs.Instructions.FlagRows.{sets_carry, complements_carry, sets_direction, does_nothing}
use Rattle.svm_model.specs.declared.applied.Applied.{Applied}
use Rattle.svm_model.specs.declared.applied.Applied.TheVariants.{Done, Fault}
use Rattle.svm_model.specs.declared.flags.LogicKind.TheVariants as logic
use Rattle.svm_model.specs.declared.flags.ShiftKind.TheVariants as shift
use Rattle.svm_model.specs.declared.register_file.Registers.{Registers}
use Rattle.svm_model.specs.declared.rows.Op.{Op}
use Rattle.svm_model.specs.declared.rows.Op.TheVariants as op
use Rattle.svm_model.specs.declared.rows.Row.{Row}
use Rattle.svm_model.specs.declared.traps.Trap.{Trap}

-- Rows that never fault, with the values that their accesses read. No other row is asked for here.
unfoldable pub done_op : Op → Row → ℕ → List ℕ → State → State
done_op op.Adc row next values s = adds (flags_of s.registers).cf row next values s
done_op op.Add row next values s = adds false row next values s
done_op op.And row next values s = combines logic.And row next values s
done_op op.Bt row next values s = bt_copies_bit row next values s
done_op op.Btc row next values s = changes_bit op.Btc row next values s
done_op op.Btr row next values s = changes_bit op.Btr row next values s
done_op op.Bts row next values s = changes_bit op.Bts row next values s
done_op op.Cbw row next values s = cbw_extends row next values s
done_op op.Cwd row next values s = cwd_spreads_sign row next values s
done_op op.Clc row next values s = sets_carry false next s
done_op op.Cld row next values s = sets_direction false next s
done_op op.Cmc row next values s = complements_carry next s
done_op op.Cmovcc row next values s = cmovcc_moves row next values s
done_op op.Cmp row next values s = compares row next values s
done_op op.Cmpxchg row next values s = compares_and_exchanges row next values s
done_op op.Dec row next values s = decrements row next values s
done_op op.Imul row next values s = multiplies_signed row next values s
done_op op.Inc row next values s = increments row next values s
done_op op.Lea row next values s = lea_loads row next s
done_op op.Leave row next values s = leaves next values s
done_op op.Lfence row next values s = does_nothing next s
done_op op.Mfence row next values s = does_nothing next s
done_op op.Mov row next values s = moves row next values s
done_op op.Movsx row next values s = movsx_extends row next values s
done_op op.Movsxd row next values s = movsx_extends row next values s
done_op op.Movzx row next values s = movzx_extends row next values s
done_op op.Mul row next values s = multiplies false row next values s
done_op op.Neg row next values s = negates row next values s
done_op op.Nop row next values s = does_nothing next s
done_op op.Not row next values s = not_inverts row next values s
done_op op.Or row next values s = combines logic.Or row next values s
done_op op.Pop row next values s = pops row next values s
done_op op.Push row next values s = pushes row next values s
done_op op.Rol row next values s = shifts shift.Rol row next values s
done_op op.Ror row next values s = shifts shift.Ror row next values s
done_op op.Shl row next values s = shifts shift.Shl row next values s
done_op op.Sar row next values s = shifts shift.Sar row next values s
done_op op.Sbb row next values s = subtracts (flags_of s.registers).cf row next values s
done_op op.Setcc row next values s = setcc_sets row next s
done_op op.Sfence row next values s = does_nothing next s
done_op op.Shr row next values s = shifts shift.Shr row next values s
done_op op.Stc row next values s = sets_carry true next s
done_op op.Std row next values s = sets_direction true next s
done_op op.Sub row next values s = subtracts false row next values s
done_op op.Test row next values s = tests_bits row next values s
done_op op.Xadd row next values s = exchanges_and_adds row next values s
done_op op.Xchg row next values s = exchanges row next values s
done_op op.Xor row next values s = combines logic.Xor row next values s
done_op _ row next values s = s

-- rows that may fault, and all others
unfoldable pub applied_op : Op → Row → ℕ → List ℕ → State → Result State Trap
applied_op op.Call row next values s = calls row next values s
applied_op op.Div row next values s = divides false row next values s
applied_op op.Idiv row next values s = divides true row next values s
applied_op op.Jcc row next values s = jumps_where row next s
applied_op op.Jmp row next values s = jumps row next values s
applied_op op.Ret row next values s = returns row values s
applied_op o row next values s = Ok (done_op o row next values s)

-- What a row does. `next` is the address of the next row, `values` what the planned accesses read, each by its place in
-- the plan. The new state, or the fault; a fault changes nothing.
--
-- One memory operand is access 0, which is read, written, or both. PUSH and CALL with a memory operand read it by access
-- 0 and push by access 1; POP to memory reads the stack by access 0 and writes the operand by access 1; other stack
-- accesses are access 0.
unfoldable pub applied : Row → ℕ → List ℕ → State → Result State Trap
applied row next values s =
    if lock_is_undefined row then Err invalid_opcode else applied_op row.op row next values s

-- the answer: done, or the fault
abbrev pub answer_of : Result State Trap → Applied
answer_of (Ok s) = Done
answer_of (Err trap) = Fault trap

-- the state afterwards: the new one, or after a fault the old one
abbrev pub state_after : State → Result State Trap → State
state_after old (Ok new) = new
state_after old (Err trap) = old

-- the registers that no user row changes: all but the general registers, RIP and RFLAGS
abbrev pub others_of : Registers → Registers
others_of r = record r { general = []; rip = 0; rflags = 0 }

-- where a row leads: on to the next row, but a branch to its target
unfoldable pub leads_to : Op → Row → ℕ → Registers → List ℕ → ℕ
leads_to op.Call row next r values = target_of row next r values
leads_to op.Jcc row next r values =
    if condition_holds row.condition (flags_of r) then (next + row.immediate) % 2 ^ 64 else next
leads_to op.Jmp row next r values = target_of row next r values
leads_to op.Ret row next r values = slice_index values 0
leads_to _ row next r values = next

-- a row that is done has moved on, so no row is done by doing nothing
abbrev pub MovesOn : Row → ℕ → List ℕ → Registers → Registers → Type 0
MovesOn row next values old new = new.rip ≡ leads_to row.op row next old values
