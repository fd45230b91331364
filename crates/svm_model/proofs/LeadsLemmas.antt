-- Where a user row leads: each one that is done goes on to the next row, or to its branch's target.
use Rattle.std.proofs.Common.{◌≡◌, ℕ, Bool, true, false, if◌then◌else◌, List, refl, sym, ap, ◌∙◌, Result, Ok, Err, IsTrue, slice_index}
use Rattle.std.specs.Prelude.{nat_lt}
use Rattle.svm_model.specs.declared.applied.Applied.TheVariants.{Done}
use Rattle.svm_model.specs.declared.flags.NoQuotient.{NoQuotient}
use Rattle.svm_model.specs.declared.rows.Op.{Op}
use Rattle.svm_model.specs.declared.rows.Op.TheVariants as op
use Rattle.svm_model.specs.declared.rows.Row.{Row}
use Rattle.svm_model.specs.declared.rows.Width.{Width}
use Rattle.svm_model.specs.declared.traps.Trap.{Trap}
use Rattle.svm_model.specs.Instructions.Operands.{State, at_rip}
use Rattle.svm_model.specs.Instructions.Locking.{lock_is_undefined}
use Rattle.svm_model.specs.Instructions.Moves.{moves, movzx_extends, movsx_extends, lea_loads, cmovcc_moves, setcc_sets, cbw_extends, cwd_spreads_sign}
use Rattle.svm_model.specs.Instructions.Arithmetic.{adds, subtracts, compares, combines, tests_bits, not_inverts, negates, increments, decrements}
use Rattle.svm_model.specs.Instructions.ShiftRows.{shifts}
use Rattle.svm_model.specs.Instructions.MultiplyRows.{multiplies, multiplies_into_register, has_one_operand, multiplies_signed, divided, divides}
use Rattle.svm_model.specs.Instructions.BitRows.{bt_copies_bit, changes_bit, exchanges, exchanges_and_adds, compares_and_exchanges}
use Rattle.svm_model.specs.Instructions.Branches.{pushes, pops, leaves, jumps, jumps_where, calls, returns, pushed, popped, stack_place, target_of}
use Rattle.svm_model.specs.Instructions.RowNumbers.{op_number}
use Rattle.svm_model.specs.Instructions.UserRows.{is_user_row}
use Rattle.svm_model.specs.Instructions.Apply.{done_op, applied_op, applied, answer_of, state_after, leads_to}
use Rattle.svm_model.proofs.RowTableLemmas.{user_rows_first}

abbrev done : State → Result State Trap
done s = Ok s

-- a state that is done, with its RIP
done-leads : (t new : State) (rip : ℕ) → t.registers.rip ≡ rip → done t ≡ done new → new.registers.rip ≡ rip
done-leads t new rip h e = let same : t ≡ new = cc in ap (λ (s : State). s.registers.rip) (sym same) ∙ h

-- a branch that is not refused
branched-leads : (b : Bool) (target : ℕ) (s new : State) (trap : Trap) → (if b then Ok (at_rip target s) else Err trap) ≡ Ok new → new.registers.rip ≡ target
branched-leads true target s new trap e = done-leads (at_rip target s) new target refl e
branched-leads false target s new trap e = absurd (cc)

-- a branch that is taken, or the next row
taken-leads : (b c : Bool) (target next : ℕ) (s new : State) (trap : Trap) → (if b then (if c then Ok (at_rip target s) else Err trap) else Ok (at_rip next s)) ≡ Ok new → new.registers.rip ≡ (if b then target else next)
taken-leads true c target next s new trap e = branched-leads c target s new trap e
taken-leads false c target next s new trap e = done-leads (at_rip next s) new next refl e

choice-leads : (b : Bool) (t u : State) (next : ℕ) → t.registers.rip ≡ next → u.registers.rip ≡ next → (if b then t else u).registers.rip ≡ next
choice-leads true t u next h k = h
choice-leads false t u next h k = k

multiplies_signed-leads : (row : Row) (next : ℕ) (values : List ℕ) (s : State) → (multiplies_signed row next values s).registers.rip ≡ next
unfolding multiplies_signed multiplies multiplies_into_register
multiplies_signed-leads row next values s = choice-leads (has_one_operand row.form) _ _ next refl refl

divided-leads : (w : Width) (next : ℕ) (s : State) (r : Result (ℕ × ℕ) NoQuotient) (new : State) → divided w next s r ≡ Ok new → new.registers.rip ≡ next
divided-leads w next s (Ok (quotient, remainder)) new e = done-leads _ new next refl e
divided-leads w next s (Err none) new e = absurd (cc)

-- each user row by its instruction
applied_op-leads : (o : Op) (row : Row) (next : ℕ) (values : List ℕ) (s new : State) → nat_lt (op_number o) 54 ≡ true → applied_op o row next values s ≡ Ok new → new.registers.rip ≡ leads_to o row next s.registers values
unfolding applied_op done_op leads_to op_number moves movzx_extends movsx_extends lea_loads cmovcc_moves setcc_sets cbw_extends cwd_spreads_sign adds subtracts compares combines tests_bits not_inverts negates increments decrements shifts multiplies divides bt_copies_bit changes_bit exchanges exchanges_and_adds compares_and_exchanges pushes pops leaves jumps jumps_where calls returns
applied_op-leads op.Add row next values s new u e = done-leads _ new next refl e
applied_op-leads op.Or row next values s new u e = done-leads _ new next refl e
applied_op-leads op.Adc row next values s new u e = done-leads _ new next refl e
applied_op-leads op.Sbb row next values s new u e = done-leads _ new next refl e
applied_op-leads op.And row next values s new u e = done-leads _ new next refl e
applied_op-leads op.Sub row next values s new u e = done-leads _ new next refl e
applied_op-leads op.Xor row next values s new u e = done-leads _ new next refl e
applied_op-leads op.Cmp row next values s new u e = done-leads _ new next refl e
applied_op-leads op.Test row next values s new u e = done-leads _ new next refl e
applied_op-leads op.Not row next values s new u e = done-leads _ new next refl e
applied_op-leads op.Neg row next values s new u e = done-leads _ new next refl e
applied_op-leads op.Mul row next values s new u e = done-leads _ new next refl e
applied_op-leads op.Imul row next values s new u e = done-leads _ new next (multiplies_signed-leads row next values s) e
applied_op-leads op.Div row next values s new u e = divided-leads _ next s _ new e
applied_op-leads op.Idiv row next values s new u e = divided-leads _ next s _ new e
applied_op-leads op.Inc row next values s new u e = done-leads _ new next refl e
applied_op-leads op.Dec row next values s new u e = done-leads _ new next refl e
applied_op-leads op.Rol row next values s new u e = done-leads _ new next refl e
applied_op-leads op.Ror row next values s new u e = done-leads _ new next refl e
applied_op-leads op.Shl row next values s new u e = done-leads _ new next refl e
applied_op-leads op.Shr row next values s new u e = done-leads _ new next refl e
applied_op-leads op.Sar row next values s new u e = done-leads _ new next refl e
applied_op-leads op.Mov row next values s new u e = done-leads _ new next refl e
applied_op-leads op.Movzx row next values s new u e = done-leads _ new next refl e
applied_op-leads op.Movsx row next values s new u e = done-leads _ new next refl e
applied_op-leads op.Movsxd row next values s new u e = done-leads _ new next refl e
applied_op-leads op.Lea row next values s new u e = done-leads _ new next refl e
applied_op-leads op.Xchg row next values s new u e = done-leads _ new next refl e
applied_op-leads op.Cmpxchg row next values s new u e = done-leads _ new next refl e
applied_op-leads op.Xadd row next values s new u e = done-leads _ new next refl e
applied_op-leads op.Bt row next values s new u e = done-leads _ new next refl e
applied_op-leads op.Bts row next values s new u e = done-leads _ new next refl e
applied_op-leads op.Btr row next values s new u e = done-leads _ new next refl e
applied_op-leads op.Btc row next values s new u e = done-leads _ new next refl e
applied_op-leads op.Push row next values s new u e = done-leads _ new next refl e
applied_op-leads op.Pop row next values s new u e = done-leads _ new next refl e
applied_op-leads op.Call row next values s new u e =
    branched-leads _ (target_of row next s.registers values) (pushed (stack_place row.operand) next s) new _ e
applied_op-leads op.Ret row next values s new u e = branched-leads _ (slice_index values 0) (popped row.immediate s) new _ e
applied_op-leads op.Jmp row next values s new u e = branched-leads _ (target_of row next s.registers values) s new _ e
applied_op-leads op.Jcc row next values s new u e = taken-leads _ _ _ next s new _ e
applied_op-leads op.Setcc row next values s new u e = done-leads _ new next refl e
applied_op-leads op.Cmovcc row next values s new u e = done-leads _ new next refl e
applied_op-leads op.Leave row next values s new u e = done-leads _ new next refl e
applied_op-leads op.Cbw row next values s new u e = done-leads _ new next refl e
applied_op-leads op.Cwd row next values s new u e = done-leads _ new next refl e
applied_op-leads op.Clc row next values s new u e = done-leads _ new next refl e
applied_op-leads op.Stc row next values s new u e = done-leads _ new next refl e
applied_op-leads op.Cmc row next values s new u e = done-leads _ new next refl e
applied_op-leads op.Cld row next values s new u e = done-leads _ new next refl e
applied_op-leads op.Std row next values s new u e = done-leads _ new next refl e
applied_op-leads op.Nop row next values s new u e = done-leads _ new next refl e
applied_op-leads op.Lfence row next values s new u e = done-leads _ new next refl e
applied_op-leads op.Mfence row next values s new u e = done-leads _ new next refl e
applied_op-leads op.Sfence row next values s new u e = done-leads _ new next refl e
applied_op-leads op.Pause row next values s new u e = absurd (cc)
applied_op-leads op.Hlt row next values s new u e = absurd (cc)
applied_op-leads op.Ud2 row next values s new u e = absurd (cc)
applied_op-leads op.Cli row next values s new u e = absurd (cc)
applied_op-leads op.Sti row next values s new u e = absurd (cc)
applied_op-leads op.Pushfq row next values s new u e = absurd (cc)
applied_op-leads op.Popfq row next values s new u e = absurd (cc)
applied_op-leads op.Int3 row next values s new u e = absurd (cc)
applied_op-leads op.Int row next values s new u e = absurd (cc)
applied_op-leads op.Iretq row next values s new u e = absurd (cc)
applied_op-leads op.In row next values s new u e = absurd (cc)
applied_op-leads op.Out row next values s new u e = absurd (cc)
applied_op-leads op.MovCr row next values s new u e = absurd (cc)
applied_op-leads op.MovDr row next values s new u e = absurd (cc)
applied_op-leads op.Rdmsr row next values s new u e = absurd (cc)
applied_op-leads op.Wrmsr row next values s new u e = absurd (cc)
applied_op-leads op.Cpuid row next values s new u e = absurd (cc)
applied_op-leads op.Rdtsc row next values s new u e = absurd (cc)
applied_op-leads op.Lgdt row next values s new u e = absurd (cc)
applied_op-leads op.Lidt row next values s new u e = absurd (cc)
applied_op-leads op.Invlpg row next values s new u e = absurd (cc)
applied_op-leads op.Swapgs row next values s new u e = absurd (cc)
applied_op-leads op.Vmrun row next values s new u e = absurd (cc)
applied_op-leads op.Vmmcall row next values s new u e = absurd (cc)
applied_op-leads op.Vmload row next values s new u e = absurd (cc)
applied_op-leads op.Vmsave row next values s new u e = absurd (cc)
applied_op-leads op.Stgi row next values s new u e = absurd (cc)
applied_op-leads op.Clgi row next values s new u e = absurd (cc)
applied_op-leads op.Invlpga row next values s new u e = absurd (cc)

-- no user row is a forgotten one: what is done leads on
moves_on-unlocked : (b : Bool) (row : Row) (next : ℕ) (values : List ℕ) (s : State) (trap : Trap) → nat_lt (op_number row.op) 54 ≡ true → answer_of (if b then Err trap else applied_op row.op row next values s) ≡ Done → (state_after s (if b then Err trap else applied_op row.op row next values s)).registers.rip ≡ leads_to row.op row next s.registers values
moves_on-unlocked true row next values s trap u e = absurd (cc)
moves_on-unlocked false row next values s trap u e = go (applied_op row.op row next values s) refl e where
  go : (r : Result State Trap) → applied_op row.op row next values s ≡ r → answer_of r ≡ Done → (state_after s r).registers.rip ≡ leads_to row.op row next s.registers values
  go (Ok new) h e = applied_op-leads row.op row next values s new u h
  go (Err t) h e = absurd (cc)

user_number : (o : Op) → IsTrue (is_user_row o) → nat_lt (op_number o) 54 ≡ true
user_number o user = let h = user_rows_first o in cc

pub applied-moves_on : (row : Row) (next : ℕ) (values : List ℕ) (s : State) → IsTrue (is_user_row row.op) → answer_of (applied row next values s) ≡ Done → (state_after s (applied row next values s)).registers.rip ≡ leads_to row.op row next s.registers values
unfolding applied
applied-moves_on row next values s user e = moves_on-unlocked (lock_is_undefined row) row next values s _ (user_number row.op user) e
