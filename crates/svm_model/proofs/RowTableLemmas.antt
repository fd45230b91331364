-- What the table of rows says of instructions, and that its columns agree: these compute.
use Rattle.std.proofs.Common.{◌≡◌, refl}
use Rattle.std.specs.Prelude.{nat_lt}
use Rattle.svm_model.specs.Instructions.RowColumns.{ColumnsAgree, numbers_from}
use Rattle.svm_model.specs.Instructions.RowNumbers.{form_number, op_number}
use Rattle.svm_model.specs.Instructions.UserRows.{is_user_row}
use Rattle.svm_model.specs.Instructions.RowTable.{table}
use Rattle.svm_model.specs.Instructions.RowLines.{first_where}
use Rattle.svm_model.specs.declared.rows.Op.{Op}
use Rattle.svm_model.specs.declared.rows.Op.TheVariants as op

-- user rows come before system rows
pub user_rows_first : (o : Op) → is_user_row o ≡ nat_lt (op_number o) 54
unfolding is_user_row op_number table first_where
user_rows_first op.Add = refl
user_rows_first op.Or = refl
user_rows_first op.Adc = refl
user_rows_first op.Sbb = refl
user_rows_first op.And = refl
user_rows_first op.Sub = refl
user_rows_first op.Xor = refl
user_rows_first op.Cmp = refl
user_rows_first op.Test = refl
user_rows_first op.Not = refl
user_rows_first op.Neg = refl
user_rows_first op.Mul = refl
user_rows_first op.Imul = refl
user_rows_first op.Div = refl
user_rows_first op.Idiv = refl
user_rows_first op.Inc = refl
user_rows_first op.Dec = refl
user_rows_first op.Rol = refl
user_rows_first op.Ror = refl
user_rows_first op.Shl = refl
user_rows_first op.Shr = refl
user_rows_first op.Sar = refl
user_rows_first op.Mov = refl
user_rows_first op.Movzx = refl
user_rows_first op.Movsx = refl
user_rows_first op.Movsxd = refl
user_rows_first op.Lea = refl
user_rows_first op.Xchg = refl
user_rows_first op.Cmpxchg = refl
user_rows_first op.Xadd = refl
user_rows_first op.Bt = refl
user_rows_first op.Bts = refl
user_rows_first op.Btr = refl
user_rows_first op.Btc = refl
user_rows_first op.Push = refl
user_rows_first op.Pop = refl
user_rows_first op.Call = refl
user_rows_first op.Ret = refl
user_rows_first op.Jmp = refl
user_rows_first op.Jcc = refl
user_rows_first op.Setcc = refl
user_rows_first op.Cmovcc = refl
user_rows_first op.Leave = refl
user_rows_first op.Cbw = refl
user_rows_first op.Cwd = refl
user_rows_first op.Clc = refl
user_rows_first op.Stc = refl
user_rows_first op.Cmc = refl
user_rows_first op.Cld = refl
user_rows_first op.Std = refl
user_rows_first op.Nop = refl
user_rows_first op.Lfence = refl
user_rows_first op.Mfence = refl
user_rows_first op.Sfence = refl
user_rows_first op.Pause = refl
user_rows_first op.Hlt = refl
user_rows_first op.Ud2 = refl
user_rows_first op.Cli = refl
user_rows_first op.Sti = refl
user_rows_first op.Pushfq = refl
user_rows_first op.Popfq = refl
user_rows_first op.Int3 = refl
user_rows_first op.Int = refl
user_rows_first op.Iretq = refl
user_rows_first op.In = refl
user_rows_first op.Out = refl
user_rows_first op.MovCr = refl
user_rows_first op.MovDr = refl
user_rows_first op.Rdmsr = refl
user_rows_first op.Wrmsr = refl
user_rows_first op.Cpuid = refl
user_rows_first op.Rdtsc = refl
user_rows_first op.Lgdt = refl
user_rows_first op.Lidt = refl
user_rows_first op.Invlpg = refl
user_rows_first op.Swapgs = refl
user_rows_first op.Vmrun = refl
user_rows_first op.Vmmcall = refl
user_rows_first op.Vmload = refl
user_rows_first op.Vmsave = refl
user_rows_first op.Stgi = refl
user_rows_first op.Clgi = refl
user_rows_first op.Invlpga = refl

pub columns_agree : ColumnsAgree
unfolding table form_number is_user_row op_number first_where numbers_from
columns_agree = record { each = refl; placed = refl }
