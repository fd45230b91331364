-- User rows: those that need nothing beyond the registers and memory. System rows need a port, an event, IF, a change of
-- privilege or of paging, a system register, or another guest's state. The table says which a row is.
use Rattle.std.specs.Prelude.{◌&&◌, nat_le, ◌==◌, Bool, true, false, Option, Some, None}
use Rattle.svm_model.specs.Instructions.RowLines.{first_where}
use Rattle.svm_model.specs.Instructions.RowNumbers.{op_number}
use Rattle.svm_model.specs.Instructions.RowTable.{table}
use Rattle.svm_model.specs.declared.row_lines.LineOperation.{LineOperation}
use Rattle.svm_model.specs.declared.row_lines.LineOperation.TheVariants as operation
use Rattle.svm_model.specs.declared.row_lines.RowClass.{RowClass}
use Rattle.svm_model.specs.declared.row_lines.RowClass.TheVariants as class
use Rattle.svm_model.specs.declared.row_lines.RowLine.{RowLine}
use Rattle.svm_model.specs.declared.rows.Op.{Op}
use Rattle.svm_model.specs.declared.rows.Op.TheVariants as op

abbrev pub same_op : Op → Op → Bool
same_op a b = op_number a == op_number b

-- ADD, OR, ADC, SBB, AND, SUB, XOR or CMP
abbrev pub is_arithmetic : Op → Bool
is_arithmetic o = nat_le (op_number op.Add) (op_number o) && nat_le (op_number o) (op_number op.Cmp)

-- ROL, ROR, SHL, SHR or SAR
abbrev pub is_shift : Op → Bool
is_shift o = nat_le (op_number op.Rol) (op_number o) && nat_le (op_number o) (op_number op.Sar)

-- the line is of the instruction
abbrev pub is_of : LineOperation → Op → Bool
is_of operation.ByOpcode o = is_arithmetic o
is_of operation.ByDigit o = is_arithmetic o
is_of operation.ByShiftDigit o = is_shift o
is_of (operation.Is x) o = same_op x o
is_of (operation.Conditional x) o = same_op x o

abbrev pub is_user_class : RowClass → Bool
is_user_class class.User = true
is_user_class class.System = false

abbrev pub is_user_line : Option RowLine → Bool
is_user_line (Some line) = is_user_class line.class
is_user_line None = false

-- the lines of the instruction are user rows; all lines of one instruction are alike (`RowColumns`)
unfoldable pub is_user_row : Op → Bool
is_user_row o = is_user_line (first_where (λ line. is_of line.operation o) table)
