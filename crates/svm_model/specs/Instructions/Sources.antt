-- The destination and the source of a row with two operands, by its form's line in the table (volume 3, 'Opcode and
-- Operand Encodings').
use Rattle.std.specs.Prelude.{ℕ, Bool, ◌&&◌, ◌||◌, if◌then◌else◌, List}
use Rattle.svm_model.specs.Instructions.Operands.{cut, operand_value, register_named}
use Rattle.svm_model.specs.Instructions.RowTable.{operands_of, is_rm, is_reg, is_immediate, is_dx}
use Rattle.svm_model.specs.declared.rows.Form.{Form}
use Rattle.svm_model.specs.declared.row_lines.OperandCode.{OperandCode}
use Rattle.svm_model.specs.declared.row_lines.OperandCode.TheVariants as code
use Rattle.svm_model.specs.declared.row_lines.OperandCodes.{OperandCodes}
use Rattle.svm_model.specs.declared.rows.Operand.{Operand}
use Rattle.svm_model.specs.declared.rows.Row.{Row}
use Rattle.svm_model.specs.declared.rows.Width.{Width}
use Rattle.svm_model.specs.declared.rows.Width.TheVariants as width
use Rattle.svm_model.specs.declared.register_file.Registers.{Registers}

-- the reg field names the destination, and r/m the source
unfoldable pub is_reversed : Form → Bool
is_reversed form = is_reg (operands_of form).first && is_rm (operands_of form).second

-- the source is an immediate
unfoldable pub has_immediate : Form → Bool
has_immediate form = is_immediate (operands_of form).second || is_immediate (operands_of form).third

-- the port of IN or OUT stands in DX
unfoldable pub names_dx : Form → Bool
names_dx form = is_dx (operands_of form).first || is_dx (operands_of form).second

-- the operand that r/m names
abbrev pub rm_code : OperandCodes → OperandCode
rm_code codes = if is_rm codes.first then codes.first else codes.second

-- the width that the letters say, in a row of this width
abbrev pub width_by : OperandCode → Width → Width
width_by code.Eb w = width.W8
width_by code.Ew w = width.W16
width_by code.Ed w = width.W32
width_by code.Eq w = width.W64
width_by _ w = w

-- The width of the operand that r/m names: that of the row, but for the sources of MOVZX, MOVSX and MOVSXD.
unfoldable pub operand_width : Row → Width
operand_width row = width_by (rm_code (operands_of row.form)) row.width

abbrev pub destination : Row → Operand
destination row = if is_reversed row.form then register_named row.register else row.operand

-- the operand that is the source, where it is no immediate
abbrev pub source_operand : Row → Operand
source_operand row = if is_reversed row.form then row.operand else register_named row.register

-- the operand that is changed, or the first of those that are compared
abbrev pub destination_value : Row → Registers → List ℕ → ℕ
destination_value row r values = operand_value row.width (destination row) r values

abbrev pub source_value : Row → Registers → List ℕ → ℕ
source_value row r values =
    if has_immediate row.form then cut row.width row.immediate else operand_value row.width (source_operand row) r values
