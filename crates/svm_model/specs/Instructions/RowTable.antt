-- The table of instruction rows, and the line of a form. Its lines and columns stand in src/instruction_table.rt, a line
-- for each form of volume 3 ('General-Purpose Instruction Reference' and 'System Instruction Reference').
use Rattle.std.specs.Prelude.{ℕ, List, Bool, true, false, slice_index_or}
use Rattle.svm_model.specs.Instructions.RowNumbers.{form_number}
use Rattle.svm_model.specs.declared.instruction_table.TheConstants.{TABLE}
use Rattle.svm_model.specs.declared.row_lines.OperandFields.TheVariants as fields
use Rattle.svm_model.specs.declared.row_lines.Immediate.TheVariants as immediate
use Rattle.svm_model.specs.declared.row_lines.RowLine.{RowLine}
use Rattle.svm_model.specs.declared.row_lines.OpcodeMap.TheVariants as map
use Rattle.svm_model.specs.declared.row_lines.RexNeeds.TheVariants as needs
use Rattle.svm_model.specs.declared.row_lines.LineOperation.TheVariants as operation
use Rattle.svm_model.specs.declared.row_lines.LockUse.TheVariants as lock
use Rattle.svm_model.specs.declared.row_lines.OperandCode.{OperandCode}
use Rattle.svm_model.specs.declared.row_lines.OperandCode.TheVariants as code
use Rattle.svm_model.specs.declared.row_lines.OperandCodes.{OperandCodes}
use Rattle.svm_model.specs.declared.row_lines.OperandSize.TheVariants as size
use Rattle.svm_model.specs.declared.row_lines.RowClass.TheVariants as class
use Rattle.svm_model.specs.declared.rows.Form.{Form}
use Rattle.svm_model.specs.declared.rows.Form.TheVariants as form

unfoldable pub table : List RowLine
table = TABLE

-- the line of this number; there is one for each form
unfoldable pub line_at : ℕ → RowLine
line_at number = slice_index_or table number (record {
  map = map.Primary;
  first = 0;
  step = 0;
  count = 0;
  fields = fields.Absent;
  size = size.Byte;
  immediate = immediate.Nothing;
  needs = needs.Nothing;
  operation = operation.ByOpcode;
  operands = record { first = code.Absent; second = code.Absent; third = code.Absent };
  lock = lock.Refused;
  class = class.User;
  form = form.Arithmetic00;
})

abbrev pub line_of : Form → RowLine
line_of form = line_at (form_number form)

abbrev pub operands_of : Form → OperandCodes
operands_of form = (line_of form).operands

-- E: r/m names a register or memory
abbrev pub is_rm : OperandCode → Bool
is_rm code.Eb = true
is_rm code.Ew = true
is_rm code.Ed = true
is_rm code.Eq = true
is_rm code.Ev = true
is_rm _ = false

-- G: reg names a general register
abbrev pub is_reg : OperandCode → Bool
is_reg code.Gb = true
is_reg code.Gv = true
is_reg _ = false

-- I: an immediate
abbrev pub is_immediate : OperandCode → Bool
is_immediate code.Ib = true
is_immediate code.Ibs = true
is_immediate code.Iw = true
is_immediate code.Iz = true
is_immediate code.Iv = true
is_immediate _ = false

abbrev pub is_cl : OperandCode → Bool
is_cl code.Cl = true
is_cl _ = false

abbrev pub is_dx : OperandCode → Bool
is_dx code.Dx = true
is_dx _ = false

abbrev pub is_absent : OperandCode → Bool
is_absent code.Absent = true
is_absent _ = false
