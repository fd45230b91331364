-- That the columns of the table of instruction rows agree: what follows the opcode, the operand size and the immediate
-- are those that the letters of the operands say, each form's line stands at its number, and the lines of one instruction
-- are all user rows or all system rows.
use Rattle.std.specs.Prelude.{◌≡◌, ℕ, zero, suc, ◌+◌, ◌&&◌, ◌||◌, not, List, [], ◌∷◌, Bool, true, false, map}
use Rattle.std.specs.List.{list_all}
use Rattle.svm_model.specs.Instructions.RowNumbers.{form_number}
use Rattle.svm_model.specs.Instructions.RowTable.{table, is_rm, is_reg}
use Rattle.svm_model.specs.Instructions.UserRows.{is_user_row, is_user_class}
use Rattle.svm_model.specs.declared.row_lines.Immediate.{Immediate}
use Rattle.svm_model.specs.declared.row_lines.Immediate.TheVariants as immediate
use Rattle.svm_model.specs.declared.row_lines.LineOperation.{LineOperation}
use Rattle.svm_model.specs.declared.row_lines.LineOperation.TheVariants as operation
use Rattle.svm_model.specs.declared.row_lines.OperandCode.{OperandCode}
use Rattle.svm_model.specs.declared.row_lines.OperandCode.TheVariants as code
use Rattle.svm_model.specs.declared.row_lines.OperandCodes.{OperandCodes}
use Rattle.svm_model.specs.declared.row_lines.OperandFields.{OperandFields}
use Rattle.svm_model.specs.declared.row_lines.OperandFields.TheVariants as fields
use Rattle.svm_model.specs.declared.row_lines.OperandSize.{OperandSize}
use Rattle.svm_model.specs.declared.row_lines.OperandSize.TheVariants as size
use Rattle.svm_model.specs.declared.row_lines.RowClass.{RowClass}
use Rattle.svm_model.specs.declared.row_lines.RowLine.{RowLine}
use Rattle.svm_model.specs.declared.rows.Op.TheVariants as op

-- the immediate of an operand's letters
abbrev pub immediate_by : OperandCode → Immediate
immediate_by code.One = immediate.One
immediate_by code.Ib = immediate.Byte
immediate_by code.Iw = immediate.Word
immediate_by code.Ibs = immediate.Signed
immediate_by code.Jb = immediate.Signed
immediate_by code.Iz = immediate.Full
immediate_by code.Jz = immediate.Full
immediate_by code.Iv = immediate.Whole
immediate_by _ = immediate.Nothing

abbrev pub same_immediate : Immediate → Immediate → Bool
same_immediate immediate.Nothing immediate.Nothing = true
same_immediate immediate.One immediate.One = true
same_immediate immediate.Byte immediate.Byte = true
same_immediate immediate.Word immediate.Word = true
same_immediate immediate.Signed immediate.Signed = true
same_immediate immediate.Full immediate.Full = true
same_immediate immediate.Whole immediate.Whole = true
same_immediate _ _ = false

-- this letter and no other gives the immediate, or none does
abbrev pub has_that : Immediate → OperandCode → Bool
has_that i c = same_immediate (immediate_by c) immediate.Nothing || same_immediate (immediate_by c) i

abbrev pub gives : Immediate → OperandCodes → Bool
gives i c = same_immediate (immediate_by c.first) i || (same_immediate (immediate_by c.second) i || same_immediate (immediate_by c.third) i)

abbrev pub immediate_agrees : RowLine → Bool
immediate_agrees l =
    has_that l.immediate l.operands.first && (has_that l.immediate l.operands.second && (has_that l.immediate l.operands.third && gives l.immediate l.operands))

-- r/m names a register alone, or memory alone; reg names a control or a debug register
abbrev pub is_register_rm : OperandCode → Bool
is_register_rm code.Rq = true
is_register_rm code.Rv = true
is_register_rm _ = false

abbrev pub is_memory_rm : OperandCode → Bool
is_memory_rm code.M = true
is_memory_rm _ = false

abbrev pub is_control_register : OperandCode → Bool
is_control_register code.Cq = true
is_control_register _ = false

abbrev pub is_debug_register : OperandCode → Bool
is_debug_register code.Dq = true
is_debug_register _ = false

-- the opcode's low three bits name a register
abbrev pub is_opcode_register : OperandCode → Bool
is_opcode_register code.Zb = true
is_opcode_register code.Zv = true
is_opcode_register code.Zq = true
is_opcode_register _ = false

abbrev pub is_accumulator : OperandCode → Bool
is_accumulator code.Al = true
is_accumulator code.Rax = true
is_accumulator _ = false

-- a letter of ModRM or of the opcode
abbrev pub is_encoded : OperandCode → Bool
is_encoded c =
    is_rm c || (is_register_rm c || (is_memory_rm c || (is_reg c || (is_control_register c || (is_debug_register c || is_opcode_register c)))))

-- two operands, one of each kind, in either order; and one alone, which is the first
abbrev pub has_both : (OperandCode → Bool) → (OperandCode → Bool) → OperandCodes → Bool
has_both one other c = (one c.first && other c.second || other c.first && one c.second) && not (is_encoded c.third)

abbrev pub has_first : (OperandCode → Bool) → OperandCodes → Bool
has_first one c = one c.first && (not (is_encoded c.second) && not (is_encoded c.third))

abbrev pub has_none : OperandCodes → Bool
has_none c = not (is_encoded c.first) && (not (is_encoded c.second) && not (is_encoded c.third))

-- what follows the opcode is what the letters name
abbrev pub fields_agree : OperandFields → OperandCodes → Bool
fields_agree fields.Absent c = has_none c
fields_agree fields.Accumulator c = has_none c && is_accumulator c.first
fields_agree fields.Opcode c = has_first is_opcode_register c
fields_agree fields.Any c = has_both is_rm is_reg c
fields_agree fields.Direct c = has_both is_register_rm is_reg c
fields_agree fields.Memory c = has_both is_memory_rm is_reg c
fields_agree fields.AnyDigit c = has_first is_rm c
fields_agree fields.ShiftDigit c = has_first is_rm c
fields_agree (fields.Digit d) c = has_first is_rm c
fields_agree (fields.DigitMemory d) c = has_first is_memory_rm c
fields_agree fields.Control c = has_both is_register_rm is_control_register c
fields_agree fields.Debug c = has_both is_register_rm is_debug_register c
fields_agree (fields.Exact byte) c = has_none c

-- letters without a width, or whose width goes with each size
abbrev pub has_any_size : OperandCode → Bool
has_any_size code.Absent = true
has_any_size code.M = true
has_any_size code.Ib = true
has_any_size code.One = true
has_any_size code.Cl = true
has_any_size code.Dx = true
has_any_size _ = false

-- an operand of these letters may stand in a form of the size
abbrev pub has_size : OperandSize → OperandCode → Bool
has_size size.Byte code.Eb = true
has_size size.Byte code.Gb = true
has_size size.Byte code.Zb = true
has_size size.Byte code.Al = true
has_size size.Operand code.Ev = true
has_size size.Operand code.Ew = true
has_size size.Operand code.Ed = true
has_size size.Operand code.Rv = true
has_size size.Operand code.Gv = true
has_size size.Operand code.Zv = true
has_size size.Operand code.Rax = true
has_size size.Operand code.Ibs = true
has_size size.Operand code.Iz = true
has_size size.Operand code.Iv = true
has_size size.FromByte code.Eb = true
has_size size.FromByte code.Gv = true
has_size size.Quad code.Eq = true
has_size size.Quad code.Rq = true
has_size size.Quad code.Zq = true
has_size size.Quad code.Cq = true
has_size size.Quad code.Dq = true
has_size size.Quad code.Iw = true
has_size size.Quad code.Ibs = true
has_size size.Quad code.Iz = true
has_size size.Quad code.Jb = true
has_size size.Quad code.Jz = true
has_size size.PortByte code.Al = true
has_size size.Port code.Eax = true
has_size _ c = has_any_size c

abbrev pub size_agrees : RowLine → Bool
size_agrees l = has_size l.size l.operands.first && (has_size l.size l.operands.second && has_size l.size l.operands.third)

-- the line is a user row where its instruction is one
abbrev pub same_class : RowClass → Bool → Bool
same_class c user = (is_user_class c && user) || (not (is_user_class c) && not user)

abbrev pub class_agrees : LineOperation → RowClass → Bool
class_agrees operation.ByOpcode c = same_class c (is_user_row op.Add)
class_agrees operation.ByDigit c = same_class c (is_user_row op.Add)
class_agrees operation.ByShiftDigit c = same_class c (is_user_row op.Rol)
class_agrees (operation.Is x) c = same_class c (is_user_row x)
class_agrees (operation.Conditional x) c = same_class c (is_user_row x)

abbrev pub agrees : RowLine → Bool
agrees l = immediate_agrees l && (fields_agree l.fields l.operands && (size_agrees l && class_agrees l.operation l.class))

-- so many numbers, from this one on
unfoldable pub numbers_from : ℕ → ℕ → List ℕ
numbers_from zero n = []
numbers_from (suc count) n = n ∷ numbers_from count (n + 1)

pub record ColumnsAgree : Type 0 where
  pub each : list_all agrees table ≡ true
  pub placed : map (λ line. form_number line.form) table ≡ numbers_from 137 0
