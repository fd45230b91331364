-- The parts of a row, where the line of the table, the opcode and the ModRM byte are known (volume 3, 'Instruction
-- Encoding', 'Operand Size' and 'Immediate Bytes').
use Rattle.std.specs.Prelude.{ℕ, ◌/◌, ◌%◌, List, Bool, true, false, ◌==◌, if◌then◌else◌, Result, Ok}
use Rattle.svm_model.specs.Instructions.InstructionBytes.{◌>>=◌, byte_at, word_at, double_at, quad_at}
use Rattle.svm_model.specs.Instructions.ModRm.{reg_of, rm_of, extended_8, extended_32, register_operand, register_code, operand_at}
use Rattle.svm_model.specs.Instructions.Operands.{cut}
use Rattle.svm_model.specs.declared.row_lines.OperandFields.TheVariants as fields
use Rattle.svm_model.specs.declared.row_lines.OperandFields.{OperandFields}
use Rattle.svm_model.specs.declared.row_lines.Immediate.TheVariants as immediate
use Rattle.svm_model.specs.declared.row_lines.Immediate.{Immediate}
use Rattle.svm_model.specs.declared.row_lines.RowLine.{RowLine}
use Rattle.svm_model.specs.declared.row_lines.OpenedLine.{OpenedLine}
use Rattle.svm_model.specs.declared.row_lines.LineOperation.TheVariants as operation
use Rattle.svm_model.specs.declared.row_lines.LineOperation.{LineOperation}
use Rattle.svm_model.specs.declared.row_lines.Prefixes.{Prefixes}
use Rattle.svm_model.specs.declared.row_lines.Rex.{Rex}
use Rattle.svm_model.specs.declared.row_lines.OperandSize.TheVariants as size
use Rattle.svm_model.specs.declared.row_lines.OperandSize.{OperandSize}
use Rattle.svm_model.specs.declared.row_lines.Unread.{Unread}
use Rattle.svm_model.specs.declared.rows.Op.TheVariants as op
use Rattle.svm_model.specs.declared.rows.Op.{Op}
use Rattle.svm_model.specs.declared.rows.Operand.TheVariants as operand
use Rattle.svm_model.specs.declared.rows.Operand.{Operand}
use Rattle.svm_model.specs.declared.rows.Row.{Row}
use Rattle.svm_model.specs.declared.rows.Width.TheVariants as width
use Rattle.svm_model.specs.declared.rows.Width.{Width}

-- ADD OR ADC SBB AND SUB XOR CMP
abbrev pub arithmetic : ℕ → Op
arithmetic n =
    if n == 0 then op.Add else (if n == 1 then op.Or else (if n == 2 then op.Adc else (if n == 3 then op.Sbb
    else (if n == 4 then op.And else (if n == 5 then op.Sub else (if n == 6 then op.Xor else op.Cmp))))))

-- ROL ROR SHL SHR SAR
abbrev pub shift_or_rotation : ℕ → Op
shift_or_rotation n =
    if n == 0 then op.Rol else (if n == 1 then op.Ror else (if n == 4 then op.Shl else (if n == 5 then op.Shr else op.Sar)))

abbrev pub op_by : LineOperation → ℕ → ℕ → Op
op_by operation.ByOpcode opcode modrm = arithmetic (opcode / 8)
op_by operation.ByDigit opcode modrm = arithmetic (reg_of modrm)
op_by operation.ByShiftDigit opcode modrm = shift_or_rotation (reg_of modrm)
op_by (operation.Is op) opcode modrm = op
op_by (operation.Conditional op) opcode modrm = op

abbrev pub condition_by : LineOperation → ℕ → ℕ
condition_by (operation.Conditional op) opcode = opcode % 16
condition_by _ opcode = 0

-- 64 bits with REX.W, else 16 with 66h, else 32; ports have no 64
abbrev pub width_of : OperandSize → Prefixes → Rex → Width
width_of size.Byte p r = width.W8
width_of size.PortByte p r = width.W8
width_of size.Quad p r = width.W64
width_of size.Port p r = if p.operand_size then width.W16 else width.W32
width_of _ p r = if r.wide then width.W64 else (if p.operand_size then width.W16 else width.W32)

-- the register of reg has 8 bits
abbrev pub is_byte : OperandSize → Bool
is_byte size.Byte = true
is_byte _ = false

-- the operand of r/m has 8 bits
abbrev pub is_of_byte : OperandSize → Bool
is_of_byte size.Byte = true
is_of_byte size.FromByte = true
is_of_byte _ = false

-- as many bytes as the width has, at most four, extended by their sign
abbrev pub full_at : Width → List ℕ → Result (ℕ × List ℕ) Unread
full_at width.W8 bytes = byte_at bytes
full_at width.W16 bytes = word_at bytes
full_at width.W32 bytes = double_at bytes
full_at width.W64 bytes = do
  n ← double_at bytes
  Ok (extended_32 n.0, n.1)

-- as many bytes as the width has
abbrev pub whole_at : Width → List ℕ → Result (ℕ × List ℕ) Unread
whole_at width.W8 bytes = byte_at bytes
whole_at width.W16 bytes = word_at bytes
whole_at width.W32 bytes = double_at bytes
whole_at width.W64 bytes = quad_at bytes

unfoldable pub immediate_at : Immediate → Width → List ℕ → Result (ℕ × List ℕ) Unread
immediate_at immediate.Nothing w bytes = Ok (0, bytes)
immediate_at immediate.One w bytes = Ok (1, bytes)
immediate_at immediate.Byte w bytes = byte_at bytes
immediate_at immediate.Word w bytes = word_at bytes
immediate_at immediate.Signed w bytes = do
  n ← byte_at bytes
  Ok (cut w (extended_8 n.0), n.1)
immediate_at immediate.Full w bytes = full_at w bytes
immediate_at immediate.Whole w bytes = whole_at w bytes

abbrev pub opened : RowLine → ℕ → ℕ → OpenedLine
opened line opcode modrm = record { line = line; opcode = opcode; modrm = modrm }

-- the operand, with the bytes of SIB and displacement
abbrev pub operand_by : OperandFields → ℕ → Rex → OpenedLine → List ℕ → Result (Operand × List ℕ) Unread
operand_by fields.Absent segment r o bytes = Ok (operand.None, bytes)
operand_by fields.Accumulator segment r o bytes = Ok (operand.Register 0 false, bytes)
operand_by fields.Opcode segment r o bytes = Ok (register_operand r (is_of_byte o.line.size) (o.opcode % 8), bytes)
operand_by fields.Control segment r o bytes = Ok (register_operand r false (rm_of o.modrm), bytes)
operand_by fields.Debug segment r o bytes = Ok (register_operand r false (rm_of o.modrm), bytes)
operand_by (fields.Exact byte) segment r o bytes = Ok (operand.None, bytes)
operand_by _ segment r o bytes = operand_at segment r (is_of_byte o.line.size) o.modrm bytes

unfoldable pub operand_field_at : ℕ → Rex → OpenedLine → List ℕ → Result (Operand × List ℕ) Unread
operand_field_at segment r o bytes = operand_by o.line.fields segment r o bytes

-- the register that reg names
abbrev pub register_by : OperandFields → Rex → Bool → ℕ → ℕ
register_by fields.Any r small modrm = register_code r small (reg_of modrm)
register_by fields.Direct r small modrm = register_code r small (reg_of modrm)
register_by fields.Memory r small modrm = register_code r small (reg_of modrm)
register_by fields.Control r small modrm = register_code r small (reg_of modrm)
register_by fields.Debug r small modrm = register_code r small (reg_of modrm)
register_by _ r small modrm = 0

abbrev pub row_of : Prefixes → Rex → OpenedLine → Operand → ℕ → Row
row_of p r o operand immediate = record {
  op = op_by o.line.operation o.opcode o.modrm;
  form = o.line.form;
  width = width_of o.line.size p r;
  lock = p.lock;
  register = register_by o.line.fields r (is_byte o.line.size) o.modrm;
  operand = operand;
  immediate = immediate;
  condition = condition_by o.line.operation o.opcode;
}
