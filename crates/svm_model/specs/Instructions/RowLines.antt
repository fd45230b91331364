-- What a line of the table of rows says.
use Rattle.std.specs.Prelude.{ℕ, ◌+◌, ◌-◌, ◌/◌, ◌%◌, List, [], ◌∷◌, Bool, true, false, not, ◌&&◌, ◌||◌, ◌==◌, nat_le, nat_lt, if◌then◌else◌, Option, Some, None}
use Rattle.svm_model.specs.Instructions.ModRm.{reg_of}
use Rattle.svm_model.specs.declared.row_lines.OpcodeMap.{OpcodeMap}
use Rattle.svm_model.specs.declared.row_lines.OpcodeMap.TheVariants as map
use Rattle.svm_model.specs.declared.row_lines.OperandSize.{OperandSize}
use Rattle.svm_model.specs.declared.row_lines.OperandSize.TheVariants as size
use Rattle.svm_model.specs.declared.row_lines.OperandFields.{OperandFields}
use Rattle.svm_model.specs.declared.row_lines.OperandFields.TheVariants as fields
use Rattle.svm_model.specs.declared.row_lines.RexNeeds.{RexNeeds}
use Rattle.svm_model.specs.declared.row_lines.RexNeeds.TheVariants as needs
use Rattle.svm_model.specs.declared.row_lines.RowLine.{RowLine}
use Rattle.svm_model.specs.declared.row_lines.Prefixes.{Prefixes}
use Rattle.svm_model.specs.declared.row_lines.Rex.{Rex}

abbrev pub same_map : OpcodeMap → OpcodeMap → Bool
same_map map.Primary map.Primary = true
same_map map.Secondary map.Secondary = true
same_map map.Repeat map.Repeat = true
same_map _ _ = false

-- the opcode is one of the line's: first, first + step, and so on, count of them
abbrev pub opens : RowLine → OpcodeMap → ℕ → Bool
opens l m opcode = same_map l.map m && (nat_le l.first opcode && (nat_lt 0 l.step && ((opcode - l.first) % l.step == 0 && nat_lt ((opcode - l.first) / l.step) l.count)))

-- 66h stands only with forms of operand size, and with IN and OUT
abbrev pub takes_size : OperandSize → Bool
takes_size size.Byte = false
takes_size size.Quad = false
takes_size _ = true

-- the REX prefix is as the line needs it
abbrev pub meets : RexNeeds → Rex → Bool
meets needs.Nothing r = true
meets needs.Wide r = r.wide
meets needs.WideAlone r = r.wide && (r.register == 0 && (r.index == 0 && r.base == 0))
meets needs.Base r = r.base == 8
meets needs.NoBase r = r.base == 0
meets needs.NoRegister r = r.register == 0

-- the prefixes may stand before the line's opcodes
abbrev pub is_allowed : RowLine → Prefixes → Rex → Bool
is_allowed l p r = (takes_size l.size || not p.operand_size) && meets l.needs r

-- a ModRM byte follows the opcode
abbrev pub has_modrm : OperandFields → Bool
has_modrm fields.Absent = false
has_modrm fields.Accumulator = false
has_modrm fields.Opcode = false
has_modrm _ = true

-- the control registers that MOV reaches
abbrev pub is_control : ℕ → Bool
is_control n = n == 0 || (n == 2 || (n == 3 || (n == 4 || n == 8)))

-- the digits of ROL, ROR, SHL, SHR and SAR
abbrev pub is_shift_digit : ℕ → Bool
is_shift_digit n = n == 0 || (n == 1 || (n == 4 || (n == 5 || n == 7)))

-- the ModRM byte is one of the line's
abbrev pub takes_modrm : OperandFields → Rex → ℕ → Bool
takes_modrm fields.Absent r modrm = false
takes_modrm fields.Accumulator r modrm = false
takes_modrm fields.Opcode r modrm = false
takes_modrm fields.Any r modrm = true
takes_modrm fields.AnyDigit r modrm = true
takes_modrm fields.Direct r modrm = nat_le 0xC0 modrm
takes_modrm fields.Memory r modrm = nat_lt modrm 0xC0
takes_modrm fields.ShiftDigit r modrm = is_shift_digit (reg_of modrm)
takes_modrm (fields.Digit d) r modrm = reg_of modrm == d
takes_modrm (fields.DigitMemory d) r modrm = reg_of modrm == d && nat_lt modrm 0xC0
takes_modrm fields.Control r modrm = is_control (reg_of modrm + r.register)
takes_modrm fields.Debug r modrm = nat_le 6 (reg_of modrm)
takes_modrm (fields.Exact byte) r modrm = modrm == byte

-- the line is of the map, and the prefixes may stand before it
abbrev pub leads : Prefixes → Rex → OpcodeMap → RowLine → Bool
leads p r m l = same_map l.map m && is_allowed l p r

abbrev pub starts : Prefixes → Rex → OpcodeMap → ℕ → RowLine → Bool
starts p r m opcode l = opens l m opcode && is_allowed l p r

abbrev pub matches : Prefixes → Rex → OpcodeMap → ℕ → ℕ → RowLine → Bool
matches p r m opcode modrm l = starts p r m opcode l && takes_modrm l.fields r modrm

-- the first line that passes a test
unfoldable pub first_where : (RowLine → Bool) → List RowLine → Option RowLine
first_where test [] = None
first_where test (l ∷ ls) = if test l then Some l else first_where test ls

abbrev pub leading_line : Prefixes → Rex → OpcodeMap → List RowLine → Option RowLine
leading_line p r m lines = first_where (leads p r m) lines

abbrev pub first_line : Prefixes → Rex → OpcodeMap → ℕ → List RowLine → Option RowLine
first_line p r m opcode lines = first_where (starts p r m opcode) lines

abbrev pub fitting_line : Prefixes → Rex → OpcodeMap → ℕ → ℕ → List RowLine → Option RowLine
fitting_line p r m opcode modrm lines = first_where (matches p r m opcode modrm) lines
