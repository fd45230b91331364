-- How a form is spelled: legacy prefixes, a REX prefix, an opcode of a line of the table, ModRM, the bytes of its
-- operand, and an immediate. This says what a form is from the table alone: nothing here rests on `Decoding`.
use Rattle.std.specs.Prelude.{◌≡◌, ◌≢◌, take, ℕ, ◌<◌, ◌≤◌, List, [], ◌∷◌, ◌++◌, true, Some, Ok, MatchBool, ◌⊎◌}
use Rattle.svm_model.specs.Instructions.RowParts.{opened, width_of, row_of, immediate_at, operand_field_at}
use Rattle.svm_model.specs.Instructions.InstructionBytes.{AreBytes}
use Rattle.svm_model.specs.Instructions.Prefixes.{no_prefix, with_prefix, no_rex, rex_of}
use Rattle.svm_model.specs.Instructions.RowLines.{opens, is_allowed, has_modrm, takes_modrm}
use Rattle.svm_model.specs.Instructions.RowTable.{table}
use Rattle.svm_model.specs.declared.row_lines.OperandFields.{OperandFields}
use Rattle.svm_model.specs.declared.row_lines.RowLine.{RowLine}
use Rattle.svm_model.specs.declared.row_lines.OpcodeMap.{OpcodeMap}
use Rattle.svm_model.specs.declared.row_lines.OpcodeMap.TheVariants as map
use Rattle.svm_model.specs.declared.row_lines.Prefixes.{Prefixes}
use Rattle.svm_model.specs.declared.row_lines.Rex.{Rex}
use Rattle.svm_model.specs.declared.rows.Decoded.{Decoded}
use Rattle.svm_model.specs.declared.rows.Decoded.TheVariants as decoding
use Rattle.svm_model.specs.declared.rows.Operand.{Operand}
use Rattle.svm_model.specs.declared.rows.Row.{Row}

-- each byte is a prefix that may still stand
abbrev pub ArePrefixes : Prefixes → List ℕ → Prefixes → Type 0
ArePrefixes p [] q = p ≡ q
ArePrefixes p (byte ∷ bytes) q = (s : Prefixes) × (with_prefix p byte ≡ Some s) × ArePrefixes s bytes q

-- at most one REX prefix
abbrev pub IsRex : List ℕ → Rex → Type 0
IsRex [] r = r ≡ no_rex
IsRex (byte ∷ []) r = (0x40 ≤ byte) × (byte < 0x50) × (r ≡ rex_of byte)
IsRex (a ∷ b ∷ bytes) r = ⊥

abbrev pub opcode_bytes : OpcodeMap → ℕ → List ℕ
opcode_bytes map.Primary opcode = opcode ∷ []
opcode_bytes map.Secondary opcode = 0x0F ∷ opcode ∷ []
opcode_bytes map.Repeat opcode = 0xF3 ∷ opcode ∷ []

-- the ModRM byte, where the line has one, else 0
abbrev pub IsModrm : OperandFields → Rex → List ℕ → ℕ → Type 0
IsModrm f r bytes modrm = MatchBool (has_modrm f) ((bytes ≡ modrm ∷ []) × (takes_modrm f r modrm ≡ true)) ((bytes ≡ []) × (modrm ≡ 0))

abbrev pub IsLineOf : RowLine → List RowLine → Type 0
IsLineOf l [] = ⊥
IsLineOf l (x ∷ xs) = (x ≡ l) ⊎ IsLineOf l xs

pub record IsSpelled (bytes : List ℕ) (row : Row) : Type 0 where
  pub prefix_bytes : List ℕ
  pub prefixes : Prefixes
  pub rex_bytes : List ℕ
  pub rex : Rex
  pub line : RowLine
  pub opcode : ℕ
  pub modrm_bytes : List ℕ
  pub modrm : ℕ
  pub operand_bytes : List ℕ
  pub operand : Operand
  pub immediate_bytes : List ℕ
  pub immediate : ℕ
  pub are_prefixes : ArePrefixes no_prefix prefix_bytes prefixes
  pub is_rex : IsRex rex_bytes rex
  pub is_listed : IsLineOf line table
  pub is_byte : opcode < 256
  pub is_opcode : opens line line.map opcode ≡ true
  pub is_allowed : is_allowed line prefixes rex ≡ true
  pub is_modrm : IsModrm line.fields rex modrm_bytes modrm
  pub is_operand : operand_field_at prefixes.segment rex (opened line opcode modrm) operand_bytes ≡ Ok (operand, [])
  pub is_immediate : immediate_at line.immediate (width_of line.size prefixes rex) immediate_bytes ≡ Ok (immediate, [])
  pub spelled : bytes ≡ prefix_bytes ++ (rex_bytes ++ (opcode_bytes line.map opcode ++ (modrm_bytes ++ (operand_bytes ++ immediate_bytes))))
  pub is_row : row ≡ row_of prefixes rex (opened line opcode modrm) operand immediate

-- some bytes after these spell a form
pub record GoesOnSpelling (bytes : List ℕ) : Type 0 where
  pub more : List ℕ
  pub are_bytes : AreBytes more
  pub row : Row
  pub some : more ≢ []
  pub spelled : IsSpelled (bytes ++ more) row

-- the byte is the first one with which the bytes spell no form, whatever follows
pub record LeavesSpelling (bytes : List ℕ) (byte : ℕ) : Type 0 where
  pub before : List ℕ
  pub after : List ℕ
  pub there : bytes ≡ before ++ byte ∷ after
  pub begun : GoesOnSpelling before
  pub left : (more : List ℕ) (row : Row) → IsSpelled (before ++ byte ∷ more) row → ⊥

-- what decoding these bytes has to answer, said of spellings
abbrev pub IsDecodedSpelling : List ℕ → Decoded → Type 0
IsDecodedSpelling bytes (decoding.Row row size) = IsSpelled (take size bytes) row
IsDecodedSpelling bytes decoding.More = GoesOnSpelling bytes
IsDecodedSpelling bytes (decoding.Unlisted byte) = LeavesSpelling bytes byte
