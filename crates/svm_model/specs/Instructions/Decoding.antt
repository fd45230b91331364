-- The forms in stages: a row at the front of bytes (volume 3, 'Instruction Encoding').
use Rattle.std.specs.Prelude.{ℕ, List, ◌==◌, if◌then◌else◌, Option, Some, None, Result, Ok, Err}
use Rattle.svm_model.specs.Instructions.InstructionBytes.{◌>>=◌, byte_at}
use Rattle.svm_model.specs.Instructions.Prefixes.{no_prefix, prefixes_of, rex_and_rest}
use Rattle.svm_model.specs.Instructions.RowLines.{has_modrm, leading_line, first_line, fitting_line}
use Rattle.svm_model.specs.Instructions.RowParts.{width_of, immediate_at, opened, operand_field_at, row_of}
use Rattle.svm_model.specs.Instructions.RowTable.{table}
use Rattle.svm_model.specs.declared.row_lines.RowLine.{RowLine}
use Rattle.svm_model.specs.declared.row_lines.OpcodeMap.TheVariants as map
use Rattle.svm_model.specs.declared.row_lines.OpcodeMap.{OpcodeMap}
use Rattle.svm_model.specs.declared.row_lines.OpenedLine.{OpenedLine}
use Rattle.svm_model.specs.declared.row_lines.Prefixes.{Prefixes}
use Rattle.svm_model.specs.declared.row_lines.Rex.{Rex}
use Rattle.svm_model.specs.declared.row_lines.Unread.TheVariants as unread
use Rattle.svm_model.specs.declared.row_lines.Unread.{Unread}
use Rattle.svm_model.specs.declared.rows.Row.{Row}

-- a line of the table is there, or no form has the byte here
abbrev pub listed : Option RowLine → ℕ → Result RowLine Unread
listed (Some l) byte = Ok l
listed None byte = Err (unread.Unlisted byte)

-- the ModRM byte, where the opcode has one
unfoldable pub modrm_at : Prefixes → Rex → OpcodeMap → ℕ → RowLine → List ℕ → Result (OpenedLine × List ℕ) Unread
modrm_at p r m opcode first bytes =
    if has_modrm first.fields then (do
      modrm ← byte_at bytes
      line ← listed (fitting_line p r m opcode modrm.0 table) modrm.0
      Ok (opened line opcode modrm.0, modrm.1))
    else Ok (opened first opcode 0, bytes)

unfoldable pub line_at : Prefixes → Rex → OpcodeMap → ℕ → List ℕ → Result (OpenedLine × List ℕ) Unread
line_at p r m opcode bytes = do
  line ← listed (first_line p r m opcode table) opcode
  modrm_at p r m opcode line bytes

-- the map that the byte leads to
abbrev pub escape_of : ℕ → Option OpcodeMap
escape_of byte = if byte == 0x0F then Some map.Secondary else (if byte == 0xF3 then Some map.Repeat else None)

-- the opcode after the byte that leads to its map, where some form of the map may have the prefixes
unfoldable pub escaped_at : Prefixes → Rex → OpcodeMap → ℕ → List ℕ → Result (OpenedLine × List ℕ) Unread
escaped_at p r m byte bytes = do
  line ← listed (leading_line p r m table) byte
  opcode ← byte_at bytes
  line_at p r m opcode.0 opcode.1

unfoldable pub after_first : Prefixes → Rex → ℕ → List ℕ → Result (OpenedLine × List ℕ) Unread
after_first p r first bytes =
    elim (escape_of first) [ Some m ↦ escaped_at p r m first bytes | None ↦ line_at p r map.Primary first bytes ]

-- the opcode and ModRM
unfoldable pub opened_at : Prefixes → Rex → List ℕ → Result (OpenedLine × List ℕ) Unread
opened_at p r bytes = do
  first ← byte_at bytes
  after_first p r first.0 first.1

-- what stands after the REX prefix
unfoldable pub body_at : Prefixes → Rex → List ℕ → Result (Row × List ℕ) Unread
body_at p r bytes = do
  o ← opened_at p r bytes
  x ← operand_field_at p.segment r o.0 o.1
  i ← immediate_at o.0.line.immediate (width_of o.0.line.size p r) x.1
  Ok (row_of p r o.0 x.0 i.0, i.1)

-- what stands after the legacy prefixes
abbrev pub row_at : Prefixes → List ℕ → Result (Row × List ℕ) Unread
row_at p bytes = let r = rex_and_rest bytes in body_at p r.0 r.1

-- a form at the front of the bytes, and the bytes after it
abbrev pub form_at : List ℕ → Result (Row × List ℕ) Unread
form_at bytes = let f = prefixes_of no_prefix bytes in row_at f.0 f.1
