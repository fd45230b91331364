-- From which line on the table is searched: the lines before it are none that is looked for.
use Rattle.std.specs.Prelude.{◌≡◌, ℕ, List, Bool, true, not, take}
use Rattle.std.specs.List.{list_all}
use Rattle.svm_model.specs.Instructions.RowLines.{opens, same_map}
use Rattle.svm_model.specs.declared.row_lines.OpcodeMap.{OpcodeMap}
use Rattle.svm_model.specs.declared.row_lines.OpcodeMap.TheVariants as map
use Rattle.svm_model.specs.declared.row_lines.RowLine.{RowLine}

-- the line is of another map
abbrev pub is_beside : OpcodeMap → RowLine → Bool
is_beside m l = not (same_map l.map m)

-- the line has other opcodes
abbrev pub misses : OpcodeMap → ℕ → RowLine → Bool
misses m opcode l = not (opens l m opcode)

-- each of so many first lines passes the test
abbrev pub IsPassed : (RowLine → Bool) → ℕ → List RowLine → Type 0
IsPassed test count lines = list_all test (take count lines) ≡ true

abbrev pub primary : OpcodeMap
primary = map.Primary

abbrev pub secondary : OpcodeMap
secondary = map.Secondary
