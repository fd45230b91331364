use Rattle.std.proofs.Common.{◌≡◌, drop}
use Rattle.svm_model.specs.Instructions.RowLines.{first_line}
use Rattle.row_table.proofs.table.first_of.Given as goal

abbrev pub invariant-loop-line : goal.invariant-loop-line
invariant-loop-line l = first_line l.prefixes l.rex l.map l.opcode (drop l.line-index l.lines) ≡ first_line l.prefixes l.rex l.map l.opcode l.lines
