use Rattle.std.proofs.Common.{◌≡◌, drop}
use Rattle.svm_model.specs.Instructions.RowLines.{leading_line}
use Rattle.row_table.proofs.table.leading_of.Given as goal

abbrev pub invariant-loop-line : goal.invariant-loop-line
invariant-loop-line l = leading_line l.prefixes l.rex l.map (drop l.line-index l.lines) ≡ leading_line l.prefixes l.rex l.map l.lines
