use Rattle.std.proofs.Common.{◌≡◌, drop}
use Rattle.svm_model.specs.Instructions.RowLines.{fitting_line}
use Rattle.row_table.proofs.table.fitting_of.Given as goal

abbrev pub invariant-loop-line : goal.invariant-loop-line
invariant-loop-line l = fitting_line l.prefixes l.rex l.map l.opcode l.modrm (drop l.line-index l.lines) ≡ fitting_line l.prefixes l.rex l.map l.opcode l.modrm l.lines
