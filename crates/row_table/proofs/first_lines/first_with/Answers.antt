use Rattle.std.proofs.Common.{subst, sym}
use Rattle.svm_model.specs.Instructions.RowTable.{table}
use Rattle.svm_model.specs.declared.row_lines.OpcodeMap.{OpcodeMap}
use Rattle.row_table.specs.Index.{IsPassed, misses}
use Rattle.row_table.specs.declared.first_lines.TheConstants.{REPEAT}
use Rattle.row_table.proofs.Index.{repeat_passed}
use Rattle.row_table.proofs.first_lines.first_with.Goals as goal

pub returns-in-Repeat-clause-passed : goal.returns-in-Repeat-clause-passed
returns-in-Repeat-clause-passed c = subst (λ (m : OpcodeMap). IsPassed (misses m c.args.opcode) REPEAT table) (sym c.in-Repeat.is) (repeat_passed c.args.opcode)
