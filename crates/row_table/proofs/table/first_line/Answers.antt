use Rattle.std.proofs.Common.{◌≡◌, ◌∙◌, ap, ◌-◌, drop, length, take}
use Rattle.svm_model.specs.Instructions.RowLines.{first_line}
use Rattle.svm_model.specs.Instructions.RowTable.{table}
use Rattle.row_table.proofs.Index.{first_line-passed, rest_of}
use Rattle.row_table.proofs.table.first_line.Goals as goal

pub returns : goal.returns
returns c =
    let from = c.first_with-from.result in
    let lines : take (length c.lines.result.now - from) (drop from c.lines.result.now) ≡ drop from table = rest_of from c.lines.result.now ∙ ap (drop from) c.lines.ensures.value in
    c.first_of.ensures ∙ ap (first_line c.args.prefixes c.args.rex c.args.map c.args.opcode) lines ∙ first_line-passed c.args.prefixes c.args.rex c.args.map c.args.opcode from table c.first_with-from.ensures.passed
