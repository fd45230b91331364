use Rattle.std.proofs.Common.{◌≡◌, ◌∙◌, ap, ◌-◌, drop, length, take}
use Rattle.svm_model.specs.Instructions.RowLines.{leading_line}
use Rattle.svm_model.specs.Instructions.RowTable.{table}
use Rattle.row_table.proofs.Index.{leading_line-passed, rest_of}
use Rattle.row_table.proofs.table.leading_line.Goals as goal

pub returns : goal.returns
returns c =
    let from = c.first_of_map-from.result in
    let lines : take (length c.lines.result.now - from) (drop from c.lines.result.now) ≡ drop from table = rest_of from c.lines.result.now ∙ ap (drop from) c.lines.ensures.value in
    c.leading_of.ensures ∙ ap (leading_line c.args.prefixes c.args.rex c.args.map) lines ∙ leading_line-passed c.args.prefixes c.args.rex c.args.map from table c.first_of_map-from.ensures.passed
