use Rattle.std.proofs.Common.{◌≡◌, ◌∙◌, ap, sym, true, ◌-◌, drop, length, take}
use Rattle.svm_model.specs.Instructions.RowLines.{takes_modrm, fitting_line}
use Rattle.svm_model.specs.Instructions.RowTable.{table}
use Rattle.row_table.proofs.Index.{fitting_line-first, fitting_line-passed, rest_of}
use Rattle.row_table.proofs.table.fitting_line.Goals as goal

pub returns-then-takes_modrm : goal.returns-then-takes_modrm
returns-then-takes_modrm c =
    let passes : takes_modrm c.args.first.fields c.args.rex c.args.modrm ≡ true = sym c.takes_modrm.ensures ∙ c.if-takes_modrm.true in
    sym (fitting_line-first c.args.prefixes c.args.rex c.args.map c.args.opcode c.args.modrm table c.args.first c.requires.first passes)

pub returns : goal.returns
returns c =
    let from = c.first_with-from.result in
    let lines : take (length c.lines.result.now - from) (drop from c.lines.result.now) ≡ drop from table = rest_of from c.lines.result.now ∙ ap (drop from) c.lines.ensures.value in
    c.fitting_of.ensures ∙ ap (fitting_line c.args.prefixes c.args.rex c.args.map c.args.opcode c.args.modrm) lines ∙ fitting_line-passed c.args.prefixes c.args.rex c.args.map c.args.opcode c.args.modrm from table c.first_with-from.ensures.passed
