use Rattle.std.proofs.Common.{◌∙◌, ap, sym}
use Rattle.svm_model.specs.Formats.ScriptWords.{without_return}
use Rattle.script_format.proofs.Endings.{with_return, with_no_return}
use Rattle.script_format.proofs.lines.without_return.Goals as goal

pub returns-then-last-eq13 : goal.returns-then-last-eq13
returns-then-last-eq13 c =
    sym (ap without_return c.in-Some.ensures.cases.0 ∙ with_return c.in-Some.front.now c.in-Some.last.now c.if-last-eq13.true)

pub returns : goal.returns
returns c =
    c.in-Some.ensures.cases.0 ∙ sym (ap without_return c.in-Some.ensures.cases.0 ∙ with_no_return c.in-Some.front.now c.in-Some.last.now c.if-last-eq13.false)
