-- What was read, and the two tests, say it.
use Rattle.std.proofs.Common.{◌∙◌, ap, sym, arith}
use Rattle.svm_run.proofs.NumberWords.{number_by, other_text, read_as, told, too_large}
use Rattle.svm_run.proofs.words.number_in.Goals as goal

pub returns-in_default : goal.returns-in_default
returns-in_default c =
    sym (number_by c.args.most c.args.word.now c.parse.result (omega (arith, c.ranges.most.fits)) c.parse.ensures.value.0 ∙ ap (read_as c.args.most c.args.word.now) c.in_default.is)

pub returns-then-not-is_text_of : goal.returns-then-not-is_text_of
returns-then-not-is_text_of c =
    other_text c.args.most c.args.word.now c.in-Ok.number (grind (arith, c.is_text_of.ensures, c.if-not-is_text_of.true))
    ∙ sym (number_by c.args.most c.args.word.now c.parse.result (omega (arith, c.ranges.most.fits)) c.parse.ensures.value.0 ∙ ap (read_as c.args.most c.args.word.now) c.in-Ok.is)

pub returns-then-number-most : goal.returns-then-number-most
returns-then-number-most c =
    too_large c.args.most c.args.word.now c.in-Ok.number (omega (arith, c.if-number-most.true))
    ∙ sym (number_by c.args.most c.args.word.now c.parse.result (omega (arith, c.ranges.most.fits)) c.parse.ensures.value.0 ∙ ap (read_as c.args.most c.args.word.now) c.in-Ok.is)

pub returns : goal.returns
returns c =
    told c.args.most c.args.word.now c.in-Ok.number (grind (arith, c.is_text_of.ensures, c.if-not-is_text_of.false)) (omega (arith, c.if-number-most.false))
    ∙ sym (number_by c.args.most c.args.word.now c.parse.result (omega (arith, c.ranges.most.fits)) c.parse.ensures.value.0 ∙ ap (read_as c.args.most c.args.word.now) c.in-Ok.is)
