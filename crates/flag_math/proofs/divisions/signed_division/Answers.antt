use Rattle.std.proofs.Common.{◌≡◌, ℤ, true, FitsSigned, to_z, of_z, sym, ap, subst, ◌∙◌}
use Rattle.std.specs.Int.{w128}
use Rattle.std.specs.Prelude.{int_div, int_rem}
use Rattle.std.proofs.lemmas.Int.{to_z-of_z, rem_is}
use Rattle.svm_model.specs.Instructions.Widths.{bits, bits_for, fits_signed}
use Rattle.svm_model.specs.Instructions.Products.{dividend_of, quotient_of}
use Rattle.flag_math.proofs.Quotients.{division_that_fits}
use Rattle.flag_math.proofs.divisions.signed_division.Goals as goal

pub returns-clause-value : goal.returns-clause-value
returns-clause-value c =
    let w = c.args.width in
    let d = c.signed_dividend-dividend.result in
    let v = c.signed_value-divisor.result in
    let whole = dividend_of w true c.args.high c.args.low in
    let d_fits : FitsSigned w128 d = record { sfits = c.signed_dividend-dividend.type_inv } in
    let v_fits : FitsSigned w128 v = record { sfits = c.signed_value-divisor.type_inv } in
    let dividend : d ≡ whole = c.signed_dividend-dividend.ensures in
    let divisor = c.signed_value-divisor.ensures.value in
    let found = c.in-Some.ensures in
    let quotient : to_z w128 (of_z w128 c.in-Some.quotient) ≡ quotient_of w true c.args.high c.args.low c.args.divisor =
    to_z-of_z w128 c.in-Some.quotient (subst (FitsSigned w128) (sym found.1) found.0.1)
    ∙ found.1
    ∙ ap (λ (z : ℤ). int_div z (to_z w128 (of_z w128 v))) (to_z-of_z w128 d d_fits ∙ dividend)
    ∙ ap (int_div whole) (to_z-of_z w128 v v_fits ∙ divisor) in
    let remainder = rem_is w128 d v d_fits v_fits ∙ ap (λ (z : ℤ). int_rem z v) dividend ∙ ap (int_rem whole) divisor in
    let fits = ap (fits_signed w) (sym quotient) ∙ sym c.fits_signed.ensures ∙ c.if-not-fits_signed.false in
    division_that_fits w c.args.high c.args.low c.args.divisor c.bits_for.result c.bits_for-2.result c.requires.some fits (c.bits_for.ensures.value ∙ ap (bits_for (bits w)) quotient) (c.bits_for-2.ensures.value ∙ ap (bits_for (bits w)) remainder)
