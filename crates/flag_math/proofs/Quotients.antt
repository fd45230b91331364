-- A division whose quotient fits.
use Rattle.std.proofs.Common.{◌≡◌, ℕ, ◌<◌, ◌==◌, Bool, true, false, not, ◌||◌, if◌then◌else◌, Ok, Result, refl, ◌∙◌, arith}
use Rattle.std.proofs.lemmas.Bool.Decides.{nat_tests}
use Rattle.svm_model.specs.declared.rows.Width.{Width}
use Rattle.svm_model.specs.declared.flags.NoQuotient.{NoQuotient}
use Rattle.svm_model.specs.Instructions.Widths.{bits, bits_for, fits_signed}
use Rattle.svm_model.specs.Instructions.Products.{quotient_of, remainder_of, division_of}

if_neither : {A : Type 0} (x y : Bool) (a b : A) → x ≡ false → y ≡ true → b ≡ if x || not y then a else b
if_neither false true a b e f = refl
if_neither true y a b e f = absurd cc
if_neither false false a b e f = absurd cc

pub division_that_fits : (w : Width) (high low divisor q r : ℕ) → 0 < divisor → fits_signed w (quotient_of w true high low divisor) ≡ true → q ≡ bits_for (bits w) (quotient_of w true high low divisor) → r ≡ bits_for (bits w) (remainder_of w true high low divisor) → ◌≡◌ {A = Result (ℕ × ℕ) NoQuotient} (Ok (q, r)) (division_of w true high low divisor)
unfolding division_of
division_that_fits w high low divisor q r some fits quotient remainder =
    let e : (divisor == 0) ≡ false = grind (arith, nat_tests) in
    let same : ◌≡◌ {A = Result (ℕ × ℕ) NoQuotient} (Ok (q, r)) (Ok (bits_for (bits w) (quotient_of w true high low divisor), bits_for (bits w) (remainder_of w true high low divisor))) = cc in
    same ∙ if_neither (divisor == 0) (fits_signed w (quotient_of w true high low divisor)) _ _ e fits
