use Rattle.std.proofs.Common.{◌^◌, ℤ, FitsSigned, to_z, of_z, ap, ◌∙◌, arith}
use Rattle.std.specs.Prelude.{◌*ℤ◌}
use Rattle.std.specs.Int.{w128}
use Rattle.std.proofs.lemmas.Int.{to_z-of_z, fits_signed_mul}
use Rattle.svm_model.specs.Instructions.Widths.{bits, as_signed}
use Rattle.flag_math.proofs.products.exact_product.Goals as goal

pub returns : goal.returns
returns c =
    let a = c.signed_value.result in
    let b = c.signed_value-2.result in
    let fits : FitsSigned w128 (a *ℤ b) = fits_signed_mul w128 a b (2 ^ 63) (2 ^ 63) c.signed_value.ensures.size c.signed_value-2.ensures.size (omega arith) in
    ap (λ (z : ℤ). to_z w128 (of_z w128 (z *ℤ to_z w128 (of_z w128 b)))) (to_z-of_z w128 a (record { sfits = c.signed_value.type_inv }))
    ∙ ap (λ (z : ℤ). to_z w128 (of_z w128 (a *ℤ z))) (to_z-of_z w128 b (record { sfits = c.signed_value-2.type_inv }))
    ∙ to_z-of_z w128 (a *ℤ b) fits
    ∙ ap (λ (z : ℤ). z *ℤ b) c.signed_value.ensures.value
    ∙ ap (λ (z : ℤ). as_signed (bits c.args.width) c.args.left *ℤ z) c.signed_value-2.ensures.value
