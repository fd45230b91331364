use Rattle.std.proofs.Common.{◌^◌, ℤ, pos, FitsSigned, to_z, of_z, ◌+ℤ◌, ap, ◌∙◌, arith}
use Rattle.std.specs.Prelude.{◌*ℤ◌}
use Rattle.std.specs.Int.{w128}
use Rattle.std.proofs.lemmas.Int.{to_z-of_z}
use Rattle.std.proofs.lemmas.Grind.{common_steps}
use Rattle.svm_model.specs.Instructions.Widths.{bits, as_signed}
use Rattle.flag_math.proofs.Words.{signed_halves}
use Rattle.flag_math.proofs.divisions.signed_dividend.Goals as goal

pub returns : goal.returns
returns c =
    let w = c.args.width in
    let h = c.signed_value.result in
    let m = c.signed_modulus.result in
    let l = c.from.result in
    let upper : FitsSigned w128 (h *ℤ m) = grind (arith, common_steps) in
    let whole : FitsSigned w128 (h *ℤ m +ℤ l) = grind (arith, common_steps) in
    ap (λ (z : ℤ). to_z w128 (of_z w128 (to_z w128 (of_z w128 (z *ℤ to_z w128 (of_z w128 m))) +ℤ to_z w128 (of_z w128 l)))) (to_z-of_z w128 h (record { sfits = c.signed_value.type_inv }))
    ∙ ap (λ (z : ℤ). to_z w128 (of_z w128 (to_z w128 (of_z w128 (h *ℤ z)) +ℤ to_z w128 (of_z w128 l)))) (to_z-of_z w128 m (record { sfits = c.signed_modulus.type_inv }))
    ∙ ap (λ (z : ℤ). to_z w128 (of_z w128 (to_z w128 (of_z w128 (h *ℤ m)) +ℤ z))) (to_z-of_z w128 l (record { sfits = c.from.type_inv }))
    ∙ ap (λ (z : ℤ). to_z w128 (of_z w128 (z +ℤ l))) (to_z-of_z w128 (h *ℤ m) upper)
    ∙ to_z-of_z w128 (h *ℤ m +ℤ l) whole
    ∙ ap (λ (z : ℤ). z *ℤ m +ℤ l) c.signed_value.ensures.value
    ∙ ap (λ (z : ℤ). as_signed (bits w) c.args.high *ℤ z +ℤ l) c.signed_modulus.ensures.value
    ∙ ap (λ (z : ℤ). as_signed (bits w) c.args.high *ℤ pos (2 ^ bits w) +ℤ z) c.from.ensures
    ∙ signed_halves w c.args.high c.args.low c.requires.high c.requires.low
