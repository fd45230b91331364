-- The generated script is lawful for the generated image of each seed.
use Rattle.std.proofs.Common.{◌≡◌, ◌∙◌, ℕ, zero, suc, ◌+◌, ◌*◌, ◌≤◌, refl, sym, ap, arith}
use Rattle.std.specs.List.{flat_map, range_with_len}
use Rattle.svm_model.specs.Formats.Script.{AreLawful, IsLawful}
use Rattle.svm_model.specs.Machine.Shapes.{image_shape}
use Rattle.workload.specs.Generated.{size_limit, vcpu_count, events_each, vcpu_lines, made_image, made_script}

-- the lines from a vcpu on are lawful behind the events of the vcpus before it
lines-lawful : (seed size vcpu left first : ℕ) → vcpu + left ≡ vcpu_count → first ≡ events_each size * vcpu
    → AreLawful (image_shape (made_image seed size)) first (flat_map (vcpu_lines size) (range_with_len vcpu left)) (events_each size * vcpu_count)
unfolding made_image
lines-lawful seed size vcpu zero first whole begins =
    let last : vcpu ≡ vcpu_count = omega arith in
    sym (begins ∙ ap (λ v. events_each size * v) last)
lines-lawful seed size vcpu (suc left) first whole begins = (
  record { named = (omega arith, (4, refl, omega arith)); some = omega arith },
  sym begins,
  (
    record { named = omega arith; some = omega arith },
    omega arith,
    lines-lawful seed size (vcpu + 1) left _ (omega arith) (omega arith),
  ),
)

pub made_script-lawful : (seed size : ℕ) → size ≤ size_limit → IsLawful (image_shape (made_image seed size)) (made_script size)
unfolding made_script
made_script-lawful seed size few = record {
  lines = lines-lawful seed size 0 vcpu_count 0 refl (omega arith);
  few = omega arith;
}
