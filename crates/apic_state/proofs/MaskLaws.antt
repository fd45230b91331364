-- Bit i of a mask is its i-th flag.
use Rattle.std.proofs.Common.{◌≡◌, ◌∙◌, ℕ, zero, suc, ◌+◌, ◌-◌, ◌*◌, ◌^◌, ◌<◌, Bool, true, false, ◌==◌, if◌then◌else◌, List, [], ◌∷◌, ap, refl, arith, slice_index_or}
use Rattle.std.proofs.lemmas.Bool.Decides.{nat_tests}
use Rattle.std.proofs.lemmas.Nat.{pow_pos}
use Rattle.std.proofs.lemmas.Nat.Bits.{and_pow, bit_at-zero, bit_at_cat_high, bit_at_cat_low}
use Rattle.std.specs.Int.{bit_at}
use Rattle.svm_model.specs.Memory.Bits.{bit}
use Rattle.apic_state.specs.Masks.{mask_of}

abbrev one : Bool → ℕ
one flag = if flag then 1 else 0

below : (flag : Bool) → one flag < 2 ^ 1
below true = omega arith
below false = omega arith

low : (flag : Bool) → bit_at (one flag) 0 ≡ one flag
low true = refl
low false = refl

turned : (flag : Bool) (mask : ℕ) → one flag + 2 * mask ≡ mask * 2 ^ 1 + one flag
turned flag mask = omega arith

back : (i : ℕ) → suc i - 1 ≡ i
back i = omega arith

bits : (flags : List Bool) (i : ℕ) → bit_at (mask_of flags) i ≡ one (slice_index_or flags i false)
bits [] i = bit_at-zero i
bits (flag ∷ flags) zero =
    ap (λ (n : ℕ). bit_at n 0) (turned flag (mask_of flags)) ∙ bit_at_cat_low (mask_of flags) 1 (one flag) 0 (omega arith) ∙ low flag
bits (flag ∷ flags) (suc i) =
    ap (λ (n : ℕ). bit_at n (suc i)) (turned flag (mask_of flags))
    ∙ bit_at_cat_high (mask_of flags) 1 (one flag) (suc i) (below flag) (omega arith)
    ∙ ap (λ (n : ℕ). bit_at (mask_of flags) n) (back i)
    ∙ bits flags i

tested : (flag : Bool) (power : ℕ) → 0 < power → (one flag * power == power) ≡ flag
tested true power h = grind (arith, nat_tests, h)
tested false power h = grind (arith, nat_tests, h)

pub bit-mask_of : (flags : List Bool) (i : ℕ) → bit i (mask_of flags) ≡ slice_index_or flags i false
bit-mask_of flags i =
    ap (λ (n : ℕ). n == 2 ^ i) (and_pow (mask_of flags) i)
    ∙ ap (λ (n : ℕ). n * 2 ^ i == 2 ^ i) (bits flags i)
    ∙ tested (slice_index_or flags i false) (2 ^ i) (pow_pos i)
