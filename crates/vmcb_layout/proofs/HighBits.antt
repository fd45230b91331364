-- A word of 64 bits has no bit above them.
use Rattle.std.proofs.Common.{◌≡◌, ℕ, ◌≤◌, ◌<◌, ◌^◌, false, arith}
use Rattle.std.proofs.Math.Pow.{pow_mono}
use Rattle.std.proofs.lemmas.Bool.{ne_eqb}
use Rattle.std.proofs.lemmas.Nat.{and_le_l}
use Rattle.std.specs.Int.Bits.{bit_and}
use Rattle.svm_model.specs.Memory.Bits.{bit}

pub no_high : (number word : ℕ) → 64 ≤ number → word < 2 ^ 64 → bit number word ≡ false
no_high number word high fits =
    ne_eqb (bit_and word (2 ^ number)) (2 ^ number) (λ same. omega (arith, same, and_le_l word (2 ^ number), pow_mono high, fits))

pub ruleset high_bits = (no_high)
