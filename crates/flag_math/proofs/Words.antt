-- Bits that stand for a number in two's complement: those of half the size, and of the upper half.
use Rattle.std.proofs.Common.{◌≡◌, ℕ, ◌+◌, ◌*◌, ◌^◌, ◌/◌, ◌%◌, ◌<◌, FitsSigned, ℤ, pos, negsuc, ◌+ℤ◌, arith}
use Rattle.std.specs.Prelude.{◌*ℤ◌}
use Rattle.std.proofs.lemmas.Int.{ints}
use Rattle.std.proofs.lemmas.Bool.Decides.{nat_tests}
use Rattle.std.specs.Int.{w128, cast_unsigned}
use Rattle.svm_model.specs.declared.rows.Width.{Width}
use Rattle.svm_model.specs.declared.rows.Width.TheVariants.{W8, W16, W32, W64}
use Rattle.svm_model.specs.Instructions.Widths.{bits, as_signed, bits_for}
use Rattle.svm_model.specs.Instructions.Products.{low_half, high_half}

pub low_bits_of_pattern : (w : Width) (z : ℤ) → FitsSigned w128 z → cast_unsigned w128 z % 2 ^ bits w ≡ bits_for (bits w) z
low_bits_of_pattern W8 (pos n) h = omega (arith, h.sfits)
low_bits_of_pattern W8 (negsuc n) h = omega (arith, h.sfits)
low_bits_of_pattern W16 (pos n) h = omega (arith, h.sfits)
low_bits_of_pattern W16 (negsuc n) h = omega (arith, h.sfits)
low_bits_of_pattern W32 (pos n) h = omega (arith, h.sfits)
low_bits_of_pattern W32 (negsuc n) h = omega (arith, h.sfits)
low_bits_of_pattern W64 (pos n) h = omega (arith, h.sfits)
low_bits_of_pattern W64 (negsuc n) h = omega (arith, h.sfits)

pub low_half_of_pattern : (w : Width) (z : ℤ) → FitsSigned w128 z → cast_unsigned w128 z % 2 ^ bits w ≡ low_half w (bits_for (2 * bits w) z)
low_half_of_pattern W8 (pos n) h = omega (arith, h.sfits)
low_half_of_pattern W8 (negsuc n) h = omega (arith, h.sfits)
low_half_of_pattern W16 (pos n) h = omega (arith, h.sfits)
low_half_of_pattern W16 (negsuc n) h = omega (arith, h.sfits)
low_half_of_pattern W32 (pos n) h = omega (arith, h.sfits)
low_half_of_pattern W32 (negsuc n) h = omega (arith, h.sfits)
low_half_of_pattern W64 (pos n) h = omega (arith, h.sfits)
low_half_of_pattern W64 (negsuc n) h = omega (arith, h.sfits)

pub high_half_of_pattern : (w : Width) (z : ℤ) → FitsSigned w128 z → cast_unsigned w128 z / 2 ^ bits w % 2 ^ bits w ≡ high_half w (bits_for (2 * bits w) z)
high_half_of_pattern W8 (pos n) h = omega (arith, h.sfits)
high_half_of_pattern W8 (negsuc n) h = omega (arith, h.sfits)
high_half_of_pattern W16 (pos n) h = omega (arith, h.sfits)
high_half_of_pattern W16 (negsuc n) h = omega (arith, h.sfits)
high_half_of_pattern W32 (pos n) h = omega (arith, h.sfits)
high_half_of_pattern W32 (negsuc n) h = omega (arith, h.sfits)
high_half_of_pattern W64 (pos n) h = omega (arith, h.sfits)
high_half_of_pattern W64 (negsuc n) h = omega (arith, h.sfits)

-- two halves read as one signed number: the upper one has the sign
pub signed_halves : (w : Width) (high low : ℕ) → high < 2 ^ bits w → low < 2 ^ bits w → as_signed (bits w) high *ℤ pos (2 ^ bits w) +ℤ pos low ≡ as_signed (2 * bits w) (high * 2 ^ bits w + low)
signed_halves W8 high low h l = grind (arith, nat_tests, ints)
signed_halves W16 high low h l = grind (arith, nat_tests, ints)
signed_halves W32 high low h l = grind (arith, nat_tests, ints)
signed_halves W64 high low h l = grind (arith, nat_tests, ints)
