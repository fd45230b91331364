-- Multiplications and divisions (volume 3, 'MUL', 'IMUL', 'DIV', 'IDIV').
use Rattle.std.specs.Prelude.{ℕ, ◌+◌, ◌-◌, ◌*◌, ◌/◌, ◌%◌, ◌^◌, ◌==◌, Bool, true, false, not, ◌&&◌, ◌||◌, if◌then◌else◌, ℤ, pos, ◌*ℤ◌, int_div, int_rem, Result, Ok, Err}
use Rattle.svm_model.specs.Instructions.Widths.{bits, top_bit, as_signed, value_of, fits, bits_for}
use Rattle.svm_model.specs.declared.rows.Width.{Width}
use Rattle.svm_model.specs.declared.flags.Flags.{Flags}
use Rattle.svm_model.specs.declared.flags.NoQuotient.{NoQuotient}

-- the product, of twice the width
unfoldable pub product_of : Width → Bool → ℕ → ℕ → ℕ
product_of w signed a b = bits_for (2 * bits w) (value_of signed w a *ℤ value_of signed w b)

abbrev pub low_half : Width → ℕ → ℕ
low_half w n = n % 2 ^ bits w

abbrev pub high_half : Width → ℕ → ℕ
high_half w n = n / 2 ^ bits w

-- the high half that says no more than the low half: copies of the sign, or zeros
abbrev pub extension_of : Width → Bool → ℕ → ℕ
extension_of w signed low = if signed && top_bit w low then 2 ^ bits w - 1 else 0

-- CF and OF alike: the high half is not the extension of the low half. The others stay.
unfoldable pub flags_of_product : Width → Bool → ℕ → Flags → Flags
flags_of_product w signed product before = record before {
  cf = not (high_half w product == extension_of w signed (low_half w product));
  of = not (high_half w product == extension_of w signed (low_half w product));
}

-- the dividend, of twice the width
abbrev pub dividend_of : Width → Bool → ℕ → ℕ → ℤ
dividend_of w true high low = as_signed (2 * bits w) (high * 2 ^ bits w + low)
dividend_of w false high low = pos (high * 2 ^ bits w + low)

-- the quotient, rounded towards zero
abbrev pub quotient_of : Width → Bool → ℕ → ℕ → ℕ → ℤ
quotient_of w signed high low divisor = int_div (dividend_of w signed high low) (value_of signed w divisor)

-- the remainder, of the dividend's sign
abbrev pub remainder_of : Width → Bool → ℕ → ℕ → ℕ → ℤ
remainder_of w signed high low divisor = int_rem (dividend_of w signed high low) (value_of signed w divisor)

-- quotient and remainder, where the divisor is not 0 and the quotient fits the width
unfoldable pub division_of : Width → Bool → ℕ → ℕ → ℕ → Result (ℕ × ℕ) NoQuotient
division_of w signed high low divisor =
    if divisor == 0 || not (fits signed w (quotient_of w signed high low divisor)) then Err record {}
    else Ok (bits_for (bits w) (quotient_of w signed high low divisor), bits_for (bits w) (remainder_of w signed high low divisor))
