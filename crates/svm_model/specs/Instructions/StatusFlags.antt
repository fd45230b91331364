-- The status flags (volume 1, 'Flags Register'), and how sums, differences and logic set them (volume 3, 'ADC', 'SBB', 'AND').
use Rattle.std.specs.Prelude.{ℕ, ◌+◌, ◌-◌, ◌^◌, ◌%◌, ◌==◌, nat_lt, nat_le, Bool, false, not, if◌then◌else◌, pos, ◌+ℤ◌, ◌-ℤ◌, bit_and, bit_or, bit_xor, count_ones}
use Rattle.svm_model.specs.Instructions.Widths.{bits, top_bit, as_signed, fits_signed}
use Rattle.svm_model.specs.declared.rows.Width.{Width}
use Rattle.svm_model.specs.declared.flags.Flags.{Flags}
use Rattle.svm_model.specs.declared.flags.LogicKind.{LogicKind}
use Rattle.svm_model.specs.declared.flags.LogicKind.TheVariants.{And, Or, Xor}

-- PF: the low byte of the result has an even number of ones
abbrev pub parity : ℕ → Bool
parity n = count_ones (n % 2 ^ 8) % 2 == 0

-- a carry or a borrow that comes in, as a number
abbrev pub one_where : Bool → ℕ
one_where carry = if carry then 1 else 0

-- the sum of two operands and a carry
abbrev pub sum_of : Width → ℕ → ℕ → Bool → ℕ
sum_of w a b carry = (a + b + one_where carry) % 2 ^ bits w

-- OF of a sum: the sum of the signed numbers does not fit
abbrev pub sum_overflows : Width → ℕ → ℕ → Bool → Bool
sum_overflows w a b carry =
    not (fits_signed w (as_signed (bits w) a +ℤ as_signed (bits w) b +ℤ pos (one_where carry)))

-- CF: the sum leaves the width; AF: the sum of the low four bits leaves them
unfoldable pub flags_of_sum : Width → ℕ → ℕ → Bool → Flags
flags_of_sum w a b carry = record {
  cf = nat_le (2 ^ bits w) (a + b + one_where carry);
  pf = parity (sum_of w a b carry);
  af = nat_le 16 (a % 16 + b % 16 + one_where carry);
  zf = sum_of w a b carry == 0;
  sf = top_bit w (sum_of w a b carry);
  of = sum_overflows w a b carry;
}

-- the first operand less the second and a borrow
abbrev pub difference_of : Width → ℕ → ℕ → Bool → ℕ
difference_of w a b borrow = (a + 2 ^ bits w - (b + one_where borrow)) % 2 ^ bits w

-- OF of a difference: the difference of the signed numbers does not fit
abbrev pub difference_overflows : Width → ℕ → ℕ → Bool → Bool
difference_overflows w a b borrow =
    not (fits_signed w (as_signed (bits w) a -ℤ as_signed (bits w) b -ℤ pos (one_where borrow)))

-- CF: the whole needs a borrow; AF: the low four bits need one
unfoldable pub flags_of_difference : Width → ℕ → ℕ → Bool → Flags
flags_of_difference w a b borrow = record {
  cf = nat_lt a (b + one_where borrow);
  pf = parity (difference_of w a b borrow);
  af = nat_lt (a % 16) (b % 16 + one_where borrow);
  zf = difference_of w a b borrow == 0;
  sf = top_bit w (difference_of w a b borrow);
  of = difference_overflows w a b borrow;
}

-- the operands bit by bit
abbrev pub logic_of : LogicKind → ℕ → ℕ → ℕ
logic_of And a b = bit_and a b
logic_of Or a b = bit_or a b
logic_of Xor a b = bit_xor a b

-- logic clears CF and OF, and leaves AF
unfoldable pub flags_of_logic : Width → ℕ → Flags → Flags
flags_of_logic w result before = record {
  cf = false;
  pf = parity result;
  af = before.af;
  zf = result == 0;
  sf = top_bit w result;
  of = false;
}
