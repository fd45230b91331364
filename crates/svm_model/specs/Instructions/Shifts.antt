-- Shifts and rotations, one bit at a time (volume 3, 'ROL', 'ROR', 'SAL SHL', 'SHR', 'SAR').
use Rattle.std.specs.Prelude.{ℕ, zero, suc, ◌+◌, ◌-◌, ◌*◌, ◌/◌, ◌%◌, ◌^◌, ◌==◌, nat_le, Bool, true, false, not, if◌then◌else◌}
use Rattle.svm_model.specs.Instructions.Widths.{bits, top_bit}
use Rattle.svm_model.specs.Instructions.StatusFlags.{parity, one_where}
use Rattle.svm_model.specs.declared.rows.Width.{Width}
use Rattle.svm_model.specs.declared.rows.Width.TheVariants.{W64}
use Rattle.svm_model.specs.declared.flags.Flags.{Flags}
use Rattle.svm_model.specs.declared.flags.ShiftKind.{ShiftKind}
use Rattle.svm_model.specs.declared.flags.ShiftKind.TheVariants.{Rol, Ror, Shl, Shr, Sar}

-- the count is taken modulo 32, or modulo 64 for 64 bits
abbrev pub shift_count : Width → ℕ → ℕ
shift_count W64 count = count % 64
shift_count _ count = count % 32

-- bits move to the left: towards the highest
abbrev pub is_leftward : ShiftKind → Bool
is_leftward Rol = true
is_leftward Shl = true
is_leftward _ = false

abbrev pub is_rotation : ShiftKind → Bool
is_rotation Rol = true
is_rotation Ror = true
is_rotation _ = false

-- the bit that leaves: the highest or the lowest
abbrev pub bit_out : Width → ShiftKind → ℕ → Bool
bit_out w kind n = if is_leftward kind then top_bit w n else n % 2 == 1

-- the bit that comes in at the other end: of a rotation the one that leaves, of SAR the sign, else 0
abbrev pub bit_in : Width → ShiftKind → ℕ → Bool
bit_in w Shl n = false
bit_in w Shr n = false
bit_in w Sar n = top_bit w n
bit_in w kind n = bit_out w kind n

-- moved by one bit
abbrev pub moved : Width → ShiftKind → ℕ → ℕ
moved w kind n =
    if is_leftward kind then 2 * n % 2 ^ bits w + one_where (bit_in w kind n)
    else n / 2 + one_where (bit_in w kind n) * 2 ^ (bits w - 1)

-- moved by so many bits
unfoldable pub moved_by : Width → ShiftKind → ℕ → ℕ → ℕ
moved_by w kind n zero = n
moved_by w kind n (suc count) = moved w kind (moved_by w kind n count)

-- the result for a count of any size
abbrev pub shift_of : Width → ShiftKind → ℕ → ℕ → ℕ
shift_of w kind n count = moved_by w kind n (shift_count w count)

-- the last bit that leaves, for a count above 0
abbrev pub last_out : Width → ShiftKind → ℕ → ℕ → Bool
last_out w kind n count = bit_out w kind (moved_by w kind n (count - 1))

abbrev differ : Bool → Bool → Bool
differ true b = not b
differ false b = b

-- the bit below the highest
abbrev second_bit : Width → ℕ → Bool
second_bit w n = nat_le (2 ^ (bits w - 1)) (2 * n % 2 ^ bits w)

-- OF after one bit. Of ROL and SHL: CF differs from the highest bit. Of ROR: the two highest bits differ. Of SHR: the
-- highest bit before. Of SAR: 0.
abbrev pub overflow_of_one : Width → ShiftKind → ℕ → Bool
overflow_of_one w Ror n = differ (top_bit w (moved w Ror n)) (second_bit w (moved w Ror n))
overflow_of_one w Shr n = top_bit w n
overflow_of_one w Sar n = false
overflow_of_one w kind n = differ (top_bit w (moved w kind n)) (bit_out w kind n)

abbrev pub overflow_after : Width → ShiftKind → ℕ → ℕ → Flags → Bool
overflow_after w kind n count before = if count == 1 then overflow_of_one w kind n else before.of

-- the flags of a count above 0: rotations set CF and OF alone, shifts all but AF
abbrev pub flags_after : Width → ShiftKind → ℕ → ℕ → Flags → Flags
flags_after w kind n count before =
    if is_rotation kind then record before {
      cf = last_out w kind n count;
      of = overflow_after w kind n count before;
    }
    else record {
      cf = last_out w kind n count;
      pf = parity (moved_by w kind n count);
      af = before.af;
      zf = moved_by w kind n count == 0;
      sf = top_bit w (moved_by w kind n count);
      of = overflow_after w kind n count before;
    }

-- a count of 0 sets no flag
unfoldable pub flags_of_shift : Width → ShiftKind → ℕ → ℕ → Flags → Flags
flags_of_shift w kind n count before =
    if shift_count w count == 0 then before else flags_after w kind n (shift_count w count) before
