-- The status flags within RFLAGS (volume 1, 'Flags Register').
use Rattle.std.specs.Prelude.{ℕ, ◌+◌, ◌-◌, ◌^◌, bit_and, bit_or}
use Rattle.svm_model.specs.Memory.Bits.{has, bits_where}
use Rattle.svm_model.specs.declared.flags.Flags.{Flags}

-- CF, bit 0
abbrev pub carry_flag : ℕ
carry_flag = 2 ^ 0

-- PF, bit 2
abbrev pub parity_flag : ℕ
parity_flag = 2 ^ 2

-- AF, bit 4
abbrev pub auxiliary_flag : ℕ
auxiliary_flag = 2 ^ 4

-- ZF, bit 6
abbrev pub zero_flag : ℕ
zero_flag = 2 ^ 6

-- SF, bit 7
abbrev pub sign_flag : ℕ
sign_flag = 2 ^ 7

-- OF, bit 11
abbrev pub overflow_flag : ℕ
overflow_flag = 2 ^ 11

-- the six status flags
abbrev pub status_flags : ℕ
status_flags = carry_flag + parity_flag + auxiliary_flag + zero_flag + sign_flag + overflow_flag

-- the status flags that a value of RFLAGS has
unfoldable pub flags_in : ℕ → Flags
flags_in rflags = record {
  cf = has rflags carry_flag;
  pf = has rflags parity_flag;
  af = has rflags auxiliary_flag;
  zf = has rflags zero_flag;
  sf = has rflags sign_flag;
  of = has rflags overflow_flag;
}

-- status flags as bits of RFLAGS
unfoldable pub bits_of_flags : Flags → ℕ
bits_of_flags f =
    bits_where f.cf carry_flag + bits_where f.pf parity_flag + bits_where f.af auxiliary_flag
    + bits_where f.zf zero_flag + bits_where f.sf sign_flag + bits_where f.of overflow_flag

-- RFLAGS with its status flags replaced; all other bits stay
unfoldable pub with_flags : ℕ → Flags → ℕ
with_flags rflags f = bit_or (bit_and rflags (2 ^ 64 - 1 - status_flags)) (bits_of_flags f)
