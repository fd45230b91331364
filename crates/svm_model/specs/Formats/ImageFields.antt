-- The fields of an image, in the order of its bytes. Each gives its value and what is left after it.
use Rattle.std.specs.Prelude.{ℕ, ◌+◌, ◌^◌, ◌==◌, ◌&&◌, nat_lt, nat_le, List, Bool, if◌then◌else◌, Result, Ok, Err, length, take, drop, codes, bit_and}
use Rattle.std.specs.Int.{Width, w32, w64, byte_len, from_le_bytes}
use Rattle.std.specs.List.{list_all}
use Rattle.std.specs.Str.{bytes_eq}
use Rattle.svm_model.specs.Memory.RegisterFile.{is_canonical}
use Rattle.svm_model.specs.declared.formats.ImageReason.{ImageReason}
use Rattle.svm_model.specs.declared.formats.ImageReason.TheVariants.{Short, Magic, Zero, Feature, Register}
use Rattle.svm_model.specs.Formats.Image.{ImageFault}

-- what is left of the bytes, and the place where it begins
pub record Source : Type 0 where
  pub place : ℕ
  pub rest : List ℕ

infixl 10 ◌>>=◌
abbrev pub ◌>>=◌ : {A B : Type 0} → Result A ImageFault → (A → Result B ImageFault) → Result B ImageFault
(Ok x) >>= f = f x
(Err e) >>= f = Err e

-- a field goes past the end: the place is the image's length
abbrev pub short : Source → ImageFault
short s = record { place = s.place + length s.rest; reason = Short }

abbrev pub bytes_in : ℕ → Source → Result (List ℕ × Source) ImageFault
bytes_in count s =
    if nat_lt (length s.rest) count then Err (short s) else Ok (take count s.rest, record { place = s.place + count; rest = drop count s.rest })

abbrev pub number_in : Width → Source → Result (ℕ × Source) ImageFault
number_in w s = bytes_in (byte_len w) s >>= λ bytes. Ok (from_le_bytes w bytes.0, bytes.1)

-- what was read at a place passes the test, or is refused there
abbrev pub judged : {A : Type 0} → Source → ImageReason → Bool → A → Result A ImageFault
judged s reason good x = if good then Ok x else Err (record { place = s.place; reason = reason })

-- a number within bounds
abbrev pub bounded : Width → ℕ → ℕ → ImageReason → Source → Result (ℕ × Source) ImageFault
bounded w low high reason s = number_in w s >>= λ n. judged s reason (nat_le low n.0 && nat_le n.0 high) n

-- a number that has to be zero
abbrev pub zero_in : Width → Source → Result (ℕ × Source) ImageFault
zero_in w s = bounded w 0 0 Zero s

-- three bytes that have to be zero
abbrev pub zeros_in : Source → Result (List ℕ × Source) ImageFault
zeros_in s = bytes_in 3 s >>= λ bytes. judged s Zero (list_all (λ b. b == 0) bytes.0) bytes

abbrev pub magic_in : Source → Result (List ℕ × Source) ImageFault
magic_in s = bytes_in 8 s >>= λ bytes. judged s Magic (bytes_eq bytes.0 (codes "SVMIMAGE")) bytes

-- the word of features, which is 0 in version 1; version 2 offers bit 0, FlushByAsid
abbrev pub features_in : ℕ → Source → Result (ℕ × Source) ImageFault
features_in version s = if version == 1 then zero_in w32 s else bounded w32 0 1 Feature s

-- CR3: bits 63:40 are 0
abbrev pub is_root : ℕ → Bool
is_root cr3 = nat_lt cr3 (2 ^ 40)

abbrev pub root_in : Source → Result (ℕ × Source) ImageFault
root_in s = number_in w64 s >>= λ n. judged s Register (is_root n.0) n

-- a linear address: canonical
abbrev pub linear_in : Source → Result (ℕ × Source) ImageFault
linear_in s = number_in w64 s >>= λ n. judged s Register (is_canonical n.0) n

-- the bits of RFLAGS that a start value may have: CF, bit 1, PF, AF, ZF, SF, IF, DF, OF, IOPL, NT and ID
abbrev pub flags_offered : ℕ
flags_offered = 0x20_7ED7

-- RFLAGS: bit 1 is set, and no bit is set that is not offered
abbrev pub are_flags : ℕ → Bool
are_flags rflags = (bit_and rflags 2 == 2) && (bit_and rflags flags_offered == rflags)

abbrev pub flags_in : Source → Result (ℕ × Source) ImageFault
flags_in s = number_in w64 s >>= λ n. judged s Register (are_flags n.0) n
