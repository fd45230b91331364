-- The first of some bytes.
use Rattle.std.proofs.Common.{◌≡◌, ℕ, List, [], ◌∷◌, ◌++◌, length, slice_index, refl}

-- the first byte of one byte with others behind it
pub front-byte : (bytes rest : List ℕ) → length bytes ≡ 1 → slice_index (bytes ++ rest) 0 ≡ slice_index bytes 0
front-byte [] rest e = absurd (cc)
front-byte (b ∷ bytes) rest e = refl

pub ruleset first_byte = (front-byte)
