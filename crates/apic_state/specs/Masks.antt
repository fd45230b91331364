-- Flags as the bits of a number.
use Rattle.std.specs.Prelude.{ℕ, ◌+◌, ◌*◌, List, [], ◌∷◌, Bool, if◌then◌else◌}

-- a bit for each flag, the first being bit 0
abbrev pub mask_of : List Bool → ℕ
mask_of [] = 0
mask_of (flag ∷ flags) = (if flag then 1 else 0) + 2 * mask_of flags
