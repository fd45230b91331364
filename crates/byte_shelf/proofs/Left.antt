-- What is left of a file as it is read on.
use Rattle.std.proofs.Common.{◌≡◌, ◌+◌, ℕ, zero, suc, List, ◌++◌, Option, Some, None, take, drop, refl}
use Rattle.std.proofs.lemmas.List.{take-append-drop, drop-drop}
use Rattle.byte_shelf.specs.Memory.{left_of}

-- the next bytes, and what is left behind them
pub left_of_next : (file : Option (List ℕ)) (place count : ℕ) → take count (left_of file place) ++ left_of file (place + count) ≡ left_of file place
left_of_next None place zero = refl
left_of_next None place (suc count) = refl
left_of_next (Some bytes) place count = rw (← drop-drop count place bytes) (take-append-drop count (drop place bytes))
