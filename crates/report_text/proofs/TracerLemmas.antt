-- The memories that an image's guests start with.
use Rattle.std.proofs.Common.{◌≡◌, ℕ, List, [], ◌∷◌, map, ap, refl}
use Rattle.svm_model.specs.Formats.Image.{ImageGuest}
use Rattle.svm_model.specs.Machine.World.{first_guest}

pub memories-first : (guests : List ImageGuest) → map (λ (g : ImageGuest). (first_guest g).memory) guests ≡ map (λ g. g.memory) (map first_guest guests)
memories-first [] = refl
memories-first (g ∷ guests) = ap (λ (ms : List (List ℕ)). (first_guest g).memory ∷ ms) (memories-first guests)

pub ruleset openings = (memories-first)
