-- Reading so many of a record one after the other, as a loop does.
use Rattle.std.proofs.Common.{◌≡◌, ℕ, suc, ◌-◌, ◌+◌, ◌≤◌, ◌<◌, List, [], ◌∷◌, ◌++◌, Result, Ok, Err, refl, sym, ap, ◌∙◌, append_assoc, arith}
use Rattle.std.proofs.lemmas.List.{append-nil}
use Rattle.svm_model.specs.Formats.Image.{ImageFault}
use Rattle.svm_model.specs.Formats.ImageBytes.{many_in}
use Rattle.svm_model.specs.Formats.ImageFields.{Source, ◌>>=◌}
use Rattle.image_format.specs.declared.refusal.ImageRefusal.{ImageRefusal}
use Rattle.image_format.specs.declared.refusal.ImageRefusal.TheVariants.{Bad, NoMemory}
use Rattle.image_format.specs.Reading.{GivesFault}

-- what was read before, and what is still read
abbrev pub with_front : {A : Type 0} → List A → Result (List A × Source) ImageFault → Result (List A × Source) ImageFault
with_front front read = read >>= λ x. Ok (front ++ x.0, x.1)

regroup : {A : Type 0} (front : List A) (x : A) (read : Result (List A × Source) ImageFault) → with_front front (read >>= λ y. Ok (x ∷ y.0, y.1)) ≡ with_front (front ++ x ∷ []) read
regroup front x (Ok y) = ap (λ xs. Ok (xs, y.1)) (simp append_assoc)
regroup front x (Err fault) = refl

pub goes_on : {A : Type 0} (one : Source → Result (A × Source) ImageFault) (front : List A) (count i : ℕ) (s : Source) (x : A) (after : Source) (total : Result (List A × Source) ImageFault)
    → i < count → one s ≡ Ok (x, after) → with_front front (many_in one (count - i) s) ≡ total → with_front (front ++ x ∷ []) (many_in one (count - (i + 1)) after) ≡ total
unfolding many_in
goes_on one front count i s x after total lt h so_far =
    let k : count - i ≡ suc (count - (i + 1)) = omega arith in
    let step : with_front front (many_in one (count - i) s) ≡ with_front (front ++ x ∷ []) (many_in one (count - (i + 1)) after) = rw (k, h) (regroup front x (many_in one (count - (i + 1)) after)) in
    sym step ∙ so_far

pub ends : {A : Type 0} (one : Source → Result (A × Source) ImageFault) (refusal : ImageRefusal) (front : List A) (count i : ℕ) (s : Source) (total : Result (List A × Source) ImageFault)
    → i < count → GivesFault refusal (one s) → with_front front (many_in one (count - i) s) ≡ total → GivesFault refusal total
unfolding many_in
ends one NoMemory front count i s total lt h so_far = tt
ends one (Bad place reason) front count i s total lt h so_far =
    let k : count - i ≡ suc (count - (i + 1)) = omega arith in
    let step : with_front front (many_in one (count - i) s) ≡ Err (record { place = place; reason = reason }) = rw (k, h) refl in
    sym so_far ∙ step

pub is_done : {A : Type 0} (one : Source → Result (A × Source) ImageFault) (front : List A) (count i : ℕ) (s : Source) (total : Result (List A × Source) ImageFault)
    → count ≤ i → with_front front (many_in one (count - i) s) ≡ total → total ≡ Ok (front, s)
unfolding many_in
is_done one front count i s total le so_far =
    let k : count - i ≡ 0 = omega arith in
    let step : with_front front (many_in one (count - i) s) ≡ Ok (front, s) = rw k (ap (λ xs. Ok (xs, s)) (append-nil front)) in
    sym so_far ∙ step
