-- What one who watches makes of the calls by which it is told.
use Rattle.std.specs.Prelude.{◌≡◌, List, [], ◌∷◌}
use Rattle.svm_model.specs.Audit.WatchCalls.{Notice}

-- the calls, in this order, lead from one state of it to another
abbrev pub Leads : {W : Type 0} → (W → Notice → W → Type 0) → W → List Notice → W → Type 0
Leads tells before [] after = before ≡ after
Leads {W} tells before (notice ∷ next) after = (between : W) × tells before notice between × Leads tells between next after
