-- Histories of what was told, the newest first, and whether a rule was kept.
use Rattle.std.specs.Prelude.{Bool, true, ◌&&◌, List, [], ◌∷◌}
use Rattle.svm_model.specs.Turn.Course.{Told}

-- the history after what a turn told
abbrev pub told_after : List Told → List Told → List Told
told_after history [] = history
told_after history (told ∷ next) = told_after (told ∷ history) next

-- a rule says of a thing that is told, by the history before it, whether it is kept; this says so of all that a turn told
abbrev pub keeps_by : (List Told → Told → Bool) → List Told → List Told → Bool
keeps_by rule history [] = true
keeps_by rule history (told ∷ next) = rule history told && keeps_by rule (told ∷ history) next
