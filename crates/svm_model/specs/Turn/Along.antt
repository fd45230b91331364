-- An errand in the course of a turn: what it wants of linear memory, part by part.
use Rattle.std.specs.Prelude.{ℕ, List, [], ◌∷◌, ◌++◌, Bool, Result, Ok, Err}
use Rattle.svm_model.specs.Turn.Accesses.{with_access, with_result}
use Rattle.svm_model.specs.Turn.Course.{Course, Release}
use Rattle.svm_model.specs.Turn.Errand.{Errand, Over, Word, Hold, Commit}
use Rattle.svm_model.specs.Instructions.Planning.{access}
use Rattle.svm_model.specs.declared.register_file.Registers.{Registers}
use Rattle.svm_model.specs.declared.rows.Touch.TheVariants as touch
use Rattle.svm_model.specs.declared.turns.Accessed.{Accessed}
use Rattle.svm_model.specs.declared.turns.Held.{Held}
use Rattle.svm_model.specs.declared.turns.Stop.{Stop}

abbrev pub word_of : Result Accessed Stop → Result ℕ Stop
word_of (Ok one) = Ok one.word
word_of (Err reason) = Err reason

abbrev pub done_of : Result Accessed Stop → Result (Unit {0}) Stop
done_of (Ok one) = Ok tt
done_of (Err reason) = Err reason

-- a stop lets all held places go
abbrev pub held_after_word : List Held → Result Accessed Stop → List Held
held_after_word held (Ok one) = held
held_after_word held (Err reason) = []

abbrev pub held_place : ℕ → ℕ → Bool → ℕ → Held
held_place address length stack number = record { access = access address length touch.Write stack; number = number }

abbrev pub held_after : ℕ → ℕ → Bool → List Held → Result Accessed Stop → List Held
held_after address length stack held (Ok one) = held ++ held_place address length stack one.number ∷ []
held_after address length stack held (Err reason) = []

-- where no place is held the translations so far are let go
unfoldable pub released : List Held → Course → Course
released [] next = Release next
released (place ∷ held) next = next

-- the values, in the places that are held
unfoldable pub committed : List Held → List ℕ → Course → Course
committed [] values next = next
committed (place ∷ held) [] next = next
committed (place ∷ held) (value ∷ values) next = with_result place.number place.access value (committed held values next)

abbrev pub along : List Held → Errand → (Result Registers Stop → Course) → Course
along held (Over outcome) next = next outcome
along held (Word address length user stack more) next =
    released held (with_access user (access address length touch.Read stack) (λ a. along (held_after_word held a) (more (word_of a)) next))
along held (Hold address length user stack more) next =
    released held (with_access user (access address length touch.Write stack) (λ a. along (held_after address length stack held a) (more (done_of a)) next))
along held (Commit values more) next = committed held values (along [] more next)
