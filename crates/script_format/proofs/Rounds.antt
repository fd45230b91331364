-- The events of a line: equal rounds, one behind the other.
use Rattle.std.proofs.Common.{◌≡◌, ℕ, suc, zero, ◌+◌, ◌*◌, ◌/◌, ◌%◌, ◌<◌, ◌∙◌, List, [], ◌∷◌, Bool, true, false, cond, Some, length, map, take, get_or, replicate, refl, sym, ap, subst, arith}
use Rattle.std.specs.List.{All, flat_map, range_with_len, slice_get}
use Rattle.std.proofs.Math.Nat.{div-lt_iff_lt-mul, eq_of_mul-eq-mul_left, mod-add-div', mod-lt, mod-one}
use Rattle.std.proofs.lemmas.List.{get_or-replicate, length-replicate, take-replicate}
use Rattle.std.proofs.lemmas.List.Concat.{get_or-flat_map, length-flat_map}
use Rattle.std.proofs.lemmas.List.Elements.{All-append, All-cons, All-from_get_or, All-nil}
use Rattle.std.proofs.lemmas.List.Folds.{sum_by-replicate}
use Rattle.std.proofs.lemmas.List.FromFn.{get_or-map-range_with_len, length-map-range_with_len}
use Rattle.std.proofs.lemmas.Option.{slice_get-get_or}
use Rattle.svm_model.specs.Formats.Script.{IsLawfulLine, IsRoundOf, events_of_line, round_of, run_on}
use Rattle.svm_model.specs.Formats.ScriptLines.{line_length, round_length}
use Rattle.svm_model.specs.Machine.Shapes.{Shape, IsNamed}
use Rattle.svm_model.specs.declared.formats.ScriptLine.{ScriptLine}
use Rattle.svm_model.specs.declared.names.Event.{Event}

-- so many equal rounds
abbrev pub rounds : {X : Type 0} → ℕ → List X → List X
rounds {X} n xs = flat_map (λ (round : List X). round) (replicate n xs)

length-rounds : {X : Type 0} (n : ℕ) (xs : List X) → length (rounds n xs) ≡ n * length xs
length-rounds {X} n xs = length-flat_map (λ (round : List X). round) (replicate n xs) ∙ sum_by-replicate (λ (round : List X). length round) n xs

-- where there is an element in so many rounds, a round has one
some_in : (n k w : ℕ) → k < n * w → 0 < w
some_in n k zero h = absurd (omega arith)
some_in n k (suc w) h = omega arith

-- an element of equal rounds stands in each of them at the same place
get_or-rounds : {X : Type 0} (n k : ℕ) (xs : List X) (d : X) → k < n * length xs → get_or (rounds n xs) k d ≡ get_or xs (k % length xs) d
get_or-rounds {X} n k xs d h =
    let some : 0 < length xs = some_in n k (length xs) h in
    let i : ℕ = k / length xs in
    let j : ℕ = k % length xs in
    let before : i < n = (div-lt_iff_lt-mul {k = length xs} {x = k} {y = n} some).1 h in
    let listed : i < length (replicate n xs) = omega (arith, length-replicate n xs) in
    let same : get_or (replicate n xs) i xs ≡ xs = get_or-replicate n i xs xs before in
    let within : j < length (get_or (replicate n xs) i xs) = subst (λ (round : List X). j < length round) (sym same) (mod-lt k some) in
    let front : length (flat_map (λ (round : List X). round) (take i (replicate n xs))) ≡ i * length xs =
    ap (λ (pieces : List (List X)). length (flat_map (λ (round : List X). round) pieces)) (take-replicate i n xs (omega arith)) ∙ length-rounds i xs in
    let place : length (flat_map (λ (round : List X). round) (take i (replicate n xs))) + j ≡ k = omega (arith, front, mod-add-div' k (length xs)) in
    ap (λ m. get_or (rounds n xs) m d) (sym place)
    ∙ get_or-flat_map (λ (round : List X). round) (replicate n xs) i j xs d listed within
    ∙ ap (λ (round : List X). get_or round j d) same

All-rounds : {X : Type 0} (P : X → Type 0) (n : ℕ) (xs : List X) → All P xs → All P (rounds n xs)
All-rounds P zero xs h = All-nil P
All-rounds P (suc n) xs h = All-append P xs (rounds n xs) h (All-rounds P n xs h)

length-either : {X : Type 0} (test : Bool) (xs ys : List X) (m n : ℕ) → length xs ≡ m → length ys ≡ n → length (cond test xs ys) ≡ cond test m n
length-either true xs ys m n h k = h
length-either false xs ys m n h k = k

length-round : (cpus : ℕ) (line : ScriptLine) → length (round_of cpus line) ≡ round_length cpus line
length-round cpus line = length-either line.each (map run_on (range_with_len 0 cpus)) (line.event ∷ []) cpus 1 (length-map-range_with_len run_on 0 cpus) refl

pub length-line : (cpus : ℕ) (line : ScriptLine) → length (events_of_line cpus line) ≡ line_length cpus line
length-line cpus line = length-rounds line.times (round_of cpus line) ∙ ap (λ n. line.times * n) (length-round cpus line)

-- an event of a line is that of its round
of_round : (cpus k : ℕ) (line : ScriptLine) (event : Event) → k < line_length cpus line → slice_get (events_of_line cpus line) k ≡ Some (get_or (round_of cpus line) (k % round_length cpus line) event)
of_round cpus k line event h =
    let inside : k < line.times * length (round_of cpus line) = rw (length-round cpus line) h in
    slice_get-get_or (events_of_line cpus line) k event (rw (length-line cpus line) h)
    ∙ ap (λ e. Some e) (get_or-rounds line.times k (round_of cpus line) event inside)
    ∙ ap (λ n. Some (get_or (round_of cpus line) (k % n) event)) (length-round cpus line)

-- a line that is no line of rounds has one event
pub one_event : (cpus k : ℕ) (line : ScriptLine) → line.each ≡ false → k < line_length cpus line → slice_get (events_of_line cpus line) k ≡ Some line.event
one_event cpus k line single h = of_round cpus k line line.event h ∙ rw single (ap (λ i. Some (get_or (line.event ∷ []) i line.event)) (mod-one k))

-- and a line of rounds the runs on all processors, in their order
pub turn_of : (cpus k : ℕ) (line : ScriptLine) → line.each ≡ true → k < line_length cpus line → slice_get (events_of_line cpus line) k ≡ Some (run_on (k % cpus))
turn_of cpus k line each h =
    let inside : k < line.times * cpus = subst (λ test. k < line.times * cond test cpus 1) each h in
    let some : 0 < cpus = some_in line.times k cpus inside in
    of_round cpus k line line.event h ∙ rw each (ap (λ e. Some e) (get_or-map-range_with_len run_on 0 cpus (k % cpus) (k % cpus) line.event (mod-lt k some) (omega arith)))

-- a line that is as long on two numbers of processors has the same events on both
same_round : (each : Bool) (cpus others times : ℕ) (single : List Event) → 0 < times → times * cond each cpus 1 ≡ times * cond each others 1
    → cond each (map run_on (range_with_len 0 cpus)) single ≡ cond each (map run_on (range_with_len 0 others)) single
same_round true cpus others times single some h = ap (λ n. map run_on (range_with_len 0 n)) (eq_of_mul-eq-mul_left times some cpus others h)
same_round false cpus others times single some h = refl

pub same_line : (cpus others : ℕ) (line : ScriptLine) → 0 < line.times → line_length cpus line ≡ line_length others line → events_of_line cpus line ≡ events_of_line others line
same_line cpus others line some h = ap (λ (round : List Event). rounds line.times round) (same_round line.each cpus others line.times (line.event ∷ []) some h)

all_run : (shape : Shape) → All (IsNamed shape) (map run_on (range_with_len 0 shape.cpus))
all_run shape =
    All-from_get_or (IsNamed shape) (map run_on (range_with_len 0 shape.cpus)) (run_on 0) (λ i h.
    let below : i < shape.cpus = omega (arith, length-map-range_with_len run_on 0 shape.cpus) in
    subst (IsNamed shape) (sym (get_or-map-range_with_len run_on 0 shape.cpus i i (run_on 0) below (omega arith))) below)

named_round : (shape : Shape) (each : Bool) (event : Event) → IsRoundOf shape each event → All (IsNamed shape) (cond each (map run_on (range_with_len 0 shape.cpus)) (event ∷ []))
named_round shape true event h = all_run shape
named_round shape false event h = All-cons (IsNamed shape) event [] h (All-nil (IsNamed shape))

-- each event of a lawful line names what is there
pub named_line : (shape : Shape) (line : ScriptLine) → IsLawfulLine shape line → All (IsNamed shape) (events_of_line shape.cpus line)
named_line shape line h = All-rounds (IsNamed shape) line.times (round_of shape.cpus line) (named_round shape line.each line.event h.named)
