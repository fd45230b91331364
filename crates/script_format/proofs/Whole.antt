-- Lines that are read one after the other, as a loop does.
use Rattle.std.proofs.Common.{◌≡◌, ℕ, ◌+◌, ◌≤◌, ◌<◌, ◌∙◌, List, [], ◌∷◌, ◌++◌, Option, None, Result, Ok, Err, length, map, drop, get_or, refl, sym, ap, append_assoc, arith, add-one, drop-cons, Bor}
use Rattle.std.specs.Option.{option_to_list}
use Rattle.std.proofs.lemmas.List.{append-nil, drop_all}
use Rattle.svm_model.specs.Formats.Script.{Script, ScriptFault, at_line, count_of, script_from}
use Rattle.svm_model.specs.Formats.ScriptLines.{said_of}
use Rattle.svm_model.specs.Formats.ScriptWords.{◌>>=◌}
use Rattle.svm_model.specs.Machine.Shapes.{Shape}
use Rattle.svm_model.specs.declared.formats.ScriptLine.{ScriptLine}
use Rattle.script_format.specs.declared.refusal.ScriptRefusal.{ScriptRefusal}
use Rattle.script_format.specs.declared.refusal.ScriptRefusal.TheVariants.{Bad, NoMemory}
use Rattle.script_format.specs.Reading.{GivesFault}

-- the lines that were read before, and what is read behind them
abbrev pub with_front : List ScriptLine → Result Script ScriptFault → Result Script ScriptFault
with_front front (Ok script) = Ok (record { lines = front ++ script.lines; events = script.events })
with_front front (Err fault) = Err fault

-- the lines from an index on
abbrev pub texts_from : ℕ → List (Bor (List ℕ)) → List (List ℕ)
texts_from i lines = map (λ l. l.now) (drop i lines)

regroup : (front lines : List ScriptLine) (rest : Result Script ScriptFault) → with_front front (rest >>= λ s. Ok (record { lines = lines ++ s.lines; events = s.events })) ≡ with_front (front ++ lines) rest
regroup front lines (Ok script) = ap (λ all. Ok (record { lines = all; events = script.events })) (simp append_assoc)
regroup front lines (Err fault) = refl

next : (lines : List (Bor (List ℕ))) (i : ℕ) (d : Bor (List ℕ)) → i < length lines → texts_from i lines ≡ (get_or lines i d).now ∷ texts_from (i + 1) lines
next lines i d h = ap (map (λ l. l.now)) (drop-cons lines i d h) ∙ ap (λ j. (get_or lines i d).now ∷ texts_from j lines) (sym (add-one i))

reads : (shape : Shape) (front : List ScriptLine) (line first : ℕ) (text : List ℕ) (texts : List (List ℕ)) (said : Option ScriptLine)
    → at_line line (said_of shape first text) ≡ Ok said
    → with_front front (script_from shape line first (text ∷ texts)) ≡ with_front (front ++ option_to_list said) (script_from shape (line + 1) (first + count_of shape.cpus said) texts)
unfolding script_from
reads shape front line first text texts said h =
    rw h (regroup front (option_to_list said) (script_from shape (line + 1) (first + count_of shape.cpus said) texts))

-- a line is read
pub goes_on : (shape : Shape) (front : List ScriptLine) (line first i : ℕ) (lines : List (Bor (List ℕ))) (d : Bor (List ℕ)) (said : Option ScriptLine) (total : Result Script ScriptFault)
    → i < length lines → at_line line (said_of shape first (get_or lines i d).now) ≡ Ok said → with_front front (script_from shape line first (texts_from i lines)) ≡ total
    → with_front (front ++ option_to_list said) (script_from shape (line + 1) (first + count_of shape.cpus said) (texts_from (i + 1) lines)) ≡ total
goes_on shape front line first i lines d said total within h so_far =
    sym (reads shape front line first (get_or lines i d).now (texts_from (i + 1) lines) said h)
    ∙ ap (λ texts. with_front front (script_from shape line first texts)) (sym (next lines i d within))
    ∙ so_far

-- a line says nothing
pub goes_past : (shape : Shape) (front : List ScriptLine) (line first i : ℕ) (lines : List (Bor (List ℕ))) (d : Bor (List ℕ)) (total : Result Script ScriptFault)
    → i < length lines → at_line line (said_of shape first (get_or lines i d).now) ≡ Ok None → with_front front (script_from shape line first (texts_from i lines)) ≡ total
    → with_front front (script_from shape (line + 1) first (texts_from (i + 1) lines)) ≡ total
goes_past shape front line first i lines d total within h so_far =
    let same : first ≡ first + 0 = omega arith in
    ap (λ all. with_front all (script_from shape (line + 1) first (texts_from (i + 1) lines))) (sym (append-nil front))
    ∙ ap (λ n. with_front (front ++ []) (script_from shape (line + 1) n (texts_from (i + 1) lines))) same
    ∙ goes_on shape front line first i lines d None total within h so_far

refuses : (shape : Shape) (front : List ScriptLine) (line first : ℕ) (text : List ℕ) (texts : List (List ℕ)) (fault : ScriptFault)
    → at_line line (said_of shape first text) ≡ Err fault → with_front front (script_from shape line first (text ∷ texts)) ≡ Err fault
unfolding script_from
refuses shape front line first text texts fault h = rw h refl

-- a line is refused
pub ends : (shape : Shape) (refusal : ScriptRefusal) (front : List ScriptLine) (line first i : ℕ) (lines : List (Bor (List ℕ))) (d : Bor (List ℕ)) (total : Result Script ScriptFault)
    → i < length lines → GivesFault refusal (at_line line (said_of shape first (get_or lines i d).now)) → with_front front (script_from shape line first (texts_from i lines)) ≡ total → GivesFault refusal total
ends shape NoMemory front line first i lines d total within h so_far = tt
ends shape (Bad place reason) front line first i lines d total within h so_far =
    sym so_far
    ∙ ap (λ texts. with_front front (script_from shape line first texts)) (next lines i d within)
    ∙ refuses shape front line first (get_or lines i d).now (texts_from (i + 1) lines) (record { line = place; reason = reason }) h

finished : (shape : Shape) (front : List ScriptLine) (line first : ℕ) → with_front front (script_from shape line first []) ≡ Ok (record { lines = front; events = first })
unfolding script_from
finished shape front line first = ap (λ lines. Ok (record { lines = lines; events = first })) (append-nil front)

-- no line is left
pub is_done : (shape : Shape) (front : List ScriptLine) (line first i : ℕ) (lines : List (Bor (List ℕ))) (total : Result Script ScriptFault)
    → length lines ≤ i → with_front front (script_from shape line first (texts_from i lines)) ≡ total → total ≡ Ok (record { lines = front; events = first })
is_done shape front line first i lines total past so_far =
    sym so_far
    ∙ ap (λ rest. with_front front (script_from shape line first (map (λ l. l.now) rest))) (drop_all i lines past)
    ∙ finished shape front line first
