-- Where the events of a line stand among all.
use Rattle.std.proofs.Common.{◌≡◌, ℕ, suc, zero, ◌+◌, ◌-◌, ◌≤◌, ◌<◌, ◌∙◌, List, [], ◌∷◌, ◌++◌, Option, Some, None, inl, inr, length, take, get_or, refl, sym, ap, subst, arith, length-append}
use Rattle.std.specs.List.{All, flat_map, slice_get}
use Rattle.std.specs.Option.{IfSome}
use Rattle.std.proofs.lemmas.List.{take_all, take_more}
use Rattle.std.proofs.lemmas.List.Concat.{get_or-flat_map}
use Rattle.std.proofs.lemmas.List.Elements.{All-append, All-nil}
use Rattle.std.proofs.lemmas.Grind.{flat_map-append}
use Rattle.std.proofs.lemmas.Option.{slice_get-get_or, slice_get_cases, slice_get_within, get_or_from_slice_get}
use Rattle.svm_model.specs.Formats.Script.{Script, AreLawful, IsLawful, events_of, events_of_line}
use Rattle.svm_model.specs.Formats.ScriptLines.{line_length}
use Rattle.svm_model.specs.Machine.Shapes.{Shape, IsNamed}
use Rattle.svm_model.specs.declared.formats.ScriptLine.{ScriptLine}
use Rattle.svm_model.specs.declared.names.Event.{Event}
use Rattle.script_format.specs.Order.{AreInOrder, IsScriptFor}
use Rattle.script_format.proofs.Rounds.{length-line, named_line, same_line}

-- the number of the events of these lines, on so many processors
abbrev pub count : ℕ → List ScriptLine → ℕ
count cpus lines = length (flat_map (events_of_line cpus) lines)

count-cons : (cpus : ℕ) (line : ScriptLine) (lines : List ScriptLine) → count cpus (line ∷ lines) ≡ line_length cpus line + count cpus lines
count-cons cpus line lines = length-append (events_of_line cpus line) (flat_map (events_of_line cpus) lines) ∙ ap (λ n. n + count cpus lines) (length-line cpus line)

-- all events are counted
counted : (shape : Shape) (first : ℕ) (lines : List ScriptLine) (events : ℕ) → AreLawful shape first lines events → first + count shape.cpus lines ≡ events
counted shape first [] events h = omega arith
counted shape first (line ∷ lines) events h =
    omega (arith, count-cons shape.cpus line lines, counted shape (first + line_length shape.cpus line) lines events h.2)

count_is : (shape : Shape) (script : Script) → IsLawful shape script → count shape.cpus script.lines ≡ script.events
count_is shape script h = omega (arith, counted shape 0 script.lines script.events h.lines)

pub count_on : (cpus : ℕ) (script : Script) → IsScriptFor cpus script → count cpus script.lines ≡ script.events
count_on cpus script h = ap (λ n. count n script.lines) (sym h.processors) ∙ count_is h.shape script h.lawful

pub all_counted : (shape : Shape) (script : Script) → IsLawful shape script → length (events_of shape.cpus script) ≡ script.events
unfolding events_of
all_counted shape script h = count_is shape script h

in_order_from : (shape : Shape) (first : ℕ) (lines : List ScriptLine) (events : ℕ) → AreLawful shape first lines events
    → (i : ℕ) (d : ScriptLine) → i < length lines → (get_or lines i d).first ≡ first + count shape.cpus (take i lines)
in_order_from shape first [] events h i d k = absurd (omega arith)
in_order_from shape first (line ∷ lines) events h zero d k = omega (arith, h.1)
in_order_from shape first (line ∷ lines) events h (suc i) d k =
    let within : i < length lines = omega arith in
    omega (arith, count-cons shape.cpus line (take i lines), in_order_from shape (first + line_length shape.cpus line) lines events h.2 i d within)

in_order : (shape : Shape) (script : Script) → IsLawful shape script → AreInOrder shape.cpus script.lines
in_order shape script h i d k = omega (arith, in_order_from shape 0 script.lines script.events h.lines i d k)

pub in_order_on : (cpus : ℕ) (script : Script) → IsScriptFor cpus script → AreInOrder cpus script.lines
in_order_on cpus script h = subst (λ n. AreInOrder n script.lines) h.processors (in_order h.shape script h.lawful)

count-more : (cpus : ℕ) (lines : List ScriptLine) (i : ℕ) (d : ScriptLine) → i < length lines → count cpus (take (i + 1) lines) ≡ count cpus (take i lines) + line_length cpus (get_or lines i d)
count-more cpus lines i d h =
    ap (count cpus) (take_more lines i d h)
    ∙ ap length (flat_map-append (events_of_line cpus) (take i lines) (get_or lines i d ∷ []))
    ∙ omega (arith, length-append (flat_map (events_of_line cpus) (take i lines)) (flat_map (events_of_line cpus) (get_or lines i d ∷ [])), count-cons cpus (get_or lines i d) [])

pub if_there : {A : Type 0} (P : A → Type 0) (xs : List A) (i : ℕ) (d : A) → i < length xs → IfSome (slice_get xs i) P → P (get_or xs i d)
if_there P xs i d h p = rw (slice_get-get_or xs i d h) at p

-- the line has the number, where the next one begins behind it
ends_behind : (cpus : ℕ) (lines : List ScriptLine) (i number : ℕ) → AreInOrder cpus lines → IfSome (slice_get lines (i + 1)) (λ line. number < line.first) → number < count cpus lines
    → number < count cpus (take (i + 1) lines)
ends_behind cpus lines i number order to inside =
    elim (slice_get_cases lines (i + 1)).1 [
      | inl there ↦ (
          let next : number < (get_or lines (i + 1) there.0).first = if_there (λ line. number < line.first) lines (i + 1) there.0 there.1 to in
          omega (arith, order (i + 1) there.0 there.1))
      | inr past ↦ subst (λ all. number < count cpus all) (sym (take_all (i + 1) lines past.0)) inside
    ]

pub has_it : (cpus : ℕ) (lines : List ScriptLine) (i number : ℕ) (d : ScriptLine) → AreInOrder cpus lines → i < length lines → IfSome (slice_get lines (i + 1)) (λ line. number < line.first)
    → number < count cpus lines → number < (get_or lines i d).first + line_length cpus (get_or lines i d)
has_it cpus lines i number d order h to inside = omega (arith, order i d h, count-more cpus lines i d h, ends_behind cpus lines i number order to inside)

-- the event of a number is that of the line that has it
pub found : (cpus : ℕ) (lines : List ScriptLine) (i number : ℕ) (d : ScriptLine) (event : Event) → AreInOrder cpus lines → i < length lines → (get_or lines i d).first ≤ number
    → number < count cpus lines → slice_get (events_of_line cpus (get_or lines i d)) (number - (get_or lines i d).first) ≡ Some event
    → Some event ≡ slice_get (flat_map (events_of_line cpus) lines) number
found cpus lines i number d event order h from inside there =
    let line : ScriptLine = get_or lines i d in
    let j : ℕ = number - (get_or lines i d).first in
    let place : count cpus (take i lines) + j ≡ number = omega (arith, order i d h) in
    let here : j < length (events_of_line cpus line) = slice_get_within (events_of_line cpus line) j event there in
    sym (
    slice_get-get_or (flat_map (events_of_line cpus) lines) number event inside
    ∙ ap (λ n. Some (get_or (flat_map (events_of_line cpus) lines) n event)) (sym place)
    ∙ ap (λ e. Some e) (get_or-flat_map (events_of_line cpus) lines i j d event h here)
    ∙ sym (slice_get-get_or (events_of_line cpus line) j event here)
    ∙ there)

-- lines that are lawful from two numbers on to one end begin at one number
one_begin : (shape other : Shape) (first from : ℕ) (lines : List ScriptLine) (events : ℕ) → AreLawful shape first lines events → AreLawful other from lines events → first ≡ from
one_begin shape other first from [] events h k = sym h ∙ k
one_begin shape other first from (line ∷ lines) events h k = sym h.1 ∙ k.1

-- lines that are lawful for two images have the same events for both
same_events : (shape other : Shape) (first from : ℕ) (lines : List ScriptLine) (events : ℕ) → AreLawful shape first lines events → AreLawful other from lines events
    → flat_map (events_of_line shape.cpus) lines ≡ flat_map (events_of_line other.cpus) lines
same_events shape other first from [] events h k = refl
same_events shape other first from (line ∷ lines) events h k =
    let begin : first ≡ from = sym h.1 ∙ k.1 in
    let next : first + line_length shape.cpus line ≡ from + line_length other.cpus line = one_begin shape other (first + line_length shape.cpus line) (from + line_length other.cpus line) lines events h.2 k.2 in
    let long : line_length shape.cpus line ≡ line_length other.cpus line = omega (arith, begin, next) in
    ap (λ front. front ++ flat_map (events_of_line shape.cpus) lines) (same_line shape.cpus other.cpus line h.0.some long)
    ∙ ap (λ rest. events_of_line other.cpus line ++ rest) (same_events shape other (first + line_length shape.cpus line) (from + line_length other.cpus line) lines events h.2 k.2)

all_named : (shape : Shape) (first : ℕ) (lines : List ScriptLine) (events : ℕ) → AreLawful shape first lines events → All (IsNamed shape) (flat_map (events_of_line shape.cpus) lines)
all_named shape first [] events h = All-nil (IsNamed shape)
all_named shape first (line ∷ lines) events h =
    All-append (IsNamed shape) (events_of_line shape.cpus line) (flat_map (events_of_line shape.cpus) lines) (named_line shape line h.0) (all_named shape (first + line_length shape.cpus line) lines events h.2)

if_some : {A : Type 0} (P : A → Type 0) (xs : List A) (i : ℕ) (o : Option A) → All P xs → o ≡ slice_get xs i → IfSome o P
if_some P xs i None h e = tt
if_some P xs i (Some x) h e =
    let there : slice_get xs i ≡ Some x = sym e in
    subst P (get_or_from_slice_get xs i x x there) (h i x (slice_get_within xs i x there))

-- each event names what is there, in each image for which the script is lawful
pub named : (shape : Shape) (cpus : ℕ) (script : Script) (number : ℕ) (o : Option Event) → IsLawful shape script → IsScriptFor cpus script
    → o ≡ slice_get (flat_map (events_of_line cpus) script.lines) number → IfSome o (IsNamed shape)
named shape cpus script number o h k e =
    let same : flat_map (events_of_line shape.cpus) script.lines ≡ flat_map (events_of_line cpus) script.lines =
    same_events shape k.shape 0 0 script.lines script.events h.lines k.lawful.lines ∙ ap (λ n. flat_map (events_of_line n) script.lines) k.processors in
    if_some (IsNamed shape) (flat_map (events_of_line shape.cpus) script.lines) number o (all_named shape 0 script.lines script.events h.lines)
    (e ∙ ap (λ (events : List Event). slice_get events number) (sym same))
