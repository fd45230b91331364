-- The lines of changed bytes, one place after another.
use Rattle.std.proofs.Common.{◌≡◌, ◌≢◌, ◌∙◌, ℕ, ◌+◌, ◌<◌, ◌≤◌, ◌==◌, Bool, false, cond, List, [], ◌∷◌, ◌++◌, length, drop, get_or, ap, sym, refl, arith, append_assoc}
use Rattle.std.proofs.lemmas.Bool.{eq-eqb, eqb-true}
use Rattle.std.proofs.lemmas.List.{drop_all, drop_more}
use Rattle.svm_model.specs.Formats.Trace.{changed_lines, stretch_line}

-- two lists that begin with a byte each
first : (guest at was byte : ℕ) (stretch old new : List ℕ) → changed_lines guest at stretch (was ∷ old) (byte ∷ new)
    ≡ cond (was == byte) (stretch_line guest at stretch ++ changed_lines guest (at + 1) [] old new) (changed_lines guest (at + 1) (stretch ++ byte ∷ []) old new)
unfolding changed_lines
first guest at was byte stretch old new = refl

-- the lines from a place on
abbrev pub from_place : ℕ → ℕ → ℕ → List ℕ → List ℕ → List ℕ → List ℕ
from_place guest address n stretch old new = changed_lines guest (address + n) stretch (drop n old) (drop n new)

step : (guest address n : ℕ) (stretch old new : List ℕ) → n < length old → n < length new → from_place guest address n stretch old new
    ≡ cond (get_or old n 0 == get_or new n 0) (stretch_line guest (address + n) stretch ++ from_place guest address (n + 1) [] old new) (from_place guest address (n + 1) (stretch ++ get_or new n 0 ∷ []) old new)
step guest address n stretch old new h k =
    let was : ℕ = get_or old n 0 in
    let byte : ℕ = get_or new n 0 in
    let next : address + n + 1 ≡ address + (n + 1) = omega arith in
    ap (λ (l : List ℕ). changed_lines guest (address + n) stretch l (drop n new)) (drop_more old n 0 h)
    ∙ ap (λ (l : List ℕ). changed_lines guest (address + n) stretch (was ∷ drop (n + 1) old) l) (drop_more new n 0 k)
    ∙ first guest (address + n) was byte stretch (drop (n + 1) old) (drop (n + 1) new)
    ∙ ap (λ (at : ℕ). cond (was == byte) (stretch_line guest (address + n) stretch ++ changed_lines guest at [] (drop (n + 1) old) (drop (n + 1) new)) (changed_lines guest at (stretch ++ byte ∷ []) (drop (n + 1) old) (drop (n + 1) new))) next

differs : (a b : ℕ) → a ≢ b → (a == b) ≡ false
differs a b h = grind (arith, eqb-true)

-- a byte that changed goes on with the stretch
pub from_changed : (guest address n : ℕ) (stretch longer old new : List ℕ) → n < length old → n < length new → get_or old n 0 ≢ get_or new n 0 → longer ≡ stretch ++ get_or new n 0 ∷ []
    → from_place guest address (n + 1) longer old new ≡ from_place guest address n stretch old new
from_changed guest address n stretch longer old new h k differ e =
    let ended : List ℕ = stretch_line guest (address + n) stretch ++ from_place guest address (n + 1) [] old new in
    let grown : List ℕ = stretch ++ get_or new n 0 ∷ [] in
    ap (λ (l : List ℕ). from_place guest address (n + 1) l old new) e
    ∙ sym (step guest address n stretch old new h k ∙ ap (λ (b : Bool). cond b ended (from_place guest address (n + 1) grown old new)) (differs (get_or old n 0) (get_or new n 0) differ))

-- one that stayed ends it
pub from_stayed : (guest address n : ℕ) (text line stretch none old new : List ℕ) → n < length old → n < length new → get_or old n 0 ≡ get_or new n 0 → none ≡ [] → line ≡ text ++ stretch_line guest (address + n) stretch
    → line ++ from_place guest address (n + 1) none old new ≡ text ++ from_place guest address n stretch old new
from_stayed guest address n text line stretch none old new h k same e f =
    let ended : List ℕ = stretch_line guest (address + n) stretch in
    let rest : List ℕ = from_place guest address (n + 1) [] old new in
    let longer : List ℕ = from_place guest address (n + 1) (stretch ++ get_or new n 0 ∷ []) old new in
    ap (λ (l : List ℕ). line ++ from_place guest address (n + 1) l old new) e
    ∙ ap (λ (l : List ℕ). l ++ rest) f
    ∙ append_assoc text ended rest
    ∙ ap (λ (l : List ℕ). text ++ l) (sym (step guest address n stretch old new h k ∙ ap (λ (b : Bool). cond b (ended ++ rest) longer) (eq-eqb (get_or old n 0) (get_or new n 0) same)))

-- and where there is none, nothing comes of it
pub from_equal : (guest address n : ℕ) (text stretch old new : List ℕ) → n < length old → n < length new → get_or old n 0 ≡ get_or new n 0 → stretch ≡ []
    → text ++ from_place guest address (n + 1) stretch old new ≡ text ++ from_place guest address n stretch old new
from_equal guest address n text stretch old new h k same e =
    let rest : List ℕ = from_place guest address (n + 1) [] old new in
    let longer : List ℕ = from_place guest address (n + 1) (get_or new n 0 ∷ []) old new in
    ap (λ (l : List ℕ). text ++ from_place guest address (n + 1) l old new) e
    ∙ ap (λ (l : List ℕ). text ++ l) (sym (step guest address n [] old new h k ∙ ap (λ (b : Bool). cond b rest longer) (eq-eqb (get_or old n 0) (get_or new n 0) same)))
    ∙ ap (λ (l : List ℕ). text ++ from_place guest address n l old new) (sym e)

-- where nothing is left, the stretch so far ends
none_left : (guest at : ℕ) (stretch new : List ℕ) → changed_lines guest at stretch [] new ≡ stretch_line guest at stretch
unfolding changed_lines
none_left guest at stretch new = refl

pub from_end : (guest address n : ℕ) (stretch old new : List ℕ) → length old ≤ n → from_place guest address n stretch old new ≡ stretch_line guest (address + n) stretch
from_end guest address n stretch old new h =
    ap (λ (l : List ℕ). changed_lines guest (address + n) stretch l (drop n new)) (drop_all n old h) ∙ none_left guest (address + n) stretch (drop n new)
