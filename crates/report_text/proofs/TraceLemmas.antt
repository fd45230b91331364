-- What a traced run needs of changed pages: equal ones have no line, and a copy that takes over one page after another.
use Rattle.std.proofs.Common.{◌≡◌, ◌∙◌, ℕ, ◌+◌, ◌*◌, ◌≤◌, ◌==◌, true, cond, List, [], ◌∷◌, ◌++◌, length, take, drop, ap, sym, refl, arith, append_assoc, length-drop}
use Rattle.std.proofs.Math.Seq.{take-add}
use Rattle.std.proofs.lemmas.Bool.{eq-eqb}
use Rattle.std.proofs.lemmas.List.{take_at, drop_at, drop-drop, take-append-drop, length-take-le}
use Rattle.svm_model.specs.Formats.Trace.{changed_lines}
use Rattle.svm_model.specs.Memory.Bytes.{page_at, put_at}

equal : (n : ℕ) → (n == n) ≡ true
equal n = eq-eqb n n refl

-- bytes that stayed have no line
pub changed_lines-same : (guest at : ℕ) (page : List ℕ) → changed_lines guest at [] page page ≡ []
unfolding changed_lines
changed_lines-same guest at [] = refl
changed_lines-same guest at (byte ∷ page) =
    ap (λ b. cond b (changed_lines guest (at + 1) [] page page) (changed_lines guest (at + 1) (byte ∷ []) page page)) (equal byte)
    ∙ changed_lines-same guest (at + 1) page

-- What is new up to a place, and old from there on.

front : (at : ℕ) (new old : List ℕ) → at ≤ length new → take at (take at new ++ drop at old) ≡ take at new
front at new old h = take_at (take at new) (drop at old) at (length-take-le at new h)

rest : (at : ℕ) (new old : List ℕ) → at ≤ length new → drop at (take at new ++ drop at old) ≡ drop at old
rest at new old h = drop_at (take at new) (drop at old) at (length-take-le at new h)

wide : (at w : ℕ) (xs : List ℕ) → at + w ≤ length xs → length (take w (drop at xs)) ≡ w
wide at w xs h = length-take-le w (drop at xs) (omega (arith, length-drop at xs))

put : (at w : ℕ) (new old : List ℕ) → at + w ≤ length new → put_at (take at new ++ drop at old) at (take w (drop at new)) ≡ take (at + w) new ++ drop (at + w) old
put at w new old h =
    let low : at ≤ length new = omega (arith, h) in
    let merged : List ℕ = take at new ++ drop at old in
    let part : List ℕ = take w (drop at new) in
    ap (λ (l : List ℕ). (l ++ part) ++ drop (at + length part) merged) (front at new old low)
    ∙ ap (λ (l : List ℕ). l ++ drop (at + length part) merged) (sym (take-add at w new))
    ∙ ap (λ (n : ℕ). take (at + w) new ++ drop (at + n) merged) (wide at w new h)
    ∙ ap (λ (l : List ℕ). take (at + w) new ++ l) (sym (drop-drop w at merged) ∙ ap (drop w) (rest at new old low) ∙ drop-drop w at old)

same : (at w : ℕ) (new old : List ℕ) → take w (drop at new) ≡ take w (drop at old) → take (at + w) new ++ drop (at + w) old ≡ take at new ++ drop at old
same at w new old e =
    ap (λ (l : List ℕ). l ++ drop (at + w) old) (take-add at w new ∙ ap (λ (l : List ℕ). take at new ++ l) e)
    ∙ append_assoc (take at new) (take w (drop at old)) (drop (at + w) old)
    ∙ ap (λ (l : List ℕ). take at new ++ (take w (drop at old) ++ l)) (sym (drop-drop w at old))
    ∙ ap (λ (l : List ℕ). take at new ++ l) (take-append-drop w (drop at old))

page_end : (p : ℕ) → 4096 * p + 4096 ≡ 4096 * (p + 1)
page_end p = omega arith

-- a page that was not taken over yet is old
pub page-merge : (p : ℕ) (new old : List ℕ) → length new ≡ length old → 4096 * p + 4096 ≤ length old → page_at (take (4096 * p) new ++ drop (4096 * p) old) p ≡ page_at old p
page-merge p new old e h = ap (take 4096) (rest (4096 * p) new old (omega (arith, e, h)))

-- it is taken over by putting its new bytes
pub merge-put : (p : ℕ) (new old : List ℕ) → length new ≡ length old → 4096 * p + 4096 ≤ length old
    → put_at (take (4096 * p) new ++ drop (4096 * p) old) (4096 * p) (page_at new p) ≡ take (4096 * (p + 1)) new ++ drop (4096 * (p + 1)) old
merge-put p new old e h =
    put (4096 * p) 4096 new old (omega (arith, e, h)) ∙ ap (λ (n : ℕ). take n new ++ drop n old) (page_end p)

-- one that stayed needs nothing
pub merge-same : (p : ℕ) (new old : List ℕ) → page_at new p ≡ page_at old p → take (4096 * (p + 1)) new ++ drop (4096 * (p + 1)) old ≡ take (4096 * p) new ++ drop (4096 * p) old
merge-same p new old e =
    ap (λ (n : ℕ). take n new ++ drop n old) (sym (page_end p)) ∙ same (4096 * p) 4096 new old e
