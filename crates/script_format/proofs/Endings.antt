-- Lines, seen from their end.
use Rattle.std.proofs.Common.{◌≡◌, ℕ, ◌==◌, ◌≤◌, ◌+◌, ◌∙◌, List, [], ◌∷◌, ◌++◌, length, drop, map, refl, sym, ap, arith, Bor}
use Rattle.std.specs.List.{slice_split}
use Rattle.std.proofs.lemmas.List.Splits.{length-slice_split}
use Rattle.std.proofs.lemmas.List.{append-nil, drop_all, length-map, map-append}
use Rattle.std.proofs.lemmas.List.Sums.{count_by-le-length}
use Rattle.std.proofs.lemmas.Bool.{ne_eqb}
use Rattle.svm_model.specs.Formats.ScriptWords.{lines_in, lines_of, without_return}

pub with_return : (front : List ℕ) (a : ℕ) → a ≡ 13 → without_return (front ++ a ∷ []) ≡ front
with_return [] a h = rw h refl
with_return (x ∷ []) a h = rw h refl
with_return (x ∷ y ∷ front) a h = ap (λ bytes. x ∷ bytes) (with_return (y ∷ front) a h)

pub with_no_return : (front : List ℕ) (a : ℕ) → (a ≡ 13 → ⊥) → without_return (front ++ a ∷ []) ≡ front ++ a ∷ []
with_no_return [] a h = rw (ne_eqb a 13 h) refl
with_no_return (x ∷ []) a h = rw (ne_eqb a 13 h) refl
with_no_return (x ∷ y ∷ front) a h = ap (λ bytes. x ∷ bytes) (with_no_return (y ∷ front) a h)

lines_in_last : (pieces : List (List ℕ)) (last : List ℕ) → lines_in (pieces ++ last ∷ []) ≡ map without_return pieces ++ last ∷ []
lines_in_last [] last = refl
lines_in_last (x ∷ []) last = refl
lines_in_last (x ∷ y ∷ pieces) last = ap (λ lines. without_return x ∷ lines) (lines_in_last (y ∷ pieces) last)

length_lines_in : (pieces : List (List ℕ)) → length (lines_in pieces) ≡ length pieces
length_lines_in [] = refl
length_lines_in (x ∷ []) = refl
length_lines_in (x ∷ y ∷ pieces) = omega (arith, length_lines_in (y ∷ pieces))

-- there is at most one more line than there are bytes
pub few_lines : (lines : List (Bor (List ℕ))) (bytes : List ℕ) → map (λ l. l.now) lines ≡ lines_of bytes → length lines ≤ length bytes + 1
few_lines lines bytes h =
    let pieces : List (List ℕ) = slice_split (λ b. b == 10) bytes in
    let same : length lines ≡ length pieces = sym (length-map lines (λ l. l.now)) ∙ ap length h ∙ length_lines_in pieces in
    omega (arith, same, length-slice_split (λ b. b == 10) bytes, count_by-le-length (λ b. b == 10) bytes)

-- the last line stands behind those that ended
pub closes : (lines ended pieces : List (Bor (List ℕ))) (last : Bor (List ℕ)) (i : ℕ) → length ended ≤ i → pieces ≡ ended ++ last ∷ []
    → map (λ l. l.now) lines ++ map without_return (map (λ p. p.now) (drop i ended)) ≡ map without_return (map (λ p. p.now) ended)
    → map (λ l. l.now) (lines ++ last ∷ []) ≡ lines_in (map (λ p. p.now) pieces)
closes lines ended pieces last i past whole so_far =
    let done : map (λ l. l.now) lines ≡ map without_return (map (λ p. p.now) ended) =
    sym (append-nil (map (λ l. l.now) lines))
    ∙ ap (λ rest. map (λ l. l.now) lines ++ map without_return (map (λ p. p.now) rest)) (sym (drop_all i ended past))
    ∙ so_far in
    map-append (λ l. l.now) lines (last ∷ [])
    ∙ ap (λ front. front ++ last.now ∷ []) done
    ∙ sym (lines_in_last (map (λ p. p.now) ended) last.now)
    ∙ ap lines_in (sym (map-append (λ p. p.now) ended (last ∷ [])) ∙ ap (map (λ p. p.now)) (sym whole))
