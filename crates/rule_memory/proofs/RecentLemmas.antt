-- An access that was told last at its page changes nothing.
use Rattle.std.proofs.Common.{true≢false, ◌≡◌, ◌⊎◌, inl, inr, ℕ, zero, suc, ◌==◌, Bool, true, false, not, ◌&&◌, ◌||◌, List, [], ◌∷◌, ◌++◌, arith, sym, refl, ap, ◌∙◌, subst, Option, Some, None, if◌then◌else◌, slice_index_or, slice_set, replicate}
use Rattle.std.specs.List.{fold, list_all, list_any}
use Rattle.svm_model.specs.Audit.Records.{agrees, differs, exceeds, is_stale, permits, stale_with}
use Rattle.svm_model.specs.Audit.WatchCalls.{joined, making_of}
use Rattle.svm_model.specs.Audit.Makings.{Making}
use Rattle.svm_model.specs.declared.audits.Made.{Made}
use Rattle.svm_model.specs.declared.audits.Outcome.{Outcome}
use Rattle.svm_model.specs.declared.audits.Outcome.TheVariants.{Frame as InFrame, Fault, End}
use Rattle.svm_model.specs.declared.page_tables.Leaf.{Leaf}
use Rattle.svm_model.specs.declared.audits.Breach.{Breach}
use Rattle.rule_memory.specs.Kept.{Translations, kept_at}
use Rattle.rule_memory.specs.Leaves.{added_option, same_leaf}
use Rattle.rule_memory.specs.Places.{place_of, same_place}
use Rattle.rule_memory.specs.Recents.{AreSettled, agrees_with, is_known, is_same_found, known_by, recent_of, settled, slot_of}
use Rattle.rule_memory.specs.declared.places.Place.{Place}
use Rattle.rule_memory.specs.declared.recent.Recent.{Recent}
use Rattle.rule_memory.proofs.LeafLemmas.{both, leaf_from_same, same_numbers}
use Rattle.rule_memory.proofs.StandLemmas.{place_from_same}

-- A list with one element replaced.
abbrev pub SetCases : List (Option Recent) → ℕ → ℕ → Option Recent → Recent → Type 0
SetCases xs i j a x = ((i ≡ j) × (a ≡ Some x)) ⊎ ((i ≡ j → ⊥) × (slice_index_or xs j None ≡ Some x))

set_cases : (xs : List (Option Recent)) (i j : ℕ) (a : Option Recent) (x : Recent) → slice_index_or (slice_set xs i a) j None ≡ Some x → SetCases xs i j a x
set_cases [] i j a x e = grind (arith, e)
set_cases (y ∷ xs) zero zero a x e = inl (refl, e)
set_cases (y ∷ xs) zero (suc j) a x e = inr (λ h. omega (arith, h), e)
set_cases (y ∷ xs) (suc i) zero a x e = inr (λ h. omega (arith, h), e)
set_cases (y ∷ xs) (suc i) (suc j) a x e =
    elim (set_cases xs i j a x e) [ inl h ↦ inl (ap suc h.0, h.1) | inr h ↦ inr (λ k. h.0 (omega (arith, k)), h.1) ]

-- An access that is known.

pub record IsKnownAt (translations : Translations) (made : Made) : Type 0 where
  pub leaf : Leaf
  pub found : made.leaf ≡ Some leaf
  pub calm : agrees leaf made.outcome ≡ true
  pub settles : settled (place_of made) leaf (kept_at translations (place_of made)) ≡ true

found_is : (leaf : Leaf) (found : Option Leaf) → is_same_found leaf found ≡ true → found ≡ Some leaf
found_is leaf None e = grind (arith, e)
found_is leaf (Some l) e = ap Some (sym (leaf_from_same leaf l e))

known_cases : (translations : Translations) (recent : List (Option Recent)) (made : Made) (o : Option Recent) → AreSettled translations recent
    → slice_index_or recent (slot_of (place_of made)) None ≡ o → known_by o made ≡ true → IsKnownAt translations made
known_cases translations recent made None h e k = absurd (true≢false (sym k))
known_cases translations recent made (Some last) h e k =
    let outer = both (same_place last.place (place_of made) && is_same_found last.leaf made.leaf) (agrees last.leaf made.outcome) k in
    let inner = both (same_place last.place (place_of made)) (is_same_found last.leaf made.leaf) outer.0 in
    record {
      leaf = last.leaf;
      found = found_is last.leaf made.leaf inner.1;
      calm = outer.1;
      settles = subst (λ p. settled p last.leaf (kept_at translations p) ≡ true) (place_from_same last.place (place_of made) inner.0) (h (slot_of (place_of made)) last e).1;
    }

pub known_at : (translations : Translations) (recent : List (Option Recent)) (made : Made) → AreSettled translations recent → is_known recent made ≡ true → IsKnownAt translations made
known_at translations recent made h k = known_cases translations recent made (slice_index_or recent (slot_of (place_of made)) None) h refl k

-- a leaf that agrees with the one that was found is not stale
outcome_agrees : (kept leaf : Leaf) (outcome : Outcome) → agrees leaf outcome ≡ true → kept.frame.0 ≡ leaf.frame.0 → agrees kept outcome ≡ true
outcome_agrees kept leaf (InFrame frame changed) e same = ap (λ n. (n == frame.0) && not changed) same ∙ e
outcome_agrees kept leaf (Fault code) e same = grind (arith, e)
outcome_agrees kept leaf End e same = grind (arith, e)

not_false : (b : Bool) → not b ≡ true → b ≡ false
not_false true e = grind (arith, e)
not_false false e = refl

not_stale : (p a n s x : Bool) → a ≡ true → s ≡ true → (n && x) ≡ false → ((p && not a) || (n && (not s || x))) ≡ false
not_stale true a n s x e k h = rw e (rw k h)
not_stale false a n s x e k h = rw k h

stale_none : (m : Making) (leaf kept : Leaf) → m.leaf ≡ Some leaf → agrees leaf m.outcome ≡ true → agrees_with m.nested leaf kept ≡ true → is_stale m kept ≡ false
stale_none m leaf kept found calm agreed =
    let p = both (kept.frame.0 == leaf.frame.0) (not (m.nested && exceeds kept leaf)) agreed in
    let frames = same_numbers kept.frame.0 leaf.frame.0 p.0 in
    ap (λ o. (permits kept m && not (agrees kept m.outcome)) || (m.nested && differs kept o)) found
    ∙ not_stale (permits kept m) (agrees kept m.outcome) m.nested (kept.frame.0 == leaf.frame.0) (exceeds kept leaf) (outcome_agrees kept leaf m.outcome calm frames) p.0
    (not_false (m.nested && exceeds kept leaf) p.1)

pub fold_none : (m : Making) (leaf : Leaf) (leaves : List Leaf) → m.leaf ≡ Some leaf → agrees leaf m.outcome ≡ true → list_all (agrees_with m.nested leaf) leaves ≡ true
    → fold (λ older newer. stale_with m newer older) None leaves ≡ None
fold_none m leaf [] found calm all = refl
fold_none m leaf (kept ∷ leaves) found calm all =
    let p = both (agrees_with m.nested leaf kept) (list_all (agrees_with m.nested leaf) leaves) all in
    ap (λ o. fold (λ older newer. stale_with m newer older) o leaves) (calm_step kept (stale_none m leaf kept found calm p.0)) ∙ fold_none m leaf leaves found calm p.1 where
      calm_step : (k : Leaf) → is_stale m k ≡ false → stale_with m k None ≡ None
      calm_step k e = rw e refl

-- nothing is stale, and nothing is added
pub known_stale : (translations : Translations) (made : Made) → IsKnownAt translations made → fold (λ older newer. stale_with (making_of made) newer older) None (kept_at translations (place_of made)) ≡ None
known_stale translations made k =
    let p = both (list_any (same_leaf k.leaf) (kept_at translations (place_of made))) (list_all (agrees_with made.nested k.leaf) (kept_at translations (place_of made))) k.settles in
    fold_none (making_of made) k.leaf (kept_at translations (place_of made)) k.found k.calm p.1

known_added : (translations : Translations) (made : Made) → IsKnownAt translations made → added_option made.leaf (kept_at translations (place_of made)) ≡ kept_at translations (place_of made)
known_added translations made k =
    let leaves = kept_at translations (place_of made) in
    let p = both (list_any (same_leaf k.leaf) leaves) (list_all (agrees_with made.nested k.leaf) leaves) k.settles in
    ap (λ o. added_option o leaves) k.found ∙ ap (λ b. if b then leaves else leaves ++ k.leaf ∷ []) p.0

known_same_by : (translations : Translations) (made : Made) (p : Place) (b : Bool) → IsKnownAt translations made → same_place p (place_of made) ≡ b
    → kept_at translations p ≡ (if b then added_option made.leaf (kept_at translations (place_of made)) else kept_at translations p)
known_same_by translations made p true k e = ap (kept_at translations) (place_from_same p (place_of made) e) ∙ sym (known_added translations made k)
known_same_by translations made p false k e = refl

pub known_same : (translations : Translations) (made : Made) → IsKnownAt translations made → (p : Place)
    → kept_at translations p ≡ (if same_place p (place_of made) then added_option made.leaf (kept_at translations (place_of made)) else kept_at translations p)
known_same translations made k p = known_same_by translations made p (same_place p (place_of made)) k refl

pub joined_none : (first : Option Breach) → joined first None ≡ first
joined_none None = refl
joined_none (Some b) = refl

-- An access that is kept as the one told last.

or_else : Recent → Option Recent → Recent
or_else a None = a
or_else a (Some b) = b

some_is : (a b : Recent) → Some a ≡ Some b → a ≡ b
unfolding or_else
some_is a b h = ap (or_else a) h

recent_is : (place : Place) (found : Option Leaf) (leaves : List Leaf) (last : Recent) → recent_of place found leaves ≡ Some last → (last.place ≡ place) × (settled place last.leaf leaves ≡ true)
recent_is place None leaves last e = grind (arith, e)
recent_is place (Some leaf) leaves last e = by (settled place leaf leaves) refl e where
  by : (b : Bool) → settled place leaf leaves ≡ b → (if b then Some (record { place = place; leaf = leaf }) else None) ≡ Some last → (last.place ≡ place) × (settled place last.leaf leaves ≡ true)
  by true s k =
      let same = some_is (record { place = place; leaf = leaf }) last k in
      (sym (ap (λ (r : Recent). r.place) same), subst (λ (r : Recent). settled place r.leaf leaves ≡ true) same s)
  by false s k = grind (arith, k)

module _ (old new : Translations) (recent : List (Option Recent)) (place : Place) (found : Option Leaf) (h : AreSettled old recent)
    (now : (p : Place) → kept_at new p ≡ (if same_place p place then added_option found (kept_at old place) else kept_at old p)) where
  elsewhere : (slot : ℕ) (last : Recent) (b : Bool) → same_place last.place place ≡ b → (slot_of place ≡ slot → ⊥) → slice_index_or recent slot None ≡ Some last
      → (slot ≡ slot_of last.place) × (settled last.place last.leaf (kept_at new last.place) ≡ true)
  elsewhere slot last true same apart e = absurd (apart (ap slot_of (sym (place_from_same last.place place same)) ∙ sym (h slot last e).0))
  elsewhere slot last false same apart e =
      ((h slot last e).0, ap (settled last.place last.leaf) (now last.place ∙ ap (λ b. if b then added_option found (kept_at old place) else kept_at old last.place) same) ∙ (h slot last e).1)

  replaced : (slot : ℕ) (last : Recent) → slot_of place ≡ slot → recent_of place found (kept_at new place) ≡ Some last
      → (slot ≡ slot_of last.place) × (settled last.place last.leaf (kept_at new last.place) ≡ true)
  replaced slot last same e =
      let r = recent_is place found (kept_at new place) last e in
      (sym same ∙ ap slot_of (sym r.0), subst (λ p. settled p last.leaf (kept_at new p) ≡ true) (sym r.0) r.1)

  by_case : (slot : ℕ) (last : Recent) → SetCases recent (slot_of place) slot (recent_of place found (kept_at new place)) last
      → (slot ≡ slot_of last.place) × (settled last.place last.leaf (kept_at new last.place) ≡ true)
  by_case slot last (inl k) = replaced slot last k.0 k.1
  by_case slot last (inr k) = elsewhere slot last (same_place last.place place) refl k.0 k.1

  pub kept_settled : AreSettled new (slice_set recent (slot_of place) (recent_of place found (kept_at new place)))
  kept_settled slot last e = by_case slot last (set_cases recent (slot_of place) slot (recent_of place found (kept_at new place)) last e)

-- none is kept
none_there : (n slot : ℕ) (last : Recent) → slice_index_or (replicate n None) slot None ≡ Some last → ⊥
none_there zero slot last e = grind (arith, e)
none_there (suc n) zero last e = grind (arith, e)
none_there (suc n) (suc slot) last e = none_there n slot last e

pub none_settled : (translations : Translations) (n : ℕ) → AreSettled translations (replicate n None)
none_settled translations n slot last e = absurd (none_there n slot last e)
