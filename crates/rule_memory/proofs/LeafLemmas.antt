-- The leaves of a place stand for its records: the same one is stale, and a flush drops the same.
use Rattle.std.proofs.Common.{◌≡◌, ℕ, ◌==◌, nat_lt, ◌≤◌, Bool, true, false, not, ◌&&◌, ◌||◌, List, [], ◌∷◌, ◌++◌, filter, append-nil, arith, sym, refl, ap, ◌∙◌, subst, Option, Some, None, if◌then◌else◌}
use Rattle.std.specs.Bool.{beq}
use Rattle.std.proofs.lemmas.List.Sums.{fold-append}
use Rattle.std.proofs.lemmas.List.Elements.{filter-append}
use Rattle.std.specs.List.{list_any, fold}
use Rattle.svm_model.specs.Audit.Records.{covers, dropped, is_same_page, is_stale, preferred, stale_leaf, stale_with}
use Rattle.svm_model.specs.Audit.Makings.{Making}
use Rattle.svm_model.specs.declared.system.Flush.{Flush}
use Rattle.svm_model.specs.declared.page_tables.Leaf.{Leaf}
use Rattle.svm_model.specs.declared.page_tables.PageSize.{PageSize}
use Rattle.svm_model.specs.declared.page_tables.PageSize.TheVariants.{Small, Large, Huge}
use Rattle.svm_model.specs.declared.audits.Remembered.{Remembered}
use Rattle.rule_memory.specs.Kept.{record_at}
use Rattle.rule_memory.specs.Leaves.{added, is_at, leaves_at, same_leaf, size_number}
use Rattle.rule_memory.specs.declared.places.Place.{Place}

-- Leaves that are the same are equal.
pub both : (a b : Bool) → (a && b) ≡ true → (a ≡ true) × (b ≡ true)
both true b e = (refl, e)
both false b e = grind (arith, e)

pub same_bools : (a b : Bool) → beq a b ≡ true → a ≡ b
same_bools true true e = refl
same_bools false false e = refl
same_bools true false e = grind (arith, e)
same_bools false true e = grind (arith, e)

pub same_numbers : (a b : ℕ) → (a == b) ≡ true → a ≡ b
same_numbers a b e = grind (arith, e)

same_sizes : (a b : PageSize) → (size_number a == size_number b) ≡ true → a ≡ b
same_sizes Small Small e = refl
same_sizes Large Large e = refl
same_sizes Huge Huge e = refl
same_sizes Small Large e = grind (arith, e)
same_sizes Small Huge e = grind (arith, e)
same_sizes Large Small e = grind (arith, e)
same_sizes Large Huge e = grind (arith, e)
same_sizes Huge Small e = grind (arith, e)
same_sizes Huge Large e = grind (arith, e)

pub leaf_from_same : (a b : Leaf) → same_leaf a b ≡ true → a ≡ b
leaf_from_same a b e =
    let g = both _ (beq a.dirty b.dirty) e in
    let f = both _ (beq a.executable b.executable) g.0 in
    let h = both _ (beq a.user b.user) f.0 in
    let w = both _ (beq a.writable b.writable) h.0 in
    let l = both _ (beq a.global b.global) w.0 in
    let s = both (a.frame.0 == b.frame.0) (size_number a.size == size_number b.size) l.0 in
    let frame = same_numbers a.frame.0 b.frame.0 s.0 in
    let size = same_sizes a.size b.size s.1 in
    let global = same_bools a.global b.global l.1 in
    let writable = same_bools a.writable b.writable w.1 in
    let user = same_bools a.user b.user h.1 in
    let executable = same_bools a.executable b.executable f.1 in
    let dirty = same_bools a.dirty b.dirty g.1 in
    λ i. record { frame = record { 0 = frame i }; size = size i; global = global i; writable = writable i; user = user i; executable = executable i; dirty = dirty i }

-- The stale leaf.

-- one is found whose frame is at most that of a leaf
abbrev pub AtMost : Leaf → Option Leaf → Type 0
AtMost leaf None = ⊥
AtMost leaf (Some found) = found.frame.0 ≤ leaf.frame.0

cond_at_most : (y z x : Leaf) (b : Bool) → nat_lt z.frame.0 x.frame.0 ≡ b → x.frame.0 ≤ y.frame.0 → AtMost y (if b then Some z else Some x)
cond_at_most y z x true e h = grind (arith, e, h)
cond_at_most y z x false e h = h

preferred_at_most : (y z : Leaf) (o : Option Leaf) → AtMost y o → AtMost y (preferred z o)
preferred_at_most y z None h = absurd h
preferred_at_most y z (Some x) h = cond_at_most y z x (nat_lt z.frame.0 x.frame.0) refl h

cond_itself : (y x : Leaf) (b : Bool) → nat_lt y.frame.0 x.frame.0 ≡ b → AtMost y (if b then Some y else Some x)
cond_itself y x true e = grind arith
cond_itself y x false e = grind (arith, e)

preferred_itself : (y : Leaf) (o : Option Leaf) → AtMost y (preferred y o)
preferred_itself y None = grind arith
preferred_itself y (Some x) = cond_itself y x (nat_lt y.frame.0 x.frame.0) refl

cond_kept : (y x : Leaf) (b : Bool) → nat_lt y.frame.0 x.frame.0 ≡ b → x.frame.0 ≤ y.frame.0 → (if b then Some y else Some x) ≡ Some x
cond_kept y x true e h = grind (arith, e, h)
cond_kept y x false e h = refl

preferred_kept : (y : Leaf) (o : Option Leaf) → AtMost y o → preferred y o ≡ o
preferred_kept y None h = absurd h
preferred_kept y (Some x) h = cond_kept y x (nat_lt y.frame.0 x.frame.0) refl h

module _ (m : Making) where
  abbrev pub fold_stale : Option Leaf → List Leaf → Option Leaf
  fold_stale best leaves = fold (λ older newer. stale_with m newer older) best leaves

  step_by : (y z : Leaf) (o : Option Leaf) (b : Bool) → AtMost y o → AtMost y (if b then preferred z o else o)
  step_by y z o true h = preferred_at_most y z o h
  step_by y z o false h = h

  fold_at_most : (y : Leaf) (o : Option Leaf) (leaves : List Leaf) → AtMost y o → AtMost y (fold_stale o leaves)
  fold_at_most y o [] h = h
  fold_at_most y o (z ∷ leaves) h = fold_at_most y (stale_with m z o) leaves (step_by y z o (is_stale m z) h)

  itself : (y : Leaf) (o : Option Leaf) → is_stale m y ≡ true → AtMost y (stale_with m y o)
  itself y o e = rw e (preferred_itself y o)

  among : (y z : Leaf) (o : Option Leaf) (leaves : List Leaf) (b : Bool) → is_stale m y ≡ true → same_leaf y z ≡ b → (b || list_any (same_leaf y) leaves) ≡ true
      → (list_any (same_leaf y) leaves ≡ true → AtMost y (fold_stale (stale_with m z o) leaves)) → AtMost y (fold_stale (stale_with m z o) leaves)
  among y z o leaves true e same any ih =
      fold_at_most y (stale_with m z o) leaves (subst (λ x. AtMost y (stale_with m x o)) (leaf_from_same y z same) (itself y o e))
  among y z o leaves false e same any ih = ih any

  -- a stale leaf that is one of them is not before what they give
  found_before : (y : Leaf) (o : Option Leaf) (leaves : List Leaf) → is_stale m y ≡ true → list_any (same_leaf y) leaves ≡ true → AtMost y (fold_stale o leaves)
  found_before y o [] e any = grind (arith, any)
  found_before y o (z ∷ leaves) e any =
      among y z o leaves (same_leaf y z) e refl any (λ rest. found_before y (stale_with m z o) leaves e rest)

  again_by : (y : Leaf) (o : Option Leaf) (b : Bool) → (b ≡ true → AtMost y o) → (if b then preferred y o else o) ≡ o
  again_by y o true h = preferred_kept y o (h refl)
  again_by y o false h = refl

  -- a leaf that is there already changes nothing
  again : (y : Leaf) (leaves : List Leaf) → list_any (same_leaf y) leaves ≡ true → stale_with m y (fold_stale None leaves) ≡ fold_stale None leaves
  again y leaves any = again_by y (fold_stale None leaves) (is_stale m y) (λ e. found_before y None leaves e any)

  added_by : (y : Leaf) (leaves : List Leaf) (b : Bool) → list_any (same_leaf y) leaves ≡ b → fold_stale None (if b then leaves else leaves ++ y ∷ []) ≡ stale_with m y (fold_stale None leaves)
  added_by y leaves true any = sym (again y leaves any)
  added_by y leaves false any = fold-append _ _ leaves (y ∷ [])

  place_by : (place : Place) (r : Remembered) (older : List Remembered) (b : Bool) → stale_leaf m older ≡ fold_stale None (leaves_at place older)
      → (if b then stale_with m r.leaf (stale_leaf m older) else stale_leaf m older) ≡ fold_stale None (if b then added r.leaf (leaves_at place older) else leaves_at place older)
  place_by place r older true ih =
      ap (stale_with m r.leaf) ih ∙ sym (added_by r.leaf (leaves_at place older) (list_any (same_leaf r.leaf) (leaves_at place older)) refl)
  place_by place r older false ih = ih

  -- the records of the access's page are those of its place
  pub stale_leaf_at : (place : Place) → ((r : Remembered) → is_same_page r m ≡ is_at place r) → (records : List Remembered)
      → stale_leaf m records ≡ fold_stale None (leaves_at place records)
  stale_leaf_at place same [] = refl
  stale_leaf_at place same (r ∷ older) = rw (same r) (place_by place r older (is_at place r) (stale_leaf_at place same older))

-- A flush.

any_filter_one : (y z : Leaf) (p : Leaf → Bool) (leaves : List Leaf) (b same : Bool) → p y ≡ true → p z ≡ b → same_leaf y z ≡ same
    → list_any (same_leaf y) (filter p leaves) ≡ list_any (same_leaf y) leaves
    → list_any (same_leaf y) (if b then z ∷ filter p leaves else filter p leaves) ≡ (same || list_any (same_leaf y) leaves)
any_filter_one y z p leaves true same e k e' ih = ap (λ x. x || list_any (same_leaf y) (filter p leaves)) e' ∙ ap (λ x. same || x) ih
any_filter_one y z p leaves false true e k e' ih = grind (arith, k, e, ap p (leaf_from_same y z e'))
any_filter_one y z p leaves false false e k e' ih = ih

any_filter : (y : Leaf) (p : Leaf → Bool) → p y ≡ true → (leaves : List Leaf) → list_any (same_leaf y) (filter p leaves) ≡ list_any (same_leaf y) leaves
any_filter y p e [] = refl
any_filter y p e (z ∷ leaves) = any_filter_one y z p leaves (p z) (same_leaf y z) e refl refl (any_filter y p e leaves)

added_filter_by : (y : Leaf) (p : Leaf → Bool) (leaves : List Leaf) (b : Bool) → p y ≡ true → list_any (same_leaf y) leaves ≡ b
    → added y (filter p leaves) ≡ filter p (if b then leaves else leaves ++ y ∷ [])
added_filter_by y p leaves true e any = rw (any_filter y p e leaves ∙ any) refl
added_filter_by y p leaves false e any =
    rw (any_filter y p e leaves ∙ any) (sym (filter-append p leaves (y ∷ []) ∙ ap (λ b. filter p leaves ++ (if b then y ∷ [] else [])) e))

-- a leaf that is dropped may be there or not
filter_added_by : (y : Leaf) (p : Leaf → Bool) (leaves : List Leaf) (b : Bool) → p y ≡ false → filter p (if b then leaves else leaves ++ y ∷ []) ≡ filter p leaves
filter_added_by y p leaves true e = refl
filter_added_by y p leaves false e = filter-append p leaves (y ∷ []) ∙ ap (λ b. filter p leaves ++ (if b then y ∷ [] else [])) e ∙ append-nil (filter p leaves)

module _ (place : Place) (flush : Flush) where
  abbrev pub stays : Leaf → Bool
  stays leaf = not (covers flush (record_at place.space place.page leaf))

  at_place : (r : Remembered) (older : List Remembered) (kept : Bool) → stays r.leaf ≡ kept
      → leaves_at place (dropped flush older) ≡ filter stays (leaves_at place older)
      → (if kept then added r.leaf (leaves_at place (dropped flush older)) else leaves_at place (dropped flush older)) ≡ filter stays (added r.leaf (leaves_at place older))
  at_place r older true e ih =
      ap (added r.leaf) ih ∙ added_filter_by r.leaf stays (leaves_at place older) (list_any (same_leaf r.leaf) (leaves_at place older)) e refl
  at_place r older false e ih =
      ih ∙ sym (filter_added_by r.leaf stays (leaves_at place older) (list_any (same_leaf r.leaf) (leaves_at place older)) e)

  is_record_at : (r : Remembered) → is_at place r ≡ true → r ≡ record_at place.space place.page r.leaf
  is_record_at r e =
      let p = both ((r.asid == place.space.asid) && beq r.nested place.space.nested) (r.page.0 == place.page) e in
      let q = both (r.asid == place.space.asid) (beq r.nested place.space.nested) p.0 in
      let asid = same_numbers r.asid place.space.asid q.0 in
      let nested = same_bools r.nested place.space.nested q.1 in
      let page = same_numbers r.page.0 place.page p.1 in
      λ i. record { asid = asid i; nested = nested i; page = record { 0 = page i }; leaf = r.leaf }

  push_at : (r : Remembered) (older : List Remembered) (kept here : Bool) → is_at place r ≡ here
      → leaves_at place (if kept then r ∷ older else older) ≡ (if here then (if kept then added r.leaf (leaves_at place older) else leaves_at place older) else leaves_at place older)
  push_at r older true here e = rw e refl
  push_at r older false true e = refl
  push_at r older false false e = refl

  one_by : (r : Remembered) (older : List Remembered) (here : Bool) → is_at place r ≡ here
      → leaves_at place (dropped flush older) ≡ filter stays (leaves_at place older)
      → leaves_at place (dropped flush (r ∷ older)) ≡ filter stays (if here then added r.leaf (leaves_at place older) else leaves_at place older)
  one_by r older true e ih =
      push_at r (dropped flush older) (not (covers flush r)) true e
      ∙ at_place r older (not (covers flush r)) (ap (λ x. not (covers flush x)) (sym (is_record_at r e))) ih
  one_by r older false e ih = push_at r (dropped flush older) (not (covers flush r)) false e ∙ ih

  -- a flush leaves the leaves that it does not cover
  pub leaves_at_dropped : (records : List Remembered) → leaves_at place (dropped flush records) ≡ filter stays (leaves_at place records)
  leaves_at_dropped [] = refl
  leaves_at_dropped (r ∷ older) = one_by r older (is_at place r) refl (leaves_at_dropped older)
