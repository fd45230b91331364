-- What a map keeps at each key after `retain`.
use Rattle.std.proofs.Common.{◌≡◌, Bool, true, false, List, [], ◌∷◌, sym, refl, ap, ◌∙◌, subst, Option, Some, None, cond}
use Rattle.std.specs.BTreeMap.{is_at}
use Rattle.std.specs.List.{AllByRecursion}
use Rattle.std.specs.List.Sorted.{IsStrictlySortedBy}
use Rattle.std.specs.Map.{keys_of, lookup}
use Rattle.std.specs.Map.Calls.{RetainsPairs}
use Rattle.std.specs.Ordering.{is_eq}
use Rattle.std.specs.declared.cmp.Ordering.{Ordering}
use Rattle.std.specs.declared.cmp.Ordering.TheVariants.{Less, Equal}
use Rattle.std.proofs.lemmas.Map.{NonePasses, lookup-none}
use Rattle.std.proofs.lemmas.Map.Keys.{sorted_head, sorted_tail}
use Rattle.svm_model.specs.declared.page_tables.Leaf.{Leaf}
use Rattle.rule_memory.proofs.Orders.{equal_from_is_eq}

-- the leaves that are seen at a key, none where the key is not there
module _ {K V : Type 0} (order : K → K → Ordering) (exact : (a b : K) → order a b ≡ Equal → a ≡ b) (seen : Option V → List Leaf) (none_seen : seen None ≡ []) where
  none_above : (q : K) (es : List (K × V)) → AllByRecursion (λ k. order q k ≡ Less) (keys_of es) → NonePasses (is_at (order q)) es
  none_above q [] a = tt
  none_above q (e ∷ es) a = (ap is_eq a.0, none_above q es a.1)

  -- a key that is first in order is not behind
  none_behind : (q : K) (e : K × V) (es : List (K × V)) → IsStrictlySortedBy order (keys_of (e ∷ es)) → q ≡ e.0 → lookup (is_at (order q)) es ≡ None
  none_behind q e es s same =
      lookup-none _ es (none_above q es (subst (λ x. AllByRecursion (λ k. order x k ≡ Less) (keys_of es)) (sym same) (sorted_head order e.0 (keys_of es) s)))

  module _ {F : Type 0} (T : F → K → V → Bool → V → F → Type 0) (f : F) (g : K → List Leaf → List Leaf) where
    -- the closure leaves g of the leaves, drops a key of which none are left, and stays as it was
    abbrev pub Leaves : Type 0
    Leaves = (k : K) (v : V) (b : Bool) (w : V) (f' : F) → T f k v b w f'
        → (b ≡ true → seen (Some w) ≡ g k (seen (Some v))) × (b ≡ false → g k (seen (Some v)) ≡ []) × (f' ≡ f)

    at_head : (q : K) (b : Bool) (e : K × V) (w : V) (rest es : List (K × V))
        → is_at (order q) e.0 ≡ true → (b ≡ true → seen (Some w) ≡ g e.0 (seen (Some e.1))) → (b ≡ false → g e.0 (seen (Some e.1)) ≡ []) → ((x : K) → g x [] ≡ [])
        → IsStrictlySortedBy order (keys_of (e ∷ es)) → seen (lookup (is_at (order q)) rest) ≡ g q (seen (lookup (is_at (order q)) es))
        → seen (lookup (is_at (order q)) (cond b ((e.0, w) ∷ rest) rest)) ≡ g q (seen (lookup (is_at (order q)) (e ∷ es)))
    at_head q true e w rest es here kept none empty s ih =
        let same = exact q e.0 (equal_from_is_eq _ here) in
        rw here (kept refl ∙ ap (λ x. g x (seen (Some e.1))) (sym same))
    at_head q false e w rest es here kept none empty s ih =
        let same = exact q e.0 (equal_from_is_eq _ here) in
        rw here (ih ∙ ap (λ o. g q (seen o)) (none_behind q e es s same) ∙ ap (g q) none_seen ∙ empty q ∙ sym (none refl) ∙ ap (λ x. g x (seen (Some e.1))) (sym same))

    elsewhere : (q : K) (b : Bool) (e : K × V) (w : V) (rest es : List (K × V))
        → is_at (order q) e.0 ≡ false → seen (lookup (is_at (order q)) rest) ≡ g q (seen (lookup (is_at (order q)) es))
        → seen (lookup (is_at (order q)) (cond b ((e.0, w) ∷ rest) rest)) ≡ g q (seen (lookup (is_at (order q)) (e ∷ es)))
    elsewhere q true e w rest es apart ih = rw apart ih
    elsewhere q false e w rest es apart ih = rw apart ih

    step : (q : K) (b here : Bool) (e : K × V) (w : V) (rest es : List (K × V))
        → is_at (order q) e.0 ≡ here → (b ≡ true → seen (Some w) ≡ g e.0 (seen (Some e.1))) → (b ≡ false → g e.0 (seen (Some e.1)) ≡ []) → ((x : K) → g x [] ≡ [])
        → IsStrictlySortedBy order (keys_of (e ∷ es)) → seen (lookup (is_at (order q)) rest) ≡ g q (seen (lookup (is_at (order q)) es))
        → seen (lookup (is_at (order q)) (cond b ((e.0, w) ∷ rest) rest)) ≡ g q (seen (lookup (is_at (order q)) (e ∷ es)))
    step q b true e w rest es here kept none empty s ih = at_head q b e w rest es here kept none empty s ih
    step q b false e w rest es here kept none empty s ih = elsewhere q b e w rest es here ih

    pub kept_by_retain : Leaves → ((x : K) → g x [] ≡ []) → (es kept : List (K × V)) → IsStrictlySortedBy order (keys_of es) → RetainsPairs T f es kept
        → (q : K) → seen (lookup (is_at (order q)) kept) ≡ g q (seen (lookup (is_at (order q)) es))
    kept_by_retain h empty [] kept s r q = rw r (none_seen ∙ sym (empty q) ∙ ap (g q) (sym none_seen))
    kept_by_retain h empty (e ∷ es) kept s r q =
        let a = h e.0 e.1 r.0 r.1 r.2 r.4 in
        let ih = kept_by_retain h empty es r.3 (sorted_tail order e.0 (keys_of es) s) (subst (λ u. RetainsPairs T u es r.3) a.2 r.5) q in
        rw r.6 (step q r.0 (is_at (order q) e.0) e r.1 r.3 es refl a.0 a.1 empty s ih)
