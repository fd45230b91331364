-- What a flush covers, and what it cannot.
use Rattle.std.proofs.Common.{◌≡◌, ◌⊎◌, inl, inr, true≢false, ℕ, ◌+◌, ◌-◌, ◌*◌, ◌/◌, ◌==◌, ◌<◌, ◌≤◌, nat_lt, Bool, true, false, ◌&&◌, ◌||◌, List, [], ◌∷◌, filter, Option, Some, None, IsSome, IfSome, slice_get, arith, sym, refl, ap, ◌∙◌, subst, if◌then◌else◌}
use Rattle.std.proofs.lemmas.Bool.Decides.{nat_tests}
use Rattle.std.proofs.lemmas.Map.Keys.{le_from_not_gt}
use Rattle.std.specs.BTreeMap.{get}
use Rattle.std.specs.BTreeMap.Range.{IsLeBy}
use Rattle.std.specs.List.{list_any}
use Rattle.std.specs.Cmp.{nat_cmp_is}
use Rattle.std.specs.Ordering.{is_gt, nat_cmp}
use Rattle.std.specs.declared.cmp.Ordering.TheVariants.{Less, Equal}
use Rattle.std.specs.Global.{Vec}
use Rattle.svm_model.specs.Audit.Records.{covers, holds, is_linear_of}
use Rattle.svm_model.specs.declared.page_tables.Leaf.{Leaf}
use Rattle.svm_model.specs.declared.page_tables.PageSize.{PageSize}
use Rattle.svm_model.specs.declared.page_tables.PageSize.TheVariants.{Small, Large, Huge}
use Rattle.svm_model.specs.declared.system.Flush.{Flush}
use Rattle.svm_model.specs.declared.system.Flush.TheVariants.{Page}
use Rattle.rule_memory.specs.Kept.{Pages, kept_of, leaves_in, record_at, span, uncovered_in}
use Rattle.rule_memory.specs.Leaves.{is_huge, is_huge_size}
use Rattle.rule_memory.specs.declared.places.Space.{Space}

less_from : (b a : ℕ) → nat_lt a b ≡ true → a < b
less_from b a e = grind (arith, nat_tests, e)

le_from : (b a : ℕ) → nat_lt a b ≡ false → b ≤ a
le_from b a e = grind (arith, nat_tests, e)

-- A walk over the pages between two.

irrefl-less : (a b : ℕ) → a < b → b ≤ a → ⊥
irrefl-less a b less more = omega (arith, less, more)

none_by : (o : Option (Vec Leaf)) (page other : ℕ) → (IsSome o → page ≤ other) → other < page → leaves_in o ≡ []
none_by None page other h less = refl
none_by (Some leaves) page other h less = absurd (irrefl-less other page less (h refl))

-- nothing is kept before the first page that is found
pub none_before : (pages : Pages) (other page : ℕ) → (IsSome (get nat_cmp pages other) → page ≤ other) → other < page → kept_of pages other ≡ []
none_before pages other page h less = none_by (get nat_cmp pages other) page other h less

le_by : (a b : ℕ) → a ≤ b → IsLeBy nat_cmp a b
le_by a b h = by (nat_lt b a) refl where
  by : (c : Bool) → nat_lt b a ≡ c → IsLeBy nat_cmp a b
  by true e = absurd (irrefl-less b a (less_from a b e) h)
  by false e = not_greater (a == b) refl where
    not_greater : (c : Bool) → (a == b) ≡ c → IsLeBy nat_cmp a b
    not_greater true k = ap is_gt (sym (nat_cmp_is a b Equal (grind (arith, k))))
    not_greater false k = ap is_gt (sym (nat_cmp_is a b Less (grind (arith, k, h))))

pub less_most : (a b c : ℕ) → a < b → b ≤ c → a ≤ c
less_most a b c less most = omega (arith, less, most)

-- a page that lies between two bounds is in their range
pub in_between : (low high first last other : ℕ) → low ≡ first → high ≡ last → first ≤ other → other ≤ last → IsLeBy nat_cmp low other × IsLeBy nat_cmp other high
in_between low high first last other e k more less = (subst (λ n. IsLeBy nat_cmp n other) (sym e) (le_by first other more), subst (λ n. IsLeBy nat_cmp other n) (sym k) (le_by other last less))

-- the first of what lies between two is the least
pub first_least : (r t : List (ℕ × Vec Leaf)) (page other : ℕ) (leaves : Vec Leaf) → r ≡ (page, leaves) ∷ t → IfSome (slice_get r 0) (λ e. IsLeBy nat_cmp e.0 other) → page ≤ other
first_least r t page other leaves is least = le_from_not_gt page other (subst (λ xs. IfSome (slice_get xs 0) (λ e. IsLeBy nat_cmp e.0 other)) is least)

module _ (old : ℕ → List Leaf) (g : ℕ → List Leaf → List Leaf) where
  -- the pages from `first` on are done up to `from`
  pub record AsFar (now : ℕ → List Leaf) (first from : ℕ) : Type 0 where
    pub done : (page : ℕ) → first ≤ page → page < from → now page ≡ g page (old page)
    pub below : (page : ℕ) → page < first → now page ≡ old page
    pub ahead : (page : ℕ) → from ≤ page → now page ≡ old page

  pub none_done : (first : ℕ) → AsFar old first first
  none_done first = record {
    done = λ page low high. grind (arith, low, high);
    below = λ page less. refl;
    ahead = λ page more. refl;
  }

  module _ (empty : (page : ℕ) → g page [] ≡ []) (now next : ℕ → List Leaf) (first from page : ℕ) (s : AsFar now first from) (ordered : first ≤ from) (low : from ≤ page)
      (none : (other : ℕ) → from ≤ other → other < page → now other ≡ []) (changed : (other : ℕ) → next other ≡ (if other == page then g page (now page) else now other)) where
    here_or : (other : ℕ) (b : Bool) → (other == page) ≡ b → (b ≡ true → now other ≡ old other) → (b ≡ false → now other ≡ g other (old other)) → next other ≡ g other (old other)
    here_or other true e h k =
        let same : other ≡ page = grind (arith, e) in
        changed other ∙ ap (λ b. if b then g page (now page) else now other) e ∙ subst (λ p. g p (now p) ≡ g other (old other)) same (ap (g other) (h refl))
    here_or other false e h k = changed other ∙ ap (λ b. if b then g page (now page) else now other) e ∙ k refl

    before : (other : ℕ) (b : Bool) → nat_lt other from ≡ b → first ≤ other → other < page → now other ≡ g other (old other)
    before other true e least less = s.done other least (grind (arith, nat_tests, e))
    before other false e least less =
        let behind : from ≤ other = grind (arith, nat_tests, e) in
        none other behind less ∙ sym (empty other) ∙ ap (g other) (sym (none other behind less) ∙ s.ahead other behind)

    apart : (other : ℕ) → (other ≡ page → ⊥) → next other ≡ now other
    apart other h = changed other ∙ ap (λ b. if b then g page (now page) else now other) (by (other == page) refl) where
      by : (b : Bool) → (other == page) ≡ b → (other == page) ≡ false
      by true e = absurd (h (grind (arith, e)))
      by false e = e

    pub page_done : AsFar next first (page + 1)
    page_done = record {
      done = λ other least most. here_or other (other == page) refl (λ e. s.ahead other (grind (arith, low, e))) (λ e. before other (nat_lt other from) refl least (grind (arith, most, e)));
      below = λ other less. apart other (λ e. grind (arith, e, less, low, ordered)) ∙ s.below other less;
      ahead = λ other more. apart other (λ e. grind (arith, e, more)) ∙ s.ahead other (grind (arith, more, low));
    }

  module _ (empty : (page : ℕ) → g page [] ≡ []) (now : ℕ → List Leaf) (first from last : ℕ) (s : AsFar now first from)
      (none : (other : ℕ) → from ≤ other → other ≤ last → now other ≡ []) where
    pub all_done : (page : ℕ) → first ≤ page → page ≤ last → now page ≡ g page (old page)
    all_done page low high = by (nat_lt page from) refl where
      by : (b : Bool) → nat_lt page from ≡ b → now page ≡ g page (old page)
      by true e = s.done page low (grind (arith, nat_tests, e))
      by false e =
          let behind : from ≤ page = grind (arith, nat_tests, e) in
          none page behind high ∙ sym (empty page) ∙ ap (g page) (sym (none page behind high) ∙ s.ahead page behind)

-- Where no leaf is covered all stay.

pub none_covered : (space : Space) (flush : Flush) (page : ℕ) → ((leaf : Leaf) → covers flush (record_at space page leaf) ≡ false) → (leaves : List Leaf)
    → uncovered_in space flush page leaves ≡ leaves
none_covered space flush page h [] = refl
none_covered space flush page h (leaf ∷ leaves) = rw (h leaf) (ap (λ rest. leaf ∷ rest) (none_covered space flush page h leaves))

pub all_covered : (space : Space) (flush : Flush) (page : ℕ) → ((leaf : Leaf) → covers flush (record_at space page leaf) ≡ true) → (leaves : List Leaf)
    → uncovered_in space flush page leaves ≡ []
all_covered space flush page h [] = refl
all_covered space flush page h (leaf ∷ leaves) = rw (h leaf) (all_covered space flush page h leaves)

-- A page outside the 2 MiB or the 1 GiB about an address.

abbrev pub IsOutside : ℕ → ℕ → ℕ → Type 0
IsOutside width page other = (page < other / width * width) ⊎ (other / width * width + (width - 1) < page)

apart_numbers : (a b : ℕ) → (a ≡ b → ⊥) → (a == b) ≡ false
apart_numbers a b h = by (a == b) refl where
  by : (c : Bool) → (a == b) ≡ c → (a == b) ≡ false
  by true e = absurd (h (grind (arith, e)))
  by false e = e

outside_huge : (page other : ℕ) (size : PageSize) → IsOutside 262144 page other → holds size page other ≡ false
outside_huge page other Small (inl e) = apart_numbers _ _ (λ h. omega (arith, e, h))
outside_huge page other Large (inl e) = apart_numbers _ _ (λ h. omega (arith, e, h))
outside_huge page other Huge (inl e) = apart_numbers _ _ (λ h. omega (arith, e, h))
outside_huge page other Small (inr e) = apart_numbers _ _ (λ h. omega (arith, e, h))
outside_huge page other Large (inr e) = apart_numbers _ _ (λ h. omega (arith, e, h))
outside_huge page other Huge (inr e) = apart_numbers _ _ (λ h. omega (arith, e, h))

outside_large : (page other : ℕ) (size : PageSize) → is_huge_size size ≡ false → IsOutside 512 page other → holds size page other ≡ false
outside_large page other Small h (inl e) = apart_numbers _ _ (λ k. omega (arith, e, k))
outside_large page other Large h (inl e) = apart_numbers _ _ (λ k. omega (arith, e, k))
outside_large page other Small h (inr e) = apart_numbers _ _ (λ k. omega (arith, e, k))
outside_large page other Large h (inr e) = apart_numbers _ _ (λ k. omega (arith, e, k))
outside_large page other Huge h e = absurd (true≢false h)

outside_by : (huge : Bool) (page other : ℕ) (size : PageSize) → (huge ≡ false → is_huge_size size ≡ false) → IsOutside (span huge) page other → holds size page other ≡ false
outside_by true page other size h e = outside_huge page other size e
outside_by false page other size h e = outside_large page other size (h refl) e

first_false : (a b : Bool) → (a || b) ≡ false → a ≡ false
first_false true b e = e
first_false false b e = refl

second_false : (a b : Bool) → (a || b) ≡ false → b ≡ false
second_false true b e = absurd (true≢false e)
second_false false b e = e

pub and_false : (a b : Bool) → b ≡ false → (a && b) ≡ false
and_false true b e = e
and_false false b e = refl

pub outside_kept : (huge : Bool) (space : Space) (asid address page : ℕ) (leaves : List Leaf) → (huge ≡ false → list_any is_huge leaves ≡ false)
    → IsOutside (span huge) page (address / 4096) → uncovered_in space (Page asid address) page leaves ≡ leaves
outside_kept huge space asid address page [] h e = refl
outside_kept huge space asid address page (leaf ∷ leaves) h e =
    let free : covers (Page asid address) (record_at space page leaf) ≡ false
    = and_false (is_linear_of asid (record_at space page leaf)) (holds leaf.size page (address / 4096)) (outside_by huge page (address / 4096) leaf.size (λ k. first_false _ (list_any is_huge leaves) (h k)) e) in
    rw free (ap (λ rest. leaf ∷ rest) (outside_kept huge space asid address page leaves (λ k. second_false (is_huge leaf) _ (h k)) e))

-- What is left holds no page of 1 GiB where there was none.
pub huge_left : (p : Leaf → Bool) (leaves : List Leaf) → list_any is_huge leaves ≡ false → list_any is_huge (filter p leaves) ≡ false
huge_left p [] e = refl
huge_left p (leaf ∷ leaves) e =
    by (p leaf) (first_false (is_huge leaf) (list_any is_huge leaves) e) (huge_left p leaves (second_false (is_huge leaf) (list_any is_huge leaves) e)) where
      by : (b : Bool) → is_huge leaf ≡ false → list_any is_huge (filter p leaves) ≡ false → list_any is_huge (if b then leaf ∷ filter p leaves else filter p leaves) ≡ false
      by true h k = rw h k
      by false h k = k

-- What a walk about an address leaves is what the flush leaves.
module _ (huge : Bool) (space : Space) (asid address : ℕ) (old new : ℕ → List Leaf) (width : ℕ) (is : width ≡ span huge)
    (within : (page : ℕ) → address / 4096 / width * width ≤ page → page ≤ address / 4096 / width * width + (width - 1) → new page ≡ uncovered_in space (Page asid address) page (old page))
    (below : (page : ℕ) → page < address / 4096 / width * width → new page ≡ old page)
    (above : (page : ℕ) → address / 4096 / width * width + (width - 1) < page → new page ≡ old page) where
  stays : (page : ℕ) → IsOutside width page (address / 4096) → (huge ≡ false → list_any is_huge (old page) ≡ false) → new page ≡ old page → new page ≡ uncovered_in space (Page asid address) page (old page)
  stays page outside h same = same ∙ sym (outside_kept huge space asid address page (old page) h (subst (λ n. IsOutside n page (address / 4096)) is outside))

  about_by : (page : ℕ) (low high : Bool) → nat_lt page (address / 4096 / width * width) ≡ low → nat_lt (address / 4096 / width * width + (width - 1)) page ≡ high
      → (huge ≡ false → list_any is_huge (old page) ≡ false) → new page ≡ uncovered_in space (Page asid address) page (old page)
  about_by page true high e k h = let less = less_from (address / 4096 / width * width) page e in stays page (inl less) h (below page less)
  about_by page false true e k h = let more = less_from page (address / 4096 / width * width + (width - 1)) k in stays page (inr more) h (above page more)
  about_by page false false e k h = within page (le_from (address / 4096 / width * width) page e) (le_from page (address / 4096 / width * width + (width - 1)) k)

  pub kept_about : (page : ℕ) → (huge ≡ false → list_any is_huge (old page) ≡ false) → new page ≡ uncovered_in space (Page asid address) page (old page)
  kept_about page h = about_by page (nat_lt page (address / 4096 / width * width)) (nat_lt (address / 4096 / width * width + (width - 1)) page) refl refl h
