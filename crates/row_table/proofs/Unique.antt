-- The table has one line for each opcode, ModRM byte and REX prefix: these compute.
use Rattle.std.proofs.Common.{◌≡◌, ℕ, zero, suc, ◌<◌, ◌≤◌, ◌⊎◌, inl, inr, List, [], ◌∷◌, Bool, true, false, not, ◌&&◌, ◌||◌, cond, eqb, Some, refl, sym, ap, ◌∙◌, subst, arith}
use Rattle.std.proofs.lemmas.Bool.{and_parts, or_cases, cases_eq, eqb-true, eqb-false, not-true, leb-true, ltb-true}
use Rattle.std.specs.List.{list_all}
use Rattle.std.specs.Prelude.{filter, nat_le, ◌==◌}
use Rattle.row_table.proofs.Lengths.{listed_all}
use Rattle.svm_model.specs.Instructions.Prefixes.{is_rex}
use Rattle.svm_model.specs.Instructions.RowLines.{opens, has_modrm, meets, takes_modrm, first_where}
use Rattle.svm_model.specs.Instructions.RowTable.{table}
use Rattle.svm_model.specs.Instructions.Spelling.{IsLineOf}
use Rattle.svm_model.specs.declared.row_lines.OperandFields.{OperandFields}
use Rattle.svm_model.specs.declared.row_lines.OperandFields.TheVariants as fields
use Rattle.svm_model.specs.declared.row_lines.RowLine.{RowLine}
use Rattle.svm_model.specs.declared.row_lines.OpcodeMap.{OpcodeMap}
use Rattle.svm_model.specs.declared.row_lines.OpcodeMap.TheVariants as map
use Rattle.svm_model.specs.declared.row_lines.RexNeeds.{RexNeeds}
use Rattle.svm_model.specs.declared.row_lines.RexNeeds.TheVariants as needs
use Rattle.svm_model.specs.declared.row_lines.Rex.{Rex}

-- no ModRM byte fits both
abbrev are_apart : OperandFields → OperandFields → Bool
are_apart (fields.Digit a) (fields.Digit b) = not (a == b)
are_apart (fields.DigitMemory a) (fields.DigitMemory b) = not (a == b)
are_apart (fields.DigitMemory a) (fields.Exact b) = nat_le 0xC0 b
are_apart (fields.Exact a) (fields.Exact b) = not (a == b)
are_apart _ _ = false

-- no REX prefix is as both need it
abbrev are_contrary : RexNeeds → RexNeeds → Bool
are_contrary needs.Base needs.NoBase = true
are_contrary _ _ = false

-- no form is of both
abbrev differ : RowLine → RowLine → Bool
differ k l = (are_apart k.fields l.fields || are_apart l.fields k.fields) || (are_contrary k.needs l.needs || are_contrary l.needs k.needs)

abbrev all_differ : List RowLine → Bool
all_differ [] = true
all_differ (l ∷ ls) = list_all (λ x. differ l x) ls && all_differ ls

-- no two lines have this opcode and one form
abbrev differ_at : OpcodeMap → ℕ → List RowLine → Bool
differ_at m b ls = all_differ (filter (λ l. opens l m b) ls)

abbrev at_each : (ℕ → Bool) → ℕ → Bool
at_each test zero = true
at_each test (suc n) = test n && at_each test n

unique_primary : at_each (λ b. differ_at map.Primary b table) 256 ≡ true
unfolding table
unique_primary = refl

unique_secondary : at_each (λ b. differ_at map.Secondary b table) 256 ≡ true
unfolding table
unique_secondary = refl

unique_repeat : at_each (λ b. differ_at map.Repeat b table) 256 ≡ true
unfolding table
unique_repeat = refl

at_each_at : (test : ℕ → Bool) (n b : ℕ) → at_each test n ≡ true → b < n → test b ≡ true
at_each_at test zero b e h = absurd (omega arith)
at_each_at test (suc n) b e h = go (cases_eq b n) (λ l. at_each_at test n b (and_parts (test n) _ e).1 l) where
  go : (b ≡ n) ⊎ (b ≡ n → ⊥) → (b < n → test b ≡ true) → test b ≡ true
  go (inl same) later = ap test same ∙ (and_parts (test n) _ e).0
  go (inr other) later = later (omega arith)

unique_at : (m : OpcodeMap) (b : ℕ) → b < 256 → differ_at m b table ≡ true
unique_at map.Primary b h = at_each_at (λ b. differ_at map.Primary b table) 256 b unique_primary h
unique_at map.Secondary b h = at_each_at (λ b. differ_at map.Secondary b table) 256 b unique_secondary h
unique_at map.Repeat b h = at_each_at (λ b. differ_at map.Repeat b table) 256 b unique_repeat h

-- no line of the primary map has the opcode of a prefix, or of a byte that leads to a map
abbrev pub is_opening : ℕ → Bool
is_opening b = is_rex b || (b == 0x0F || (b == 0xF3 || (b == 0x66 || (b == 0xF0 || (b == 0x64 || b == 0x65)))))

abbrev unopened : OpcodeMap → ℕ → List RowLine → Bool
unopened m b ls = list_all (λ l. not (opens l m b)) ls

closed : at_each (λ b. not (is_opening b) || unopened map.Primary b table) 256 ≡ true
unfolding table
closed = refl

abbrev pub Alike : RowLine → RowLine → Type 0
Alike a b = (a ≡ b) ⊎ ((differ a b ≡ true) ⊎ (differ b a ≡ true))

alike : (ls : List RowLine) (k l : RowLine) → all_differ ls ≡ true → IsLineOf k ls → IsLineOf l ls → Alike k l
alike [] k l e i j = absurd i
alike (x ∷ xs) k l e (inl i) (inl j) = inl (sym i ∙ j)
alike (x ∷ xs) k l e (inl i) (inr j) = inr (inl (subst (λ (x : RowLine). differ x l ≡ true) i (listed_all (λ l. differ x l) xs l (and_parts _ _ e).0 j)))
alike (x ∷ xs) k l e (inr i) (inl j) = inr (inr (subst (λ (x : RowLine). differ x k ≡ true) j (listed_all (λ l. differ x l) xs k (and_parts _ _ e).0 i)))
alike (x ∷ xs) k l e (inr i) (inr j) = alike xs k l (and_parts _ _ e).1 i j

in_filter : (test : RowLine → Bool) (ls : List RowLine) (l : RowLine) → IsLineOf l ls → test l ≡ true → IsLineOf l (filter test ls)
in_filter test [] l i e = absurd i
in_filter test (x ∷ xs) l i e = go (test x) refl i (λ j. in_filter test xs l j e) where
  go : (b : Bool) → test x ≡ b → IsLineOf l (x ∷ xs) → (IsLineOf l xs → IsLineOf l (filter test xs)) → IsLineOf l (cond b (x ∷ filter test xs) (filter test xs))
  go true h (inl same) later = inl same
  go true h (inr j) later = inr (later j)
  go false h (inl same) later = absurd (let q : test x ≡ true = ap test same ∙ e in cc)
  go false h (inr j) later = later j

alike_in_table : (m : OpcodeMap) (b : ℕ) (k l : RowLine) → b < 256 → IsLineOf k table → IsLineOf l table → opens k m b ≡ true → opens l m b ≡ true → Alike k l
alike_in_table m b k l h i j p q = alike (filter (λ l. opens l m b) table) k l (unique_at m b h) (in_filter (λ l. opens l m b) table k i p) (in_filter (λ l. opens l m b) table l j q)

-- lines that are apart have ModRM both
apart-has_modrm : (f g : OperandFields) → are_apart f g ≡ true → (has_modrm f ≡ true) × (has_modrm g ≡ true)
apart-has_modrm (fields.Digit a) (fields.Digit b) e = (refl, refl)
apart-has_modrm (fields.DigitMemory a) (fields.DigitMemory b) e = (refl, refl)
apart-has_modrm (fields.DigitMemory a) (fields.Exact b) e = (refl, refl)
apart-has_modrm (fields.Exact a) (fields.Exact b) e = (refl, refl)
apart-has_modrm f g e = absurd (cc)

apart-takes_modrm : (f g : OperandFields) (r : Rex) (m : ℕ) → are_apart f g ≡ true → takes_modrm f r m ≡ true → takes_modrm g r m ≡ true → ⊥
apart-takes_modrm (fields.Digit a) (fields.Digit b) r m e p q = eqb-false a b (not-true (eqb a b) e) (sym (eqb-true _ a p) ∙ eqb-true _ b q)
apart-takes_modrm (fields.DigitMemory a) (fields.DigitMemory b) r m e p q = eqb-false a b (not-true (eqb a b) e) (sym (eqb-true _ a (and_parts _ _ p).0) ∙ eqb-true _ b (and_parts _ _ q).0)
apart-takes_modrm (fields.DigitMemory a) (fields.Exact b) r m e p q = other m b (leb-true 0xC0 b e) (ltb-true m 0xC0 (and_parts _ _ p).1) (eqb-true m b q) where
  other : (m b : ℕ) → 0xC0 ≤ b → m < 0xC0 → m ≡ b → ⊥
  other m b h k s = omega (arith, h, k, s)
apart-takes_modrm (fields.Exact a) (fields.Exact b) r m e p q = eqb-false a b (not-true (eqb a b) e) (sym (eqb-true m a p) ∙ eqb-true m b q)
apart-takes_modrm f g r m e p q = cc

contrary-meets : (a b : RexNeeds) (r : Rex) → are_contrary a b ≡ true → meets a r ≡ true → meets b r ≡ true → ⊥
contrary-meets needs.Base needs.NoBase r e p q = let h = eqb-true r.base 8 p in let k = eqb-true r.base 0 q in never r.base h k where
  never : (n : ℕ) → n ≡ 8 → n ≡ 0 → ⊥
  never n h k = omega (arith, h, k)
contrary-meets a b r e p q = cc

-- Of two lines with one opcode that both may have a REX prefix: they are one, or both have ModRM, and no byte fits both.
pub record AreApart (k l : RowLine) (r : Rex) : Type 0 where
  pub both : (has_modrm k.fields ≡ true) × (has_modrm l.fields ≡ true)
  pub none : (m : ℕ) → takes_modrm k.fields r m ≡ true → takes_modrm l.fields r m ≡ true → ⊥

apart_of : (k l : RowLine) (r : Rex) → are_apart k.fields l.fields ≡ true → AreApart k l r
apart_of k l r e = record { both = apart-has_modrm k.fields l.fields e; none = λ m p q. apart-takes_modrm k.fields l.fields r m e p q }

turned : (k l : RowLine) (r : Rex) → AreApart k l r → AreApart l k r
turned k l r a = record { both = (a.both.1, a.both.0); none = λ m p q. a.none m q p }

apart_if : (k l : RowLine) (r : Rex) → differ k l ≡ true → meets k.needs r ≡ true → meets l.needs r ≡ true → AreApart k l r
apart_if k l r e p q = go (or_cases _ _ e) where
  go : ((are_apart k.fields l.fields || are_apart l.fields k.fields) ≡ true) ⊎ ((are_contrary k.needs l.needs || are_contrary l.needs k.needs) ≡ true) → AreApart k l r
  go (inl f) = by_fields (or_cases _ _ f) where
    by_fields : (are_apart k.fields l.fields ≡ true) ⊎ (are_apart l.fields k.fields ≡ true) → AreApart k l r
    by_fields (inl g) = apart_of k l r g
    by_fields (inr g) = turned l k r (apart_of l k r g)
  go (inr f) = by_needs (or_cases _ _ f) where
    by_needs : (are_contrary k.needs l.needs ≡ true) ⊎ (are_contrary l.needs k.needs ≡ true) → AreApart k l r
    by_needs (inl g) = absurd (contrary-meets k.needs l.needs r g p q)
    by_needs (inr g) = absurd (contrary-meets l.needs k.needs r g q p)

pub one_or_apart : (m : OpcodeMap) (b : ℕ) (k l : RowLine) (r : Rex) → b < 256 → IsLineOf k table → IsLineOf l table → opens k m b ≡ true → opens l m b ≡ true → meets k.needs r ≡ true → meets l.needs r ≡ true → (k ≡ l) ⊎ AreApart k l r
one_or_apart m b k l r h i j p q s t = go (alike_in_table m b k l h i j p q) where
  go : Alike k l → (k ≡ l) ⊎ AreApart k l r
  go (inl same) = inl same
  go (inr (inl e)) = inr (apart_if k l r e s t)
  go (inr (inr e)) = inr (turned l k r (apart_if l k r e t s))

-- the line that passes a test alone is found by it
pub first_where-only : (test : RowLine → Bool) (ls : List RowLine) (l : RowLine) → IsLineOf l ls → test l ≡ true → ((x : RowLine) → IsLineOf x ls → test x ≡ true → x ≡ l) → first_where test ls ≡ Some l
unfolding first_where
first_where-only test [] l i h only = absurd i
first_where-only test (x ∷ xs) l i h only = go (test x) refl i (λ j. first_where-only test xs l j h (λ y k f. only y (inr k) f)) where
  go : (b : Bool) → test x ≡ b → IsLineOf l (x ∷ xs) → (IsLineOf l xs → first_where test xs ≡ Some l) → cond b (Some x) (first_where test xs) ≡ Some l
  go true e i later = ap Some (only x (inl refl) e)
  go false e (inl same) later = absurd (let q : test x ≡ true = ap test same ∙ h in cc)
  go false e (inr j) later = later j

-- a line passes, so some line is found
pub first_where-found : (test : RowLine → Bool) (ls : List RowLine) (l : RowLine) → IsLineOf l ls → test l ≡ true → (x : RowLine) × (first_where test ls ≡ Some x)
unfolding first_where
first_where-found test [] l i h = absurd i
first_where-found test (x ∷ xs) l i h = go (test x) refl i (λ j. first_where-found test xs l j h) where
  go : (b : Bool) → test x ≡ b → IsLineOf l (x ∷ xs) → (IsLineOf l xs → (y : RowLine) × (first_where test xs ≡ Some y)) → (y : RowLine) × (cond b (Some x) (first_where test xs) ≡ Some y)
  go true e i later = (x, refl)
  go false e (inl same) later = absurd (let q : test x ≡ true = ap test same ∙ h in cc)
  go false e (inr j) later = later j

pub closed_at : (b : ℕ) (l : RowLine) → b < 256 → IsLineOf l table → opens l map.Primary b ≡ true → is_opening b ≡ false
closed_at b l h i e = go (is_opening b) (at_each_at (λ b. not (is_opening b) || unopened map.Primary b table) 256 b closed h) where
  go : (o : Bool) → (not o || unopened map.Primary b table) ≡ true → o ≡ false
  go false f = refl
  go true f = absurd (let q = listed_all (λ l. not (opens l map.Primary b)) table l f i in let r : not (opens l map.Primary b) ≡ true = q in cc)
