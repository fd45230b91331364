-- The bits of a path's entries together tell of the path: a bit of their conjunction is in each of them, and a bit of their
-- disjunction in one.
use Rattle.std.proofs.Common.{◌≡◌, ◌==◌, ℕ, ◌*◌, ◌^◌, ◌<◌, zero, suc, Bool, true, false, ◌&&◌, List, [], ◌∷◌, ◌++◌, refl, sym, ap, ◌∙◌, arith, min, max, bit_and, bit_or}
use Rattle.std.specs.Prelude.{◌||◌}
use Rattle.std.specs.Int.{bit_at}
use Rattle.std.proofs.lemmas.Nat.Bits.{and_pow, bit_at_and, bit_at_or}
use Rattle.std.proofs.lemmas.Nat.{pow_pos}
use Rattle.std.proofs.lemmas.Bool.Decides.{nat_tests}
use Rattle.svm_model.specs.Memory.Bits.{has}
use Rattle.svm_model.specs.Memory.PageEntries.{writable, user, accessed, no_execute}
use Rattle.svm_model.specs.Memory.PageTables.{all_have, some_has, leaf_bits}
use Rattle.svm_model.specs.declared.page_tables.Entry.{Entry}
use Rattle.page_walk.specs.PathBits.{of_top, with_below, Join}
use Rattle.page_walk.specs.declared.path_bits.PathBits.{PathBits}

-- the test for one bit is that bit
one_bit : (b p : ℕ) → b < 2 → 0 < p → (b * p == p) ≡ (b == 1)
one_bit zero p small some = grind (arith, nat_tests)
one_bit (suc zero) p small some = grind (arith, nat_tests)
one_bit (suc (suc b)) p small some = absurd (omega arith)

has-bit : (n k : ℕ) → has n (2 ^ k) ≡ (bit_at n k == 1)
has-bit n k = ap (λ (x : ℕ). x == 2 ^ k) (and_pow n k) ∙ one_bit (bit_at n k) (2 ^ k) (omega arith) (pow_pos k)

min-one : (a b : ℕ) → a < 2 → b < 2 → (min a b == 1) ≡ ((a == 1) && (b == 1))
min-one zero zero h k = refl
min-one zero (suc zero) h k = refl
min-one (suc zero) zero h k = refl
min-one (suc zero) (suc zero) h k = refl
min-one (suc (suc a)) b h k = absurd (omega arith)
min-one zero (suc (suc b)) h k = absurd (omega arith)
min-one (suc zero) (suc (suc b)) h k = absurd (omega arith)

max-one : (a b : ℕ) → a < 2 → b < 2 → (max a b == 1) ≡ ((a == 1) || (b == 1))
max-one zero zero h k = refl
max-one zero (suc zero) h k = refl
max-one (suc zero) zero h k = refl
max-one (suc zero) (suc zero) h k = refl
max-one (suc (suc a)) b h k = absurd (omega arith)
max-one zero (suc (suc b)) h k = absurd (omega arith)
max-one (suc zero) (suc (suc b)) h k = absurd (omega arith)

has-and : (a b k : ℕ) → has (bit_and a b) (2 ^ k) ≡ (has a (2 ^ k) && has b (2 ^ k))
has-and a b k =
    has-bit (bit_and a b) k ∙ ap (λ (x : ℕ). x == 1) (bit_at_and a b k) ∙ min-one (bit_at a k) (bit_at b k) (omega arith) (omega arith)
    ∙ sym (ap (λ (x : Bool). x && has b (2 ^ k)) (has-bit a k) ∙ ap (λ (x : Bool). (bit_at a k == 1) && x) (has-bit b k))

has-or : (a b k : ℕ) → has (bit_or a b) (2 ^ k) ≡ (has a (2 ^ k) || has b (2 ^ k))
has-or a b k =
    has-bit (bit_or a b) k ∙ ap (λ (x : ℕ). x == 1) (bit_at_or a b k) ∙ max-one (bit_at a k) (bit_at b k) (omega arith) (omega arith)
    ∙ sym (ap (λ (x : Bool). x || has b (2 ^ k)) (has-bit a k) ∙ ap (λ (x : Bool). (bit_at a k == 1) || x) (has-bit b k))

true-last : (a : Bool) → a ≡ (a && true)
true-last true = refl
true-last false = refl

false-last : (a : Bool) → a ≡ (a || false)
false-last true = refl
false-last false = refl

and-regroups : (a b c : Bool) → ((a && b) && c) ≡ (a && (b && c))
and-regroups true b c = refl
and-regroups false b c = refl

or-regroups : (a b c : Bool) → ((a || b) || c) ≡ (a || (b || c))
or-regroups true b c = refl
or-regroups false b c = refl

-- an entry more, below the others
all_have-below : (path : List Entry) (e : Entry) (bit : ℕ) → (all_have path bit && has e.bits bit) ≡ all_have (path ++ e ∷ []) bit
all_have-below [] e bit = true-last (has e.bits bit)
all_have-below (top ∷ path) e bit = and-regroups (has top.bits bit) (all_have path bit) (has e.bits bit) ∙ ap (λ (b : Bool). has top.bits bit && b) (all_have-below path e bit)

some_has-below : (path : List Entry) (e : Entry) (bit : ℕ) → (some_has path bit || has e.bits bit) ≡ some_has (path ++ e ∷ []) bit
some_has-below [] e bit = false-last (has e.bits bit)
some_has-below (top ∷ path) e bit = or-regroups (has top.bits bit) (some_has path bit) (has e.bits bit) ∙ ap (λ (b : Bool). has top.bits bit || b) (some_has-below path e bit)

leaf_bits-below : (path : List Entry) (e : Entry) → e.bits ≡ leaf_bits (path ++ e ∷ [])
leaf_bits-below [] e = refl
leaf_bits-below (top ∷ []) e = refl
leaf_bits-below (top ∷ next ∷ path) e = leaf_bits-below (next ∷ path) e

all-with : (bits : PathBits) (path : List Entry) (e : Entry) (k : ℕ) → has bits.common.0 (2 ^ k) ≡ all_have path (2 ^ k) → has (bit_and bits.common.0 e.bits) (2 ^ k) ≡ all_have (path ++ e ∷ []) (2 ^ k)
all-with bits path e k h = has-and bits.common.0 e.bits k ∙ ap (λ (b : Bool). b && has e.bits (2 ^ k)) h ∙ all_have-below path e (2 ^ k)

some-with : (bits : PathBits) (path : List Entry) (e : Entry) (k : ℕ) → has bits.joined.0 (2 ^ k) ≡ some_has path (2 ^ k) → has (bit_or bits.joined.0 e.bits) (2 ^ k) ≡ some_has (path ++ e ∷ []) (2 ^ k)
some-with bits path e k h = has-or bits.joined.0 e.bits k ∙ ap (λ (b : Bool). b || has e.bits (2 ^ k)) h ∙ some_has-below path e (2 ^ k)

pub join-top : (e : Entry) → Join (of_top e) (e ∷ [])
join-top e = record {
  writable = true-last (has e.bits writable);
  user = true-last (has e.bits user);
  accessed = true-last (has e.bits accessed);
  no_execute = false-last (has e.bits no_execute);
  leaf = refl;
}

pub join-below : (bits : PathBits) (path : List Entry) (e : Entry) → Join bits path → Join (with_below bits e) (path ++ e ∷ [])
join-below bits path e h = record {
  writable = all-with bits path e 1 h.writable;
  user = all-with bits path e 2 h.user;
  accessed = all-with bits path e 5 h.accessed;
  no_execute = some-with bits path e 63 h.no_execute;
  leaf = leaf_bits-below path e;
}
