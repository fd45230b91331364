-- Reserved bits are looked for with one mask, and those of a large page apart.
use Rattle.std.proofs.Common.{◌≡◌, ◌==◌, ℕ, ◌*◌, ◌^◌, ◌<◌, ◌≤◌, zero, suc, Bool, true, false, ◌&&◌, refl, sym, ap, ◌∙◌, arith, min, max, bit_and, bit_or}
use Rattle.std.specs.Prelude.{◌||◌, not}
use Rattle.std.specs.Int.{bit_at}
use Rattle.std.proofs.lemmas.Nat.Bits.{and_pow, bit_at_and, bit_at_or, same_from_bits}
use Rattle.std.proofs.lemmas.Nat.{pow_pos, and_le_r, le_or_l, le_or_r}
use Rattle.std.proofs.lemmas.Bool.Decides.{nat_tests}
use Rattle.svm_model.specs.Memory.Bits.{has, has_some, bits_where}
use Rattle.svm_model.specs.Memory.PageEntries.{page_size, no_execute, above_width}

min-max : (x y z : ℕ) → min x (max y z) ≡ max (min x y) (min x z)
min-max x y z = omega arith

and-or : (n a b : ℕ) → bit_and n (bit_or a b) ≡ bit_or (bit_and n a) (bit_and n b)
and-or n a b = same_from_bits (bit_and n (bit_or a b)) (bit_or (bit_and n a) (bit_and n b)) (λ i.
    bit_at_and n (bit_or a b) i ∙ ap (min (bit_at n i)) (bit_at_or a b i) ∙ min-max (bit_at n i) (bit_at a i) (bit_at b i)
    ∙ sym (bit_at_or (bit_and n a) (bit_and n b) i ∙ ap (λ (x : ℕ). max x (bit_at (bit_and n b) i)) (bit_at_and n a i) ∙ ap (max (min (bit_at n i) (bit_at a i))) (bit_at_and n b i)))

none-or : (a b : ℕ) → not (bit_or a b == 0) ≡ (not (a == 0) || not (b == 0))
none-or zero zero = refl
none-or zero (suc b) = let low : suc b ≤ bit_or zero (suc b) = le_or_r zero (suc b) in grind (arith, nat_tests)
none-or (suc a) b = let low : suc a ≤ bit_or (suc a) b = le_or_l (suc a) b in grind (arith, nat_tests)

has_some-or : (n a b : ℕ) → has_some n (bit_or a b) ≡ (has_some n a || has_some n b)
has_some-or n a b = ap (λ (x : ℕ). not (x == 0)) (and-or n a b) ∙ none-or (bit_and n a) (bit_and n b)

one_bit-some : (b p : ℕ) → b < 2 → 0 < p → not (b * p == 0) ≡ (b * p == p)
one_bit-some zero p small some = grind (arith, nat_tests)
one_bit-some (suc zero) p small some = grind (arith, nat_tests)
one_bit-some (suc (suc b)) p small some = absurd (omega arith)

-- some bit of one is all of them
some-bit : (n k : ℕ) → has_some n (2 ^ k) ≡ has n (2 ^ k)
some-bit n k = ap (λ (x : ℕ). not (x == 0)) (and_pow n k) ∙ one_bit-some (bit_at n k) (2 ^ k) (omega arith) (pow_pos k) ∙ sym (ap (λ (x : ℕ). x == 2 ^ k) (and_pow n k))

and-none : (n : ℕ) → bit_and n 0 ≡ 0
and-none n = let low : bit_and n 0 ≤ 0 = and_le_r n 0 in omega arith

some-none : (n : ℕ) → has_some n 0 ≡ false
some-none n = ap (λ (x : ℕ). not (x == 0)) (and-none n)

some-where : (n k : ℕ) (test : Bool) → has_some n (bits_where test (2 ^ k)) ≡ (test && has n (2 ^ k))
some-where n k true = some-bit n k
some-where n k false = some-none n

-- the mask of the bits that are reserved in every entry of a level
pub some-reserved : (n : ℕ) (top unused : Bool) → has_some n (bit_or (bit_or above_width (bits_where top page_size)) (bits_where unused no_execute)) ≡ ((has_some n above_width || (top && has n page_size)) || (unused && has n no_execute))
some-reserved n top unused =
    has_some-or n (bit_or above_width (bits_where top page_size)) (bits_where unused no_execute)
    ∙ ap (λ (b : Bool). b || has_some n (bits_where unused no_execute)) (has_some-or n above_width (bits_where top page_size) ∙ ap (λ (b : Bool). has_some n above_width || b) (some-where n 7 top))
    ∙ ap (λ (b : Bool). (has_some n above_width || (top && has n page_size)) || b) (some-where n 63 unused)

pub ruleset masks = (some-reserved)
