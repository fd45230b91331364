-- Sets of vectors, byte by byte.
use Rattle.std.proofs.Common.{◌≡◌, ◌∙◌, ℕ, zero, suc, ◌+◌, ◌*◌, ◌/◌, ◌%◌, ◌^◌, ◌<◌, ◌≤◌, false, ◌==◌, List, [], ◌∷◌, drop, take, length, ap, refl, sym, arith, slice_index}
use Rattle.std.proofs.lemmas.Bool.Decides.{nat_tests}
use Rattle.std.proofs.lemmas.List.{get_or-drop, length-drop}
use Rattle.std.proofs.lemmas.Nat.{pow_pos}
use Rattle.std.specs.Int.{w32, w64, from_le_bytes}
use Rattle.std.specs.Int.Bits.{and_zero_l}
use Rattle.svm_model.specs.Machine.Apic.{has_vector, highest_below}
use Rattle.svm_model.specs.Memory.Bits.{has}
use Rattle.svm_model.specs.Memory.Bytes.{value_of_bytes}

differs : (b : ℕ) → 0 < b → (0 == b) ≡ false
differs b h = grind (arith, nat_tests, h)

none : (b : ℕ) → 0 < b → has 0 b ≡ false
none b h = ap (λ (n : ℕ). n == b) (and_zero_l b) ∙ differs b h

-- a vector whose byte is 0 is not in the set
pub has_vector-zero : (set : List ℕ) (b k : ℕ) → k < 8 → slice_index set b ≡ 0 → has_vector set (8 * b + k) ≡ false
has_vector-zero set b k h e =
    let place : (8 * b + k) / 8 ≡ b = omega arith in
    ap (λ (n : ℕ). has (slice_index set n) (2 ^ ((8 * b + k) % 8))) place
    ∙ ap (λ (n : ℕ). has n (2 ^ ((8 * b + k) % 8))) e
    ∙ none (2 ^ ((8 * b + k) % 8)) (pow_pos ((8 * b + k) % 8))

-- what is not in the set is passed over
pub highest_below-next : (set : List ℕ) (n : ℕ) → has_vector set n ≡ false → highest_below (suc n) set ≡ highest_below n set
unfolding highest_below
highest_below-next set n e = rw e refl

step : (set : List ℕ) (b k m n : ℕ) → slice_index set b ≡ 0 → k < 8 → n ≡ 8 * b + k → m ≡ n + 1 → highest_below m set ≡ highest_below n set
step set b k m n e h here up =
    let none : has_vector set n ≡ false = ap (has_vector set) here ∙ has_vector-zero set b k h e in
    let one : m ≡ suc n = omega (arith, up) in
    ap (λ (i : ℕ). highest_below i set) one ∙ highest_below-next set n none

-- a byte that is 0 is passed over whole
pub highest_below-byte : (set : List ℕ) (b m n : ℕ) → slice_index set b ≡ 0 → n ≡ 8 * b → m ≡ n + 8 → highest_below m set ≡ highest_below n set
highest_below-byte set b m n e here up =
    let go : (k : ℕ) → k < 8 → highest_below (n + k + 1) set ≡ highest_below (n + k) set
    = λ k h. step set b k (n + k + 1) (n + k) e h (omega (arith, here)) refl in
    let last : n + 0 ≡ n = omega arith in
    let first : m ≡ n + 7 + 1 = omega (arith, up) in
    let at : (i j : ℕ) → i ≡ j → highest_below i set ≡ highest_below j set = λ i j same. ap (λ (l : ℕ). highest_below l set) same in
    at m (n + 7 + 1) first ∙ go 7 (omega arith) ∙ at (n + 7) (n + 6 + 1) (omega arith) ∙ go 6 (omega arith)
    ∙ at (n + 6) (n + 5 + 1) (omega arith) ∙ go 5 (omega arith) ∙ at (n + 5) (n + 4 + 1) (omega arith) ∙ go 4 (omega arith)
    ∙ at (n + 4) (n + 3 + 1) (omega arith) ∙ go 3 (omega arith) ∙ at (n + 3) (n + 2 + 1) (omega arith) ∙ go 2 (omega arith)
    ∙ at (n + 2) (n + 1 + 1) (omega arith) ∙ go 1 (omega arith) ∙ at (n + 1) (n + 0 + 1) (omega arith) ∙ go 0 (omega arith)
    ∙ at (n + 0) n last

-- four bytes are the same number with zeros behind them
pub four_bytes : (set : List ℕ) → 4 ≤ length set → from_le_bytes w32 (take 4 set) ≡ value_of_bytes (take 4 set)
unfolding value_of_bytes
four_bytes [] h = absurd (omega (arith, h))
four_bytes (a ∷ []) h = absurd (omega (arith, h))
four_bytes (a ∷ b ∷ []) h = absurd (omega (arith, h))
four_bytes (a ∷ b ∷ c ∷ []) h = absurd (omega (arith, h))
four_bytes (a ∷ b ∷ c ∷ d ∷ set) h = omega arith

-- each of eight bytes that are 0 as a number is 0
zero-eight : (set : List ℕ) → 8 ≤ length set → from_le_bytes w64 (take 8 set) ≡ 0 → (k : ℕ) → k < 8 → slice_index set k ≡ 0
zero-eight [] long sum k under = absurd (omega (arith, long))
zero-eight (a ∷ []) long sum k under = absurd (omega (arith, long))
zero-eight (a ∷ b ∷ []) long sum k under = absurd (omega (arith, long))
zero-eight (a ∷ b ∷ c ∷ []) long sum k under = absurd (omega (arith, long))
zero-eight (a ∷ b ∷ c ∷ d ∷ []) long sum k under = absurd (omega (arith, long))
zero-eight (a ∷ b ∷ c ∷ d ∷ e ∷ []) long sum k under = absurd (omega (arith, long))
zero-eight (a ∷ b ∷ c ∷ d ∷ e ∷ f ∷ []) long sum k under = absurd (omega (arith, long))
zero-eight (a ∷ b ∷ c ∷ d ∷ e ∷ f ∷ g ∷ []) long sum k under = absurd (omega (arith, long))
zero-eight (a ∷ b ∷ c ∷ d ∷ e ∷ f ∷ g ∷ h ∷ set) long sum zero under = omega (arith, sum)
zero-eight (a ∷ b ∷ c ∷ d ∷ e ∷ f ∷ g ∷ h ∷ set) long sum (suc zero) under = omega (arith, sum)
zero-eight (a ∷ b ∷ c ∷ d ∷ e ∷ f ∷ g ∷ h ∷ set) long sum (suc (suc zero)) under = omega (arith, sum)
zero-eight (a ∷ b ∷ c ∷ d ∷ e ∷ f ∷ g ∷ h ∷ set) long sum (suc (suc (suc zero))) under = omega (arith, sum)
zero-eight (a ∷ b ∷ c ∷ d ∷ e ∷ f ∷ g ∷ h ∷ set) long sum (suc (suc (suc (suc zero)))) under = omega (arith, sum)
zero-eight (a ∷ b ∷ c ∷ d ∷ e ∷ f ∷ g ∷ h ∷ set) long sum (suc (suc (suc (suc (suc zero))))) under = omega (arith, sum)
zero-eight (a ∷ b ∷ c ∷ d ∷ e ∷ f ∷ g ∷ h ∷ set) long sum (suc (suc (suc (suc (suc (suc zero)))))) under = omega (arith, sum)
zero-eight (a ∷ b ∷ c ∷ d ∷ e ∷ f ∷ g ∷ h ∷ set) long sum (suc (suc (suc (suc (suc (suc (suc zero))))))) under = omega (arith, sum)
zero-eight (a ∷ b ∷ c ∷ d ∷ e ∷ f ∷ g ∷ h ∷ set) long sum (suc (suc (suc (suc (suc (suc (suc (suc k)))))))) under = absurd (omega (arith, under))

-- eight bytes that are 0 are passed over at once
pub highest_below-eight : (set : List ℕ) (b m n : ℕ) → b + 8 ≤ length set → from_le_bytes w64 (take 8 (drop b set)) ≡ 0 → n ≡ 8 * b → m ≡ n + 64 → highest_below m set ≡ highest_below n set
highest_below-eight set b m n long e here up =
    let none : (k : ℕ) → k < 8 → slice_index set (b + k) ≡ 0
    = λ k h. sym (get_or-drop b set k 0) ∙ zero-eight (drop b set) (omega (arith, long, length-drop b set)) e k h in
    let byte : (k i j : ℕ) → k < 8 → i ≡ n + 8 * k → j ≡ i + 8 → highest_below j set ≡ highest_below i set
    = λ k i j h is next. highest_below-byte set (b + k) j i (none k h) (omega (arith, here, is)) next in
    byte 7 (n + 56) m (omega arith) (omega arith) (omega (arith, up)) ∙ byte 6 (n + 48) (n + 56) (omega arith) (omega arith) (omega arith)
    ∙ byte 5 (n + 40) (n + 48) (omega arith) (omega arith) (omega arith) ∙ byte 4 (n + 32) (n + 40) (omega arith) (omega arith) (omega arith)
    ∙ byte 3 (n + 24) (n + 32) (omega arith) (omega arith) (omega arith) ∙ byte 2 (n + 16) (n + 24) (omega arith) (omega arith) (omega arith)
    ∙ byte 1 (n + 8) (n + 16) (omega arith) (omega arith) (omega arith) ∙ byte 0 n (n + 8) (omega arith) (omega arith) (omega arith)
