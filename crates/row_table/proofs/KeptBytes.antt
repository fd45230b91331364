-- Bytes whose numbers have the same low bytes begin with the same bytes.
use Rattle.std.proofs.Common.{◌≡◌, ℕ, suc, zero, ◌+◌, ◌*◌, ◌-◌, ◌^◌, ◌%◌, ◌<◌, ◌≤◌, List, [], ◌∷◌, ◌++◌, length, take, drop, ap, sym, ◌∙◌, subst, arith, refl}
use Rattle.std.specs.Int.{w128, from_le_bytes, sum_through, byte_worth}
use Rattle.std.specs.Int.Bits.{bit_and}
use Rattle.std.specs.List.{slice_index}
use Rattle.std.proofs.Math.Nat.{add-mul-mod_self_right, mod-eq_of_lt, mul_assoc, mul-le-mul_right, le_of_mul-le-mul_right}
use Rattle.std.proofs.lemmas.List.{take-take, take-append-drop, take_more_same, length-take-le}
use Rattle.std.proofs.lemmas.Nat.{and_mask, pow-add}
use Rattle.row_table.proofs.Exact.{decoded-front, decoded-few}
use Rattle.row_table.specs.Kept.{Finds}
use Rattle.svm_model.specs.Instructions.InstructionBytes.{AreBytes}
use Rattle.svm_model.specs.Instructions.Rows.{IsForm, HasForm, decoded}
use Rattle.svm_model.specs.declared.rows.Decoded.TheVariants as decoding
use Rattle.svm_model.specs.declared.rows.Row.{Row}

cancel : (a b p : ℕ) → 0 < p → a * p ≡ b * p → a ≡ b
cancel a b p h e = omega (arith, le_of_mul-le-mul_right {m = a} {n = b} {k = p} (omega (arith, e)) h, le_of_mul-le-mul_right {m = b} {n = a} {k = p} (omega (arith, e)) h)

-- the number of the bytes up to the j-th, the lowest first
abbrev number : List ℕ → ℕ → ℕ
number bytes j = sum_through (λ i. byte_worth i (slice_index bytes i)) j

byte : (bytes : List ℕ) (i : ℕ) → AreBytes bytes → slice_index bytes i < 256
byte [] i h = omega arith
byte (b ∷ bytes) zero h = h.0
byte (b ∷ bytes) (suc i) h = byte bytes i h.1

positive : (j : ℕ) → 0 < 256 ^ j
positive zero = omega arith
positive (suc j) = omega (arith, positive j)

times : (b p : ℕ) → b < 256 → b * p + p ≤ p * 256
times b p h = let m = mul-le-mul_right p (let s : suc b ≤ 256 = omega (arith, h) in s) in omega (arith, m)

below : (bytes : List ℕ) (j : ℕ) → AreBytes bytes → number bytes j < 256 ^ suc j
below bytes zero h = omega (arith, byte bytes 0 h)
below bytes (suc j) h = omega (arith, below bytes j h, times (slice_index bytes (suc j)) (256 ^ suc j) (byte bytes (suc j) h))

-- more bytes leave the low ones
low : (bytes : List ℕ) (j m : ℕ) → AreBytes bytes → number bytes (m + j) % 256 ^ suc j ≡ number bytes j
low bytes j zero h =
    let same : 0 + j ≡ j = omega arith in
    ap (λ (n : ℕ). number bytes n % 256 ^ suc j) same ∙ mod-eq_of_lt {n = number bytes j} {m = 256 ^ suc j} (below bytes j h)
low bytes j (suc m) h =
    let b = slice_index bytes (suc (m + j)) in
    let next : suc m + j ≡ suc (m + j) = omega arith in
    let same : suc (m + j) ≡ m + suc j = omega arith in
    let split : b * 256 ^ suc (m + j) ≡ b * 256 ^ m * 256 ^ suc j = ap (λ (n : ℕ). b * 256 ^ n) same ∙ ap (λ (n : ℕ). b * n) (pow-add 256 m (suc j)) ∙ sym (mul_assoc b (256 ^ m) (256 ^ suc j)) in
    ap (λ (n : ℕ). number bytes n % 256 ^ suc j) next ∙ ap (λ (n : ℕ). (number bytes (m + j) + n) % 256 ^ suc j) split ∙ add-mul-mod_self_right (number bytes (m + j)) (b * 256 ^ m) (256 ^ suc j) ∙ low bytes j m h

but_last : (bytes : List ℕ) (j : ℕ) → AreBytes bytes → number bytes (suc j) % 256 ^ suc j ≡ number bytes j
but_last bytes j h =
    let next : suc j ≡ 1 + j = omega arith in
    ap (λ (n : ℕ). number bytes n % 256 ^ suc j) next ∙ low bytes j 1 h

one_more : (xs ys : List ℕ) (i : ℕ) → i < length xs → i < length ys → take i xs ≡ take i ys → slice_index xs i ≡ slice_index ys i → take (suc i) xs ≡ take (suc i) ys
one_more xs ys i nx ny front e =
    let next : suc i ≡ i + 1 = omega arith in
    ap (λ (n : ℕ). take n xs) next ∙ take_more_same xs ys i 0 nx ny front e ∙ ap (λ (n : ℕ). take n ys) (sym next)

-- numbers that are the same up to a byte are of the same bytes
same_front : (xs ys : List ℕ) (j : ℕ) → AreBytes xs → AreBytes ys → suc j ≤ length xs → suc j ≤ length ys → number xs j ≡ number ys j → take (suc j) xs ≡ take (suc j) ys
same_front xs ys zero hx hy nx ny e = one_more xs ys 0 (omega arith) (omega arith) refl e
same_front xs ys (suc j) hx hy nx ny e =
    let p = 256 ^ suc j in
    let lower : number xs j ≡ number ys j = sym (but_last xs j hx) ∙ ap (λ (n : ℕ). n % p) e ∙ but_last ys j hy in
    let upper : slice_index xs (suc j) * p ≡ slice_index ys (suc j) * p = omega (arith, e, lower) in
    let digit : slice_index xs (suc j) ≡ slice_index ys (suc j) = cancel (slice_index xs (suc j)) (slice_index ys (suc j)) p (positive (suc j)) upper in
    one_more xs ys (suc j) (omega arith) (omega arith) (same_front xs ys j hx hy (omega arith) (omega arith) lower) digit

bytes_of_bits : (n : ℕ) → 2 ^ (8 * n) ≡ 256 ^ n
bytes_of_bits zero = refl
bytes_of_bits (suc n) =
    let same : 8 * suc n ≡ 8 * n + 8 = omega arith in
    let split : 2 ^ (8 * suc n) ≡ 2 ^ (8 * n) * 256 = ap (λ (k : ℕ). 2 ^ k) same ∙ pow-add 2 (8 * n) 8 in
    omega (arith, split, bytes_of_bits n)

-- the low bytes of a number of sixteen bytes
masked : (bytes : List ℕ) (j : ℕ) → AreBytes bytes → j ≤ 15 → bit_and (from_le_bytes w128 bytes) (2 ^ (8 * suc j) - 1) ≡ number bytes j
masked bytes j h most =
    let all : 15 - j + j ≡ 15 = omega (arith, most) in
    and_mask (number bytes 15) (8 * suc j) ∙ ap (λ (n : ℕ). number bytes 15 % n) (bytes_of_bits (suc j)) ∙ ap (λ (n : ℕ). number bytes n % 256 ^ suc j) (sym all) ∙ low bytes j (15 - j) h

same_masked : (xs ys : List ℕ) (size : ℕ) → AreBytes xs → AreBytes ys → length xs ≡ 16 → length ys ≡ 16 → size ≤ 16 → bit_and (from_le_bytes w128 xs) (2 ^ (8 * size) - 1) ≡ bit_and (from_le_bytes w128 ys) (2 ^ (8 * size) - 1) → take size xs ≡ take size ys
same_masked xs ys zero hx hy nx ny most e = refl
same_masked xs ys (suc j) hx hy nx ny most e = same_front xs ys j hx hy (omega arith) (omega arith) (sym (masked xs j hx (omega arith)) ∙ e ∙ masked ys j hy (omega arith))

-- a row that stands at the front is what more bytes decode to
pub decoded-kept : (bytes : List ℕ) (row : Row) (size count : ℕ) → length bytes ≡ 16 → size ≤ count → count ≤ 15 → IsForm (take size bytes) row → decoding.Row row size ≡ decoded (take count bytes)
decoded-kept bytes row size count n within most f =
    let split : take size bytes ++ drop size (take count bytes) ≡ take count bytes = ap (λ (l : List ℕ). l ++ drop size (take count bytes)) (sym (take-take size count bytes within)) ∙ take-append-drop size (take count bytes) in
    sym (ap decoded (sym split) ∙ decoded-front (take size bytes) (drop size (take count bytes)) row f ∙ ap (decoding.Row row) (length-take-le size bytes (omega arith)))

-- the row of these bytes is found by each that begin so
pub Finds-of : (bytes : List ℕ) (row : Row) (size count value mask : ℕ) → AreBytes bytes → length bytes ≡ 16 → count ≤ 15 → HasForm (take count bytes) row size → value ≡ from_le_bytes w128 bytes → mask ≡ 2 ^ (8 * size) - 1 → Finds (bit_and value mask) mask row size
Finds-of bytes row size count value mask h n most f is_value is_mask =
    let within : size ≤ count = omega (arith, f.within, length-take-le count bytes (omega arith)) in
    let own : IsForm (take size bytes) row = subst (λ (l : List ℕ). IsForm l row) (take-take size count bytes within) f.form in
    record { form = λ others are many e. subst (λ (l : List ℕ). IsForm l row) (sym (same_masked others bytes size are h many n (omega arith) (sym (ap (bit_and (from_le_bytes w128 others)) is_mask) ∙ e ∙ ap (λ (v : ℕ). bit_and v mask) is_value ∙ ap (bit_and (from_le_bytes w128 bytes)) is_mask))) own }

-- where more bytes are wanted, there are fewer than fifteen
pub decoded-kept-few : (bytes : List ℕ) (count : ℕ) → length bytes ≡ 16 → count ≤ 15 → decoded (take count bytes) ≡ decoding.More → count < 15
decoded-kept-few bytes count n most e = omega (arith, decoded-few (take count bytes) e, length-take-le count bytes (omega arith))
