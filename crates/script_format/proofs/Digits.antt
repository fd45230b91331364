-- Digits that are read from the left, as a loop does.
use Rattle.std.proofs.Common.{◌≡◌, ℕ, ◌+◌, ◌*◌, ◌^◌, ◌≤◌, ◌<◌, ◌∙◌, List, [], ◌∷◌, Bool, true, false, ◌&&◌, cond, ltb, Result, Ok, Err, length, ◌==◌, drop, get_or, refl, sym, ap, subst, arith, add-one, drop-cons}
use Rattle.std.specs.List.{list_all}
use Rattle.std.proofs.lemmas.List.{drop_all}
use Rattle.std.proofs.Math.Nat.{le-mul_of_pos_right, mul_comm}
use Rattle.std.proofs.lemmas.Bool.{le-ltb, lt-ltb}
use Rattle.svm_model.specs.Formats.ScriptWords.{digit_of, digits_in, value_from}
use Rattle.svm_model.specs.declared.formats.ScriptReason.{ScriptReason}
use Rattle.svm_model.specs.declared.formats.ScriptReason.TheVariants.{Number}

-- what the digits behind a number make of it
abbrev pub digits_left : ℕ → ℕ → List ℕ → Result ℕ ScriptReason
digits_left base front bytes = cond (list_all (λ b. ltb (digit_of b) base) bytes && ltb (value_from base front bytes) (2 ^ 64)) (Ok (value_from base front bytes)) (Err Number)

grown : (base front digit : ℕ) → 1 ≤ base → front ≤ base * front + digit
grown base front digit h =
    let more : front ≤ front * base = le-mul_of_pos_right {m = base} front (omega arith) in
    omega (arith, more, mul_comm front base)

-- a number only grows
value_from-grows : (base front : ℕ) (bytes : List ℕ) → 1 ≤ base → front ≤ value_from base front bytes
unfolding value_from
value_from-grows base front [] h = omega arith
value_from-grows base front (a ∷ bytes) h = omega (arith, grown base front (digit_of a) h, value_from-grows base (base * front + digit_of a) bytes h)

refused : (good : Bool) (n : ℕ) → 2 ^ 64 ≤ n → cond (good && ltb n (2 ^ 64)) (Ok n) (Err Number) ≡ Err Number
refused true n h = rw (le-ltb n (2 ^ 64) h) refl
refused false n h = refl

too_large : (base front a : ℕ) (bytes : List ℕ) → 1 ≤ base → 2 ^ 64 ≤ base * front + digit_of a → digits_left base front (a ∷ bytes) ≡ Err Number
unfolding value_from
too_large base front a bytes some h =
    let large : 2 ^ 64 ≤ value_from base (base * front + digit_of a) bytes = omega (arith, value_from-grows base (base * front + digit_of a) bytes some) in
    refused (list_all (λ b. ltb (digit_of b) base) (a ∷ bytes)) (value_from base (base * front + digit_of a) bytes) large

one_more : (base front a : ℕ) (bytes : List ℕ) → digit_of a < base → digits_left base front (a ∷ bytes) ≡ digits_left base (base * front + digit_of a) bytes
unfolding value_from
one_more base front a bytes h = rw (lt-ltb (digit_of a) base h) refl

all_read : (base front : ℕ) → front < 2 ^ 64 → digits_left base front [] ≡ Ok front
unfolding value_from
all_read base front h = rw (lt-ltb front (2 ^ 64) h) refl

some_digits : (base : ℕ) (bytes : List ℕ) → false ≡ (length bytes == 0) → digits_in base bytes ≡ digits_left base 0 bytes
some_digits base bytes h = rw (sym h) refl

next : (bytes : List ℕ) (i : ℕ) → i < length bytes → drop i bytes ≡ get_or bytes i 0 ∷ drop (i + 1) bytes
next bytes i h = rw add-one (drop-cons bytes i 0 h)

-- a digit makes the number too large
pub refuses : (base front digit i : ℕ) (bytes : List ℕ) → i < length bytes → 1 ≤ base → false ≡ (length bytes == 0) → digit ≡ digit_of (get_or bytes i 0) → 2 ^ 64 ≤ base * front + digit
    → digits_left base front (drop i bytes) ≡ digits_left base 0 bytes → Err Number ≡ digits_in base bytes
refuses base front digit i bytes within some full is large so_far =
    let above : 2 ^ 64 ≤ base * front + digit_of (get_or bytes i 0) = subst (λ d. 2 ^ 64 ≤ base * front + d) is large in
    sym (too_large base front (get_or bytes i 0) (drop (i + 1) bytes) some above)
    ∙ ap (digits_left base front) (sym (next bytes i within))
    ∙ so_far
    ∙ sym (some_digits base bytes full)

-- a digit is read
pub goes_on : (base front digit i : ℕ) (bytes : List ℕ) → i < length bytes → digit ≡ digit_of (get_or bytes i 0) → digit < base
    → digits_left base front (drop i bytes) ≡ digits_left base 0 bytes → digits_left base (base * front + digit) (drop (i + 1) bytes) ≡ digits_left base 0 bytes
goes_on base front digit i bytes within is small so_far =
    let below : digit_of (get_or bytes i 0) < base = subst (λ d. d < base) is small in
    ap (λ d. digits_left base (base * front + d) (drop (i + 1) bytes)) is
    ∙ sym (one_more base front (get_or bytes i 0) (drop (i + 1) bytes) below)
    ∙ ap (digits_left base front) (sym (next bytes i within))
    ∙ so_far

-- no digit is left
pub is_done : (base front i : ℕ) (bytes : List ℕ) → length bytes ≤ i → false ≡ (length bytes == 0) → front < 2 ^ 64
    → digits_left base front (drop i bytes) ≡ digits_left base 0 bytes → Ok front ≡ digits_in base bytes
is_done base front i bytes within full fits so_far =
    sym (all_read base front fits)
    ∙ ap (digits_left base front) (sym (drop_all i bytes within))
    ∙ so_far
    ∙ sym (some_digits base bytes full)
