-- The number that a word says.
use Rattle.std.proofs.Common.{◌≡◌, ◌∙◌, ℕ, ◌<◌, ◌≤◌, ◌^◌, ◌&&◌, nat_le, Bool, true, false, if◌then◌else◌, List, Option, Some, None, Result, Ok, Err, ap, refl, sym, arith, true≢false}
use Rattle.std.specs.Fmt.{decimal}
use Rattle.std.specs.Str.{bytes_eq}
use Rattle.std.specs.Str.Parse.{ParsesUnsigned, digits_value}
use Rattle.std.proofs.lemmas.Bool.Decides.{nat_tests}
use Rattle.std.proofs.lemmas.Fmt.{decimal_is_IsNumeral, parse-decimal}
use Rattle.std.proofs.lemmas.Slice.Eq.{bytes_eq-Decides}
use Rattle.svm_run.specs.Words.{number_of}

none-unless : (b : Bool) (n : ℕ) → (b ≡ true → ⊥) → (if b then Some n else None) ≡ None
none-unless true n h = absurd (h refl)
none-unless false n h = refl

both : (b c : Bool) → (b && c) ≡ true → (b ≡ true) × (c ≡ true)
both true true h = (refl, refl)
both true false h = absurd (cc)
both false c h = absurd (cc)

-- what is told of a word that was read so
abbrev pub read_as : {E : Type 0} → ℕ → List ℕ → Result ℕ E → Option ℕ
read_as most word (Ok n) = if bytes_eq word (decimal n) && nat_le n most then Some n else None
read_as most word (Err e) = None

-- a word that is the text of a number up to the most is read as that number
read_right : {E : Type 0} (most : ℕ) (word : List ℕ) (r : Result ℕ E) → most < 2 ^ 32 → ParsesUnsigned 32 10 word r →
    (bytes_eq word (decimal (digits_value 10 word)) && nat_le (digits_value 10 word) most) ≡ true → r ≡ Ok (digits_value 10 word)
read_right most word r small parses t =
    let parts = both _ _ t in
    let few : digits_value 10 word ≤ most = grind (arith, nat_tests, parts.1) in
    parse-decimal 32 (digits_value 10 word) word r (omega (arith, few, small)) (omega (arith, few, small)) ((bytes_eq-Decides word (decimal (digits_value 10 word))).0 parts.0) parses

pub number_by : {E : Type 0} (most : ℕ) (word : List ℕ) (r : Result ℕ E) → most < 2 ^ 32 → ParsesUnsigned 32 10 word r → number_of most word ≡ read_as most word r
number_by most word (Err e) small parses = none-unless _ _ (λ t. let same = read_right most word (Err e) small parses t in absurd (cc))
number_by {E = E} most word (Ok n) small parses = by (bytes_eq word (decimal n)) refl
  where
    fits : n < 2 ^ 64
    fits = let value = parses.1 in let few = parses.0.1 in omega (arith, value, few)

    by : (b : Bool) → bytes_eq word (decimal n) ≡ b → number_of most word ≡ read_as {E = E} most word (Ok n)
    by true t =
        let text = (bytes_eq-Decides word (decimal n)).0 t in
        let value : digits_value 10 word ≡ n = ap (digits_value 10) text ∙ (decimal_is_IsNumeral n fits).1 in
        rw value refl
    by false t = none-unless _ _ (λ u.
        let same : ◌≡◌ {A = Result ℕ E} (Ok n) (Ok (digits_value 10 word)) = read_right most word (Ok n) small parses u in
        let value : n ≡ digits_value 10 word = cc in
        let text : bytes_eq word (decimal (digits_value 10 word)) ≡ true = (both _ _ u).0 in
        let also : bytes_eq word (decimal n) ≡ true = ap (λ k. bytes_eq word (decimal k)) value ∙ text in
        true≢false (sym also ∙ t)) ∙ rw t refl

-- what is told of a number by the two tests
module _ (most : ℕ) (word : List ℕ) (n : ℕ) where
  pub other_text : bytes_eq word (decimal n) ≡ false → None ≡ (if bytes_eq word (decimal n) && nat_le n most then Some n else None)
  other_text h = rw h refl

  pub too_large : most < n → None ≡ (if bytes_eq word (decimal n) && nat_le n most then Some n else None)
  too_large h =
      let no : nat_le n most ≡ false = grind (arith, nat_tests) in
      sym (none-unless _ n (λ t. true≢false (sym (both _ _ t).1 ∙ no)))

  pub told : bytes_eq word (decimal n) ≡ true → n ≤ most → Some n ≡ (if bytes_eq word (decimal n) && nat_le n most then Some n else None)
  told h few =
      let yes : nat_le n most ≡ true = grind (arith, nat_tests) in
      rw (h, yes) refl
