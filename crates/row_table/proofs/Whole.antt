-- A whole form is a reader.
use Rattle.std.proofs.Common.{◌≡◌, ◌==◌, ℕ, zero, suc, ◌+◌, ◌*◌, ◌/◌, ◌%◌, ◌<◌, ◌≤◌, ◌⊎◌, inl, inr, List, [], ◌∷◌, ◌++◌, Bool, true, false, cond, Option, Some, None, Ok, Err, refl, sym, ap, ◌∙◌, subst, arith, lit≤, lit<}
use Rattle.std.proofs.lemmas.Bool.Decides.{nat_tests}
use Rattle.std.specs.Prelude.{if◌then◌else◌}
use Rattle.row_table.proofs.Bind.{IsReader-then}
use Rattle.row_table.proofs.Opening.{IsSteady, IsReader-opened}
use Rattle.row_table.proofs.Parts.{IsReader-mapped, IsReader-operand_field, IsReader-immediate}
use Rattle.row_table.proofs.Readers.{Reader, Takes, Waits, Refuses, IsReader}
use Rattle.row_table.proofs.Single.{IsReader-same}
use Rattle.svm_model.specs.Instructions.Decoding.{line_at, modrm_at, after_first, opened_at, body_at, row_at, form_at}
use Rattle.svm_model.specs.Instructions.RowParts.{width_of, row_of, immediate_at, operand_field_at}
use Rattle.svm_model.specs.Instructions.InstructionBytes.{byte_at}
use Rattle.svm_model.specs.Instructions.ModRm.{operand_at}
use Rattle.svm_model.specs.Instructions.Prefixes.{no_prefix, with_prefix, prefixes_of, no_rex, is_rex, rex_of, rex_and_rest}
use Rattle.svm_model.specs.Instructions.RowLines.{first_where}
use Rattle.svm_model.specs.Instructions.RowTable.{table}
use Rattle.svm_model.specs.declared.row_lines.Prefixes.{Prefixes}
use Rattle.svm_model.specs.declared.row_lines.Rex.{Rex}
use Rattle.svm_model.specs.declared.row_lines.Unread.TheVariants.{More, Unlisted}
use Rattle.svm_model.specs.declared.rows.Row.{Row}

IsReader-body : (p : Prefixes) (r : Rex) → IsSteady r → IsReader (body_at p r)
unfolding body_at
IsReader-body p r steady =
    IsReader-then (opened_at p r) _ (IsReader-opened p r steady) (λ o.
    IsReader-then (operand_field_at p.segment r o) _ (IsReader-operand_field p.segment r o) (λ x.
    IsReader-mapped (λ i. row_of p r o x i) (immediate_at o.line.immediate (width_of o.line.size p r)) (IsReader-immediate o.line.immediate (width_of o.line.size p r))))

abbrev at_byte : {S X : Type 0} → Option S → (S → Reader X) → Reader X → ℕ → Reader X
at_byte (Some s) p q b bs = p s bs
at_byte None p q b bs = q (b ∷ bs)

-- a byte for a first reader, or else the whole for a second
abbrev peek : {S X : Type 0} → (ℕ → Option S) → (S → Reader X) → Reader X → Reader X
peek f p q [] = q []
peek f p q (b ∷ bs) = at_byte (f b) p q b bs

module _ {S X : Type 0} (f : ℕ → Option S) (p : S → Reader X) (q : Reader X) (first : (b : ℕ) (s : S) → f b ≡ Some s → IsReader (p s)) (second : IsReader q) (starts : q [] ≡ Err More) (lives : Waits (peek f p q) []) where
  peek-takes_at : (b : ℕ) (bs : List ℕ) (x : X) (rest : List ℕ) (o : Option S) → f b ≡ o → at_byte o p q b bs ≡ Ok (x, rest) → Takes (peek f p q) (b ∷ bs) x rest
  peek-takes_at b bs x rest (Some s) is e =
      let t = (first b s is).takes bs x rest e in
      record { front = b ∷ t.front; split = ap (λ r. b ∷ r) t.split; again = λ more. ap (λ o. at_byte o p q b (t.front ++ more)) is ∙ t.again more }
  peek-takes_at b bs x rest None is e =
      let t = second.takes (b ∷ bs) x rest e in
      from_front t.front t.split t.again where
        from_front : (front : List ℕ) → b ∷ bs ≡ front ++ rest → ((more : List ℕ) → q (front ++ more) ≡ Ok (x, more)) → Takes (peek f p q) (b ∷ bs) x rest
        from_front [] split again = absurd (let a : q [] ≡ Ok (x, []) = again [] in cc)
        from_front (c ∷ front) split again =
            let same : b ≡ c = cc in
            record { front = c ∷ front; split = split; again = λ more. ap (λ o. at_byte o p q c (front ++ more)) (ap f (sym same) ∙ is) ∙ again more }

  peek-takes : (bs : List ℕ) (x : X) (rest : List ℕ) → peek f p q bs ≡ Ok (x, rest) → Takes (peek f p q) bs x rest
  peek-takes [] x rest e = absurd (cc)
  peek-takes (b ∷ bs) x rest e = peek-takes_at b bs x rest (f b) refl e

  peek-waits_at : (b : ℕ) (bs : List ℕ) (o : Option S) → f b ≡ o → at_byte o p q b bs ≡ Err More → Waits (peek f p q) (b ∷ bs)
  peek-waits_at b bs (Some s) is e =
      let w = (first b s is).waits bs e in
      record { next = w.next; bytes = w.bytes; value = w.value; read = ap (λ o. at_byte o p q b (bs ++ w.next)) is ∙ w.read }
  peek-waits_at b bs None is e =
      let w = second.waits (b ∷ bs) e in
      record { next = w.next; bytes = w.bytes; value = w.value; read = ap (λ o. at_byte o p q b (bs ++ w.next)) is ∙ w.read }

  peek-waits : (bs : List ℕ) → peek f p q bs ≡ Err More → Waits (peek f p q) bs
  peek-waits [] e = lives
  peek-waits (b ∷ bs) e = peek-waits_at b bs (f b) refl e

  peek-refuses_at : (b : ℕ) (bs : List ℕ) (c : ℕ) (o : Option S) → f b ≡ o → at_byte o p q b bs ≡ Err (Unlisted c) → Refuses (peek f p q) (b ∷ bs) c
  peek-refuses_at b bs c (Some s) is e =
      let r = (first b s is).refuses bs c e in
      record { front = b ∷ r.front; rest = r.rest; split = ap (λ r. b ∷ r) r.split; waits = ap (λ o. at_byte o p q b r.front) is ∙ r.waits; again = λ more. ap (λ o. at_byte o p q b (r.front ++ c ∷ more)) is ∙ r.again more }
  peek-refuses_at b bs c None is e =
      let r = second.refuses (b ∷ bs) c e in
      from_front r.front r.rest r.split r.waits r.again where
        from_front : (front rest : List ℕ) → b ∷ bs ≡ front ++ c ∷ rest → q front ≡ Err More → ((more : List ℕ) → q (front ++ c ∷ more) ≡ Err (Unlisted c)) → Refuses (peek f p q) (b ∷ bs) c
        from_front [] rest split waits again =
            let same : b ≡ c = cc in
            record { front = []; rest = rest; split = split; waits = starts; again = λ more. ap (λ o. at_byte o p q c more) (ap f (sym same) ∙ is) ∙ again more }
        from_front (d ∷ front) rest split waits again =
            let same : b ≡ d = cc in
            let here = ap f (sym same) ∙ is in
            record { front = d ∷ front; rest = rest; split = split; waits = ap (λ o. at_byte o p q d front) here ∙ waits; again = λ more. ap (λ o. at_byte o p q d (front ++ c ∷ more)) here ∙ again more }

  peek-refuses : (bs : List ℕ) (c : ℕ) → peek f p q bs ≡ Err (Unlisted c) → Refuses (peek f p q) bs c
  peek-refuses [] c e = absurd (cc)
  peek-refuses (b ∷ bs) c e = peek-refuses_at b bs c (f b) refl e

  IsReader-peek : IsReader (peek f p q)
  IsReader-peek = record { takes = peek-takes; waits = peek-waits; refuses = peek-refuses }

-- the REX prefix
rex_given : ℕ → Option Rex
rex_given b = if is_rex b then Some (rex_of b) else None

row_at-peek : (p : Prefixes) (bs : List ℕ) → row_at p bs ≡ peek rex_given (body_at p) (body_at p no_rex) bs
unfolding rex_and_rest rex_given
row_at-peek p [] = refl
row_at-peek p (b ∷ bs) = go (is_rex b) where
  go : (t : Bool) → (let r : Rex × List ℕ = cond t (rex_of b, bs) (no_rex, b ∷ bs) in body_at p r.0 r.1) ≡ at_byte (cond t (Some (rex_of b)) None) (body_at p) (body_at p no_rex) b bs
  go true = refl
  go false = refl

rex_of-steady : (b : ℕ) → IsSteady (rex_of b)
rex_of-steady b = bit (b / 4 % 2) (omega arith) where
  bit : (n : ℕ) → n < 2 → (8 * n ≡ 0) ⊎ (8 * n ≡ 8)
  bit zero h = inl refl
  bit (suc zero) h = inr refl
  bit (suc (suc n)) h = absurd (omega arith)

rex_given-steady : (b : ℕ) (r : Rex) → rex_given b ≡ Some r → IsSteady r
unfolding rex_given
rex_given-steady b r e = go (is_rex b) e where
  go : (t : Bool) → cond t (Some (rex_of b)) None ≡ Some r → IsSteady r
  go true e = let same : rex_of b ≡ r = cc in subst IsSteady same (rex_of-steady b)
  go false e = absurd (cc)

body_starts : (p : Prefixes) (r : Rex) → body_at p r [] ≡ Err More
unfolding body_at opened_at byte_at
body_starts p r = refl

-- ADD of EAX to EAX stands after any prefixes
row_lives : (p : Prefixes) → Waits (peek rex_given (body_at p) (body_at p no_rex)) []
unfolding rex_given body_at opened_at after_first line_at modrm_at operand_field_at operand_at immediate_at byte_at first_where table
row_lives p = record { next = 1 ∷ 0xC0 ∷ []; bytes = (lit< tt, (lit< tt, tt)); value = _; read = refl }

IsReader-row : (p : Prefixes) → IsReader (row_at p)
IsReader-row p =
    IsReader-same (row_at p) (peek rex_given (body_at p) (body_at p no_rex)) (row_at-peek p)
    (IsReader-peek rex_given (body_at p) (body_at p no_rex) (λ b s e. IsReader-body p s (rex_given-steady b s e)) (IsReader-body p no_rex (inl refl)) (body_starts p no_rex) (row_lives p))

-- how many prefixes may still stand
unfoldable pub room : Prefixes → ℕ
room p = cond p.operand_size 0 1 + cond p.lock 0 1 + cond (p.segment == 0) 1 0

pub room-falls : (p q : Prefixes) (b : ℕ) → with_prefix p b ≡ Some q → room q < room p
unfolding room
room-falls p q b e = grind (arith, nat_tests)

abbrev prefixed : Prefixes → Reader Row
prefixed p bs = let f = prefixes_of p bs in row_at f.0 f.1

prefixed-peek : (p : Prefixes) (bs : List ℕ) → prefixed p bs ≡ peek (with_prefix p) prefixed (row_at p) bs
unfolding prefixes_of
prefixed-peek p [] = refl
prefixed-peek p (b ∷ bs) = go (with_prefix p b) where
  go : (o : Option Prefixes) → (let f : Prefixes × List ℕ = elim o [ Some q ↦ prefixes_of q bs | None ↦ (p, b ∷ bs) ] in row_at f.0 f.1) ≡ at_byte o prefixed (row_at p) b bs
  go (Some q) = refl
  go None = refl

row_starts : (p : Prefixes) → row_at p [] ≡ Err More
unfolding rex_and_rest
row_starts p = body_starts p no_rex

prefixed_lives : (p : Prefixes) → Waits (prefixed p) []
unfolding prefixes_of rex_and_rest body_at opened_at after_first line_at modrm_at operand_field_at operand_at immediate_at byte_at first_where table
prefixed_lives p = record { next = 1 ∷ 0xC0 ∷ []; bytes = (lit< tt, (lit< tt, tt)); value = _; read = refl }

peek_lives : (p : Prefixes) → Waits (peek (with_prefix p) prefixed (row_at p)) []
peek_lives p = let w = prefixed_lives p in record { next = w.next; bytes = w.bytes; value = w.value; read = sym (prefixed-peek p w.next) ∙ w.read }

IsReader-prefixed : (n : ℕ) (p : Prefixes) → room p ≤ n → IsReader (prefixed p)
IsReader-prefixed zero p h =
    IsReader-same (prefixed p) (peek (with_prefix p) prefixed (row_at p)) (prefixed-peek p)
    (IsReader-peek (with_prefix p) prefixed (row_at p) (λ b q e. absurd (omega (arith, room-falls p q b e))) (IsReader-row p) (row_starts p) (peek_lives p))
IsReader-prefixed (suc n) p h =
    IsReader-same (prefixed p) (peek (with_prefix p) prefixed (row_at p)) (prefixed-peek p)
    (IsReader-peek (with_prefix p) prefixed (row_at p) (λ b q e. IsReader-prefixed n q (omega (arith, room-falls p q b e))) (IsReader-row p) (row_starts p) (peek_lives p))

pub IsReader-form : IsReader form_at
unfolding room
IsReader-form = IsReader-prefixed 3 no_prefix (lit≤ tt)

-- nothing is no form
pub form_starts : form_at [] ≡ Err More
unfolding prefixes_of
form_starts = row_starts no_prefix
