-- The readers that others are made of.
use Rattle.std.proofs.Common.{◌≡◌, ℕ, ◌<◌, ◌⊎◌, inl, inr, List, [], ◌∷◌, ◌++◌, Bool, true, false, cond, Result, Ok, Err, refl, sym, ap, ◌∙◌, subst}
use Rattle.svm_model.specs.declared.row_lines.Unread.{Unread}
use Rattle.svm_model.specs.declared.row_lines.Unread.TheVariants.{More, Unlisted}
use Rattle.svm_model.specs.Instructions.InstructionBytes.{◌>>=◌, byte_at}
use Rattle.row_table.proofs.Readers.{Reader, Takes, Waits, Refuses, IsReader}
use Rattle.row_table.proofs.Bind.{rest-nil, no_byte}

abbrev pub pure : {X : Type 0} → X → Reader X
pure x bs = Ok (x, bs)

abbrev value_of : {X : Type 0} → Result (X × List ℕ) Unread → X → X
value_of (Ok x) d = x.0
value_of (Err e) d = d

abbrev after : {X : Type 0} → Result (X × List ℕ) Unread → List ℕ → List ℕ
after (Ok x) d = x.1
after (Err e) d = d

pub IsReader-pure : {X : Type 0} (x : X) → IsReader (pure x)
IsReader-pure x = record {
  takes = λ bs y rest e. record { front = []; split = ap (λ r. after r bs) e; again = λ more. ap (λ y. Ok (y, more)) (ap (λ r. value_of r x) e) };
  waits = λ bs e. absurd (cc);
  refuses = λ bs b e. absurd (cc);
}

pub IsReader-same : {X : Type 0} (p q : Reader X) → ((bs : List ℕ) → p bs ≡ q bs) → IsReader q → IsReader p
IsReader-same p q h r = record {
  takes = λ bs x rest e. let t = r.takes bs x rest (sym (h bs) ∙ e) in record { front = t.front; split = t.split; again = λ more. h (t.front ++ more) ∙ t.again more };
  waits = λ bs e. let w = r.waits bs (sym (h bs) ∙ e) in record { next = w.next; bytes = w.bytes; value = w.value; read = h (bs ++ w.next) ∙ w.read };
  refuses = λ bs b e. let f = r.refuses bs b (sym (h bs) ∙ e) in record { front = f.front; rest = f.rest; split = f.split; waits = h f.front ∙ f.waits; again = λ more. h (f.front ++ b ∷ more) ∙ f.again more };
}

pub IsReader-cond : {X : Type 0} (b : Bool) (p q : Reader X) → IsReader p → IsReader q → IsReader (λ bs. cond b (p bs) (q bs))
IsReader-cond true p q f g = f
IsReader-cond false p q f g = g

-- a byte, and then a reader or a refusal of that byte
abbrev pub on_byte : {X : Type 0} → (ℕ → Reader X) → Reader X
on_byte k bs = byte_at bs >>= (λ b. k b.0 b.1)

abbrev pub IsRefusal : {X : Type 0} → ℕ → Reader X → Type 0
IsRefusal b p = (bs : List ℕ) → p bs ≡ Err (Unlisted b)

module _ {X : Type 0} (k : ℕ → Reader X) (each : (b : ℕ) → IsReader (k b) ⊎ IsRefusal b (k b)) (live : ℕ) (small : live < 256) (lives : IsReader (k live)) where
  on_byte-takes : (bs : List ℕ) (x : X) (rest : List ℕ) → on_byte k bs ≡ Ok (x, rest) → Takes (on_byte k) bs x rest
  unfolding byte_at
  on_byte-takes [] x rest e = absurd (cc)
  on_byte-takes (b ∷ bs) x rest e =
      elim (each b) [
        | inl r ↦
            let t = r.takes bs x rest e in
            record { front = b ∷ t.front; split = ap (λ r. b ∷ r) t.split; again = t.again }
        | inr r ↦ let f = r bs in absurd (cc)
      ]

  at_end : (r : Result (X × List ℕ) Unread) → k live [] ≡ r → Waits (on_byte k) []
  unfolding byte_at
  at_end (Ok x) e = record { next = live ∷ []; bytes = (small, tt); value = x.0; read = e ∙ ap (λ r. Ok (x.0, r)) (let t = lives.takes [] x.0 x.1 e in rest-nil t.front x.1 t.split) }
  at_end (Err More) e = let w = lives.waits [] e in record { next = live ∷ w.next; bytes = (small, w.bytes); value = w.value; read = w.read }
  at_end (Err (Unlisted b)) e = let r = lives.refuses [] b e in absurd (no_byte r.front b r.rest r.split)

  on_byte-waits : (bs : List ℕ) → on_byte k bs ≡ Err More → Waits (on_byte k) bs
  unfolding byte_at
  on_byte-waits [] e = at_end (k live []) refl
  on_byte-waits (b ∷ bs) e =
      elim (each b) [
        | inl r ↦ let w = r.waits bs e in record { next = w.next; bytes = w.bytes; value = w.value; read = w.read }
        | inr r ↦ let f = r bs in absurd (cc)
      ]

  on_byte-refuses : (bs : List ℕ) (c : ℕ) → on_byte k bs ≡ Err (Unlisted c) → Refuses (on_byte k) bs c
  unfolding byte_at
  on_byte-refuses [] c e = absurd (cc)
  on_byte-refuses (b ∷ bs) c e =
      elim (each b) [
        | inl r ↦
            let f = r.refuses bs c e in
            record { front = b ∷ f.front; rest = f.rest; split = ap (λ r. b ∷ r) f.split; waits = f.waits; again = f.again }
        | inr r ↦
            let same : b ≡ c = let f = r bs in cc in
            record { front = []; rest = bs; split = ap (λ b. b ∷ bs) same; waits = refl; again = λ more. subst (λ d. k d more ≡ Err (Unlisted d)) same (r more) }
      ]

  pub IsReader-on_byte : IsReader (on_byte k)
  IsReader-on_byte = record { takes = on_byte-takes; waits = on_byte-waits; refuses = on_byte-refuses }
