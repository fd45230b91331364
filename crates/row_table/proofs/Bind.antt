-- Readers one after another are a reader.
use Rattle.std.proofs.Common.{◌≡◌, ℕ, List, [], ◌∷◌, ◌++◌, Result, Ok, Err, refl, sym, ap, ◌∙◌, append_assoc}
use Rattle.std.proofs.lemmas.List.{append-nil}
use Rattle.svm_model.specs.declared.row_lines.Unread.{Unread}
use Rattle.svm_model.specs.declared.row_lines.Unread.TheVariants.{More, Unlisted}
use Rattle.svm_model.specs.Instructions.InstructionBytes.{◌>>=◌, AreBytes}
use Rattle.row_table.proofs.Readers.{Reader, Takes, Waits, Refuses, IsReader}

abbrev pub then : {X Y : Type 0} → Reader X → (X → Reader Y) → Reader Y
then p q bs = p bs >>= (λ x. q x.0 x.1)

pub rest-nil : (xs ys : List ℕ) → [] ≡ xs ++ ys → ys ≡ []
rest-nil [] ys h = sym h
rest-nil (x ∷ xs) ys h = absurd (cc)

pub AreBytes-append : (xs ys : List ℕ) → AreBytes xs → AreBytes ys → AreBytes (xs ++ ys)
AreBytes-append [] ys h k = k
AreBytes-append (x ∷ xs) ys h k = (h.0, AreBytes-append xs ys h.1 k)

pub no_byte : (xs : List ℕ) (b : ℕ) (ys : List ℕ) → [] ≡ xs ++ b ∷ ys → ⊥
no_byte [] b ys h = cc
no_byte (x ∷ xs) b ys h = cc

module _ {X Y : Type 0} (p : Reader X) (q : X → Reader Y) (first : IsReader p) (second : (x : X) → IsReader (q x)) where
  then-takes : (bs : List ℕ) (y : Y) (rest : List ℕ) (r : Result (X × List ℕ) Unread) → p bs ≡ r → (r >>= (λ x. q x.0 x.1)) ≡ Ok (y, rest) → Takes (then p q) bs y rest
  then-takes bs y rest (Err e) was h = absurd (cc)
  then-takes bs y rest (Ok x) was h =
      let t = first.takes bs x.0 x.1 was in
      let u = (second x.0).takes x.1 y rest h in
      record {
        front = t.front ++ u.front;
        split = t.split ∙ ap (λ r. t.front ++ r) u.split ∙ sym (append_assoc t.front u.front rest);
        again = λ more. ap (λ r. r >>= (λ x. q x.0 x.1)) (ap p (append_assoc t.front u.front more) ∙ t.again (u.front ++ more)) ∙ u.again more;
      }

  -- after a value of the first, with nothing left, the second has its value or waits
  then-waits_at_end : (bs : List ℕ) (x : X) → p bs ≡ Ok (x, []) → (r : Result (Y × List ℕ) Unread) → q x [] ≡ r → Waits (then p q) bs
  then-waits_at_end bs x was (Ok y) is =
      let u = (second x).takes [] y.0 y.1 is in
      let e = rest-nil u.front y.1 u.split in
      record {
        next = [];
        bytes = tt;
        value = y.0;
        read = ap (λ r. r >>= (λ x. q x.0 x.1)) (ap p (append-nil bs) ∙ was) ∙ is ∙ ap (λ r. Ok (y.0, r)) e;
      }
  then-waits_at_end bs x was (Err More) is =
      let t = first.takes bs x [] was in
      let w = (second x).waits [] is in
      record {
        next = w.next;
        bytes = w.bytes;
        value = w.value;
        read = ap (λ r. r >>= (λ x. q x.0 x.1)) (ap (λ f. p (f ++ w.next)) (t.split ∙ append-nil t.front) ∙ t.again w.next) ∙ w.read;
      }
  then-waits_at_end bs x was (Err (Unlisted b)) is =
      let r = (second x).refuses [] b is in
      absurd (no_byte r.front b r.rest r.split)

  then-joined : (bs some more : List ℕ) (y : Y) → then p q ((bs ++ some) ++ more) ≡ Ok (y, []) → then p q (bs ++ (some ++ more)) ≡ Ok (y, [])
  then-joined bs some more y e = ap (then p q) (sym (append_assoc bs some more)) ∙ e

  then-waits : (bs : List ℕ) (r : Result (X × List ℕ) Unread) → p bs ≡ r → (r >>= (λ x. q x.0 x.1)) ≡ Err More → Waits (then p q) bs
  then-waits bs (Err e) was h =
      let w = first.waits bs (was ∙ cc) in
      let v = then-waits_at_end (bs ++ w.next) w.value w.read (q w.value []) refl in
      record {
        next = w.next ++ v.next;
        bytes = AreBytes-append w.next v.next w.bytes v.bytes;
        value = v.value;
        read = then-joined bs w.next v.next v.value v.read;
      }
  then-waits bs (Ok x) was h =
      let t = first.takes bs x.0 x.1 was in
      let w = (second x.0).waits x.1 h in
      record {
        next = w.next;
        bytes = w.bytes;
        value = w.value;
        read = ap (λ r. r >>= (λ x. q x.0 x.1)) (ap (λ f. p (f ++ w.next)) t.split ∙ ap p (append_assoc t.front x.1 w.next) ∙ t.again (x.1 ++ w.next)) ∙ w.read;
      }

  then-refuses : (bs : List ℕ) (b : ℕ) (r : Result (X × List ℕ) Unread) → p bs ≡ r → (r >>= (λ x. q x.0 x.1)) ≡ Err (Unlisted b) → Refuses (then p q) bs b
  then-refuses bs b (Err e) was h =
      let r = first.refuses bs b (was ∙ cc) in
      record {
        front = r.front;
        rest = r.rest;
        split = r.split;
        waits = ap (λ r. r >>= (λ x. q x.0 x.1)) r.waits;
        again = λ more. ap (λ r. r >>= (λ x. q x.0 x.1)) (r.again more);
      }
  then-refuses bs b (Ok x) was h =
      let t = first.takes bs x.0 x.1 was in
      let r = (second x.0).refuses x.1 b h in
      record {
        front = t.front ++ r.front;
        rest = r.rest;
        split = t.split ∙ ap (λ r. t.front ++ r) r.split ∙ sym (append_assoc t.front r.front (b ∷ r.rest));
        waits = ap (λ r. r >>= (λ x. q x.0 x.1)) (t.again r.front) ∙ r.waits;
        again = λ more. ap (λ r. r >>= (λ x. q x.0 x.1)) (ap p (append_assoc t.front r.front (b ∷ more)) ∙ t.again (r.front ++ b ∷ more)) ∙ r.again more;
      }

  pub IsReader-then : IsReader (then p q)
  IsReader-then = record {
    takes = λ bs y rest h. then-takes bs y rest (p bs) refl h;
    waits = λ bs h. then-waits bs (p bs) refl h;
    refuses = λ bs b h. then-refuses bs b (p bs) refl h;
  }
