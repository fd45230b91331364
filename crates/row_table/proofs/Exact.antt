-- What decoding answers is what the forms ask for.
use Rattle.std.proofs.Common.{◌≡◌, ◌≢◌, ℕ, ◌+◌, ◌-◌, ◌<◌, ◌≤◌, ◌⊎◌, inl, inr, List, [], ◌∷◌, ◌++◌, length, take, drop, Result, Ok, Err, refl, sym, ap, ◌∙◌, subst, append_assoc, length-append, arith}
use Rattle.std.proofs.Math.Seq.{take-append_seam}
use Rattle.std.proofs.lemmas.List.{append-nil, take-append-drop}
use Rattle.row_table.proofs.Bind.{rest-nil}
use Rattle.row_table.proofs.Lengths.{form_length}
use Rattle.row_table.proofs.Splits.{same_ok}
use Rattle.row_table.proofs.Whole.{IsReader-form, form_starts}
use Rattle.svm_model.specs.Instructions.Decoding.{form_at}
use Rattle.svm_model.specs.Instructions.Rows.{IsForm, BeginsForm, HasForm, GoesOn, LeavesForms, IsDecoded, answer, decoded}
use Rattle.svm_model.specs.declared.row_lines.Unread.{Unread}
use Rattle.svm_model.specs.declared.row_lines.Unread.TheVariants as unread
use Rattle.svm_model.specs.declared.rows.Decoded.{Decoded}
use Rattle.svm_model.specs.declared.rows.Decoded.TheVariants as decoding
use Rattle.svm_model.specs.declared.rows.Row.{Row}

-- what stands after a front
length-after : (front rest bs : List ℕ) → bs ≡ front ++ rest → length front ≡ length bs - length rest
length-after front rest bs e = let h = ap length e in omega (arith, length-append front rest, h)

-- a form has a byte
form_some : (front : List ℕ) (row : Row) → IsForm front row → 0 < length front
form_some [] row f = absurd (let e : Err unread.More ≡ Ok (row, []) = sym form_starts ∙ f in cc)
form_some (b ∷ front) row f = omega arith

goes_on : (bs : List ℕ) → form_at bs ≡ Err unread.More → GoesOn bs
goes_on bs e =
    let w = IsReader-form.waits bs e in
    record {
      more = w.next;
      are_bytes = w.bytes;
      row = w.value;
      some = λ nil. let r : form_at bs ≡ Ok (w.value, []) = ap form_at (sym (append-nil bs) ∙ ap (λ n. bs ++ n) (sym nil)) ∙ w.read in cc;
      form = w.read;
    }

has_form : (bs front rest : List ℕ) (row : Row) (size : ℕ) → bs ≡ front ++ rest → length front ≡ size → IsForm front row → HasForm bs row size
has_form bs front rest row size split same form = record {
  within = (let h = ap length split in omega (arith, h, length-append front rest, same));
  some = omega (arith, form_some front row form, same);
  at_most = omega (arith, form_length front row [] form, same);
  form = ap form_at (ap (λ n. take n bs) (sym same) ∙ ap (take (length front)) split ∙ take-append_seam front rest) ∙ form;
}

IsDecoded-of : (bs : List ℕ) (r : Result (Row × List ℕ) Unread) → form_at bs ≡ r → IsDecoded bs (answer (length bs) r)
IsDecoded-of bs (Ok x) e =
    let t = IsReader-form.takes bs x.0 x.1 e in
    has_form bs t.front x.1 x.0 (length bs - length x.1) t.split (length-after t.front x.1 bs t.split) (ap form_at (sym (append-nil t.front)) ∙ t.again [])
IsDecoded-of bs (Err unread.More) e = goes_on bs e
IsDecoded-of bs (Err (unread.Unlisted b)) e =
    let r = IsReader-form.refuses bs b e in
    record {
      before = r.front;
      after = r.rest;
      there = r.split;
      begun = goes_on r.front r.waits;
      left = λ begun. let no = ap form_at (append_assoc r.front (b ∷ []) begun.0) ∙ r.again begun.0 in let yes = begun.2 in let both : Err (unread.Unlisted b) ≡ Ok (begun.1, []) = sym no ∙ yes in cc;
    }

pub decoded_is : (bs : List ℕ) → IsDecoded bs (decoded bs)
unfolding decoded
decoded_is bs = IsDecoded-of bs (form_at bs) refl

-- a form at the front is found
pub decoded-front : (front rest : List ℕ) (row : Row) → IsForm front row → decoded (front ++ rest) ≡ decoding.Row row (length front)
unfolding decoded
decoded-front front rest row f =
    let t = IsReader-form.takes front row [] f in
    let e : form_at (front ++ rest) ≡ Ok (row, rest) = ap (λ s. form_at (s ++ rest)) (t.split ∙ append-nil t.front) ∙ t.again rest in
    ap (answer (length (front ++ rest))) e ∙ ap (decoding.Row row) (sym (length-after front rest (front ++ rest) refl))

-- where a form goes on, more is asked for
pub decoded-begun : (bs next : List ℕ) (row : Row) → next ≢ [] → IsForm (bs ++ next) row → decoded bs ≡ decoding.More
unfolding decoded
decoded-begun bs next row some f = go (form_at bs) refl where
  go : (r : Result (Row × List ℕ) Unread) → form_at bs ≡ r → answer (length bs) r ≡ decoding.More
  go (Err unread.More) e = refl
  go (Ok x) e =
      let t = IsReader-form.takes bs x.0 x.1 e in
      let r : form_at (bs ++ next) ≡ Ok (x.0, x.1 ++ next) = ap (λ s. form_at (s ++ next)) t.split ∙ ap form_at (append_assoc t.front x.1 next) ∙ t.again (x.1 ++ next) in
      let same : x.1 ++ next ≡ [] = ap (λ (y : Row × List ℕ). y.1) (same_ok (x.0, x.1 ++ next) (row, []) (sym r ∙ f)) in
      absurd (some (rest-nil x.1 next (sym same)))
  go (Err (unread.Unlisted b)) e =
      let t = IsReader-form.refuses bs b e in
      let r : form_at (bs ++ next) ≡ Err (unread.Unlisted b) = ap (λ s. form_at (s ++ next)) t.split ∙ ap form_at (append_assoc t.front (b ∷ t.rest) next) ∙ t.again (t.rest ++ next) in
      absurd (cc)

-- two splits of one list: one front begins the other
abbrev Apart : List ℕ → List ℕ → List ℕ → List ℕ → Type 0
Apart xs ys us vs = ((zs : List ℕ) × (us ≡ xs ++ zs) × (ys ≡ zs ++ vs)) ⊎ ((z : ℕ) × (zs : List ℕ) × (xs ≡ us ++ z ∷ zs) × (vs ≡ z ∷ (zs ++ ys)))

splits : (xs ys us vs : List ℕ) → xs ++ ys ≡ us ++ vs → Apart xs ys us vs
splits [] ys us vs e = inl (us, refl, e)
splits (x ∷ xs) ys [] vs e = inr (x, xs, refl, sym e)
splits (x ∷ xs) ys (u ∷ us) vs e =
    let same : x ≡ u = cc in
    let rest : xs ++ ys ≡ us ++ vs = cc in
    elim (splits xs ys us vs rest) [
      | inl h ↦ inl (h.0, ap (λ (r : List ℕ). u ∷ r) h.1 ∙ ap (λ (y : ℕ). y ∷ (xs ++ h.0)) (sym same), h.2)
      | inr h ↦ inr (h.0, h.1, ap (λ (r : List ℕ). x ∷ r) h.2 ∙ ap (λ (y : ℕ). y ∷ (us ++ h.0 ∷ h.1)) same, h.3)
    ]

-- no front of a form is a form
front_alone : (front more : List ℕ) (row other : Row) → more ≢ [] → IsForm front row → IsForm (front ++ more) other → ⊥
front_alone front more row other some f g =
    let h : decoding.Row row (length front) ≡ decoding.More = sym (decoded-front front [] row f) ∙ ap decoded (append-nil front) ∙ decoded-begun front more other some g in
    cc

-- where the bytes leave the forms, they are refused
module _ (bs : List ℕ) (byte : ℕ) (l : LeavesForms bs byte) where
  no_longer : (front : List ℕ) (tail : List ℕ) (row : Row) → front ≡ l.before ++ byte ∷ tail → IsForm front row → ⊥
  no_longer front tail row e f = l.left (tail, row, ap form_at (append_assoc l.before (byte ∷ []) tail ∙ sym e) ∙ f)

  left-row : (front rest : List ℕ) (row : Row) → bs ≡ front ++ rest → IsForm front row → ⊥
  left-row front rest row e f = go (splits front rest l.before (byte ∷ l.after) (sym e ∙ l.there)) where
    go : Apart front rest l.before (byte ∷ l.after) → ⊥
    go (inl h) = front_alone front (h.0 ++ l.begun.more) row l.begun.row (λ nil. l.begun.some (rest-nil h.0 l.begun.more (sym nil))) f (ap form_at (sym (append_assoc front h.0 l.begun.more) ∙ ap (λ (r : List ℕ). r ++ l.begun.more) (sym h.1)) ∙ l.begun.form)
    go (inr h) = let same : byte ≡ h.0 = cc in no_longer front h.1 row (h.2 ∙ ap (λ (z : ℕ). l.before ++ z ∷ h.1) (sym same)) f

  left-more : GoesOn bs → ⊥
  left-more g = no_longer (bs ++ g.more) (l.after ++ g.more) g.row (ap (λ (r : List ℕ). r ++ g.more) l.there ∙ append_assoc l.before (byte ∷ l.after) g.more) g.form

  left-byte : (front rest : List ℕ) (c : ℕ) → bs ≡ front ++ c ∷ rest → GoesOn front → (BeginsForm (front ++ c ∷ []) → ⊥) → c ≡ byte
  left-byte front rest c e g none = go (splits front (c ∷ rest) l.before (byte ∷ l.after) (sym e ∙ l.there)) where
    go : Apart front (c ∷ rest) l.before (byte ∷ l.after) → c ≡ byte
    go (inl h) = by_rest h.0 h.1 h.2 where
      by_rest : (zs : List ℕ) → l.before ≡ front ++ zs → c ∷ rest ≡ zs ++ byte ∷ l.after → c ≡ byte
      by_rest [] a b = cc
      by_rest (z ∷ zs) a b =
          let same : c ≡ z = cc in
          absurd (none (zs ++ l.begun.more, l.begun.row, ap form_at (append_assoc front (c ∷ []) (zs ++ l.begun.more) ∙ ap (λ (y : ℕ). front ++ y ∷ (zs ++ l.begun.more)) same ∙ sym (append_assoc front (z ∷ zs) l.begun.more) ∙ ap (λ (r : List ℕ). r ++ l.begun.more) (sym a)) ∙ l.begun.form))
    go (inr h) =
        let same : byte ≡ h.0 = cc in
        absurd (no_longer (front ++ g.more) (h.1 ++ g.more) g.row (ap (λ (r : List ℕ). r ++ g.more) h.2 ∙ append_assoc l.before (h.0 ∷ h.1) g.more ∙ ap (λ (z : ℕ). l.before ++ z ∷ (h.1 ++ g.more)) (sym same)) g.form)

  left-decoded : (d : Decoded) → IsDecoded bs d → d ≡ decoding.Unlisted byte
  left-decoded (decoding.Row row size) i = absurd (left-row (take size bs) (drop size bs) row (sym (take-append-drop size bs)) i.form)
  left-decoded decoding.More i = absurd (left-more i)
  left-decoded (decoding.Unlisted c) i = ap decoding.Unlisted (left-byte i.before i.after c i.there i.begun i.left)

pub decoded-left : (bs : List ℕ) (byte : ℕ) → LeavesForms bs byte → decoded bs ≡ decoding.Unlisted byte
decoded-left bs byte l = left-decoded bs byte l (decoded bs) (decoded_is bs)

-- fifteen bytes are enough
pub decoded-few : (bs : List ℕ) → decoded bs ≡ decoding.More → length bs < 15
decoded-few bs e = few (subst (IsDecoded bs) e (decoded_is bs)) where
  few : GoesOn bs → length bs < 15
  few g = omega (arith, form_length (bs ++ g.more) g.row [] g.form, length-append bs g.more, some g.more g.some) where
    some : (more : List ℕ) → more ≢ [] → 0 < length more
    some [] h = absurd (h refl)
    some (b ∷ more) h = omega arith

-- what is left of the bytes after a form
pub record Shortens (bs rest : List ℕ) : Type 0 where
  pub less : length rest ≤ length bs
  pub at_most : length bs ≤ length rest + 15

pub form_shortens : (bs : List ℕ) (row : Row) (rest : List ℕ) → form_at bs ≡ Ok (row, rest) → Shortens bs rest
form_shortens bs row rest e =
    let t = IsReader-form.takes bs row rest e in
    let h = ap length t.split in
    record { less = omega (arith, length-append t.front rest, h); at_most = omega (arith, form_length bs row rest e) }
