-- What a sink has received, of texts and lines one behind the other.
use Rattle.std.proofs.Common.{◌≡◌, ◌∙◌, ◌⊎◌, ℕ, ◌+◌, ◌≤◌, ◌<◌, List, [], ◌++◌, Option, Some, None, length, take, ap, sym, refl, subst, arith, append_assoc, append-nil, length-append, inl, inr}
use Rattle.std.proofs.Math.Seq.{take-append_seam, take-append-add}
use Rattle.std.proofs.lemmas.List.{take-append-le}
use Rattle.fault_counts.specs.Causes.{Rose}
use Rattle.byte_shelf.specs.Sink.{appended, IsCutShort}
use Rattle.svm_run.specs.Answers.{IsCutBehind, ReceivesLine, ReceivesPart}

-- nothing was received
pub appended-nothing : (written : Option (List ℕ)) → appended written [] ≡ written
appended-nothing None = refl
appended-nothing (Some bytes) = ap Some (append-nil bytes)

-- one piece behind another
pub appended-twice : (written : Option (List ℕ)) (front back : List ℕ) → appended (appended written front) back ≡ appended written (front ++ back)
appended-twice None front back = refl
appended-twice (Some bytes) front back = ap Some (append_assoc bytes front back)

-- a text, and a part of the piece behind it
taken : (front piece rest : List ℕ) (n : ℕ) → n ≤ length piece → take (length front + n) (front ++ (piece ++ rest)) ≡ front ++ take n piece
taken front piece rest n h = take-append-add front (piece ++ rest) n ∙ ap (λ back. front ++ back) (take-append-le n piece rest h)

longer : (front piece rest : List ℕ) (n : ℕ) → n < length piece → length front + n < length (front ++ (piece ++ rest))
longer front piece rest n h = omega (arith, length-append front (piece ++ rest), length-append piece rest)

pub because : (old new : Option (List ℕ)) (line : List ℕ) (r s : Type 0) → (r → s) → ReceivesLine old new line r → ReceivesLine old new line s
because old new line r s cause h = elim h [ inl e ↦ inl e | inr p ↦ inr (p.0, cause p.1) ]

-- a line is received behind nothing of a text
pub at_once : (old new : Option (List ℕ)) (before text line : List ℕ) (r : Type 0) → length before ≤ 0 → ReceivesLine old new line r → ReceivesPart old new before text line r
at_once old new before text line r none h = record {
  count = 0;
  behind = none;
  line_after = let P : Option (List ℕ) → Type 0 = λ o. ReceivesLine o new line r in subst P (sym (appended-nothing old)) h;
}

-- a line is received behind a text that was received
pub behind_text : (old mid new : Option (List ℕ)) (before front rest line : List ℕ) (r : Type 0) → length before ≤ length front → mid ≡ appended old front → ReceivesLine mid new line r →
    ReceivesPart old new before (front ++ rest) line r
behind_text old mid new before front rest line r few e h = record {
  count = length front;
  behind = few;
  line_after =
      let P : Option (List ℕ) → Type 0 = λ o. ReceivesLine o new line r in
      subst P (e ∙ ap (appended old) (sym (take-append_seam front rest))) h;
}

-- where a piece behind a text was cut
cut_at : (old new : Option (List ℕ)) (front piece rest : List ℕ) (cut : IsCutShort (appended old front) new piece) →
    new ≡ appended old (take (length front + cut.count) (front ++ (piece ++ rest)))
cut_at old new front piece rest cut =
    let within : cut.count ≤ length piece = omega (arith, cut.short) in
    cut.written ∙ appended-twice old front (take cut.count piece) ∙ ap (appended old) (sym (taken front piece rest cut.count within))

-- a line is received behind a text and the part of a piece that a sink took
pub behind_cut : (old mid new : Option (List ℕ)) (before front piece rest line : List ℕ) (r : Type 0) → length before ≤ length front → IsCutShort (appended old front) mid piece →
    ReceivesLine mid new line r → ReceivesPart old new before (front ++ (piece ++ rest)) line r
behind_cut old mid new before front piece rest line r few cut h = record {
  count = length front + cut.count;
  behind = omega (arith, few);
  line_after = let P : Option (List ℕ) → Type 0 = λ o. ReceivesLine o new line r in subst P (cut_at old mid front piece rest cut) h;
}

-- a text was received, and a part of the piece behind it
pub cut_behind : (old new : Option (List ℕ)) (before front piece rest : List ℕ) → length before ≤ length front → IsCutShort (appended old front) new piece →
    IsCutBehind old new before (front ++ (piece ++ rest))
cut_behind old new before front piece rest few cut = record {
  count = length front + cut.count;
  behind = omega (arith, few);
  short = longer front piece rest cut.count cut.short;
  written = cut_at old new front piece rest cut;
}

-- the same where the part of a text behind another is told
pub cut_after : (old new : Option (List ℕ)) (before front text : List ℕ) → length before ≤ length front → IsCutBehind (appended old front) new [] text → IsCutBehind old new before (front ++ text)
cut_after old new before front text few cut = record {
  count = length front + cut.count;
  behind = omega (arith, few);
  short = omega (arith, cut.short, length-append front text);
  written = cut.written ∙ appended-twice old front (take cut.count text) ∙ ap (appended old) (sym (take-append-add front text cut.count));
}

pub part_after : (old new : Option (List ℕ)) (before front text line : List ℕ) (r s : Type 0) → length before ≤ length front → (r → s) → ReceivesPart (appended old front) new [] text line r →
    ReceivesPart old new before (front ++ text) line s
part_after old new before front text line r s few cause part = record {
  count = length front + part.count;
  behind = omega (arith, few);
  line_after =
      let P : Option (List ℕ) → Type 0 = λ o. ReceivesLine o new line s in
      subst P (appended-twice old front (take part.count text) ∙ ap (appended old) (sym (take-append-add front text part.count)))
      (because (appended (appended old front) (take part.count text)) new line r s cause part.line_after);
}

-- a piece that a sink cut short is a text of which it received a part
pub cut_alone : (old new : Option (List ℕ)) (text : List ℕ) → IsCutShort old new text → IsCutBehind old new [] text
cut_alone old new text cut = record { count = cut.count; behind = omega arith; short = cut.short; written = cut.written }

-- a line is received behind the part of a text that a sink took
pub behind : (old mid new : Option (List ℕ)) (text line : List ℕ) (r s : Type 0) → IsCutShort old mid text → s → ReceivesLine mid new line r → ReceivesPart old new [] text line s
behind old mid new text line r s cut cause h = record {
  count = cut.count;
  behind = omega arith;
  line_after = let P : Option (List ℕ) → Type 0 = λ o. ReceivesLine o new line s in subst P cut.written (because mid new line r s (λ _. cause) h);
}

-- a count that rose later rose over all
pub rose-later : (f g h k l m : ℕ) → f ≤ g → k ≤ l → Rose g h ⊎ Rose l m → Rose f h ⊎ Rose k m
rose-later f g h k l m few less rose = elim rose [ inl e ↦ inl (omega (arith, e, few)) | inr e ↦ inr (omega (arith, e, less)) ]

pub ruleset received = (at_once, cut_alone, behind)
