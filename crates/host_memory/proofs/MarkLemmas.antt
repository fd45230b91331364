-- What a write in a window does to the whole memory, and to its pages.
use Rattle.std.proofs.Common.{◌≡◌, ◌≢◌, ◌∙◌, ◌⊎◌, inl, inr, ℕ, ◌+◌, ◌-◌, ◌*◌, ◌/◌, ◌<◌, ◌≤◌, ◌&&◌, Bool, true, false, nat_le, if◌then◌else◌, replicate, Result, Ok, Err, OnOk, List, ◌++◌, length, take, drop, ap, sym, refl, arith, append_assoc, length-drop}
use Rattle.std.proofs.Math.ListN.{get_or, set}
use Rattle.std.proofs.Math.Dec.{eqb}
use Rattle.std.proofs.lemmas.Bool.Decides.{eqb_tells, leb_tells}
use Rattle.std.proofs.lemmas.Grind.{get_or-set_at}
use Rattle.std.proofs.lemmas.List.{get_or-replicate, get_or-set_other, length-replicate, length-set, get_or_past, set_past, drop-drop, take-append-drop, drop-append-le, length-take-le, take-take, drop-take}
use Rattle.svm_model.specs.Memory.Bytes.{AreMarked, Host, is_written, guest_of, page_at, put_at}
use Rattle.host_memory.specs.Marks.{IsTouched, marked, marks_of, with_mark}
use Rattle.svm_model.specs.declared.windows.GuestWindow.{GuestWindow}
use Rattle.svm_model.specs.declared.windows.OutsideMemory.{OutsideMemory}
use Rattle.svm_model.proofs.PutLemmas.{put_at-before, put_at-behind, take-add}

-- what is behind a part of the bytes
drop-rest : (bytes : List ℕ) (n k : ℕ) → k ≤ n → n ≤ length bytes → drop k (take n bytes) ++ drop n bytes ≡ drop k bytes
drop-rest bytes n k h e =
    sym (drop-append-le k (take n bytes) (drop n bytes) (omega (arith, h, length-take-le n bytes e)))
    ∙ ap (drop k) (take-append-drop n bytes)

-- what is put into a part of the bytes is put into the bytes
pub put_in : (bytes xs : List ℕ) (start size at : ℕ) → start + size ≤ length bytes → at + length xs ≤ size →
    take start bytes ++ (put_at (take size (drop start bytes)) at xs ++ drop size (drop start bytes)) ≡ put_at bytes (start + at) xs
put_in bytes xs start size at h k =
    let m : List ℕ = drop start bytes in
    let n : ℕ = at + length xs in
    let A : List ℕ = take start bytes in
    let D : List ℕ = drop size m in
    let long : size ≤ length m = omega (arith, h, length-drop start bytes) in
    let sum : start + n ≡ start + at + length xs = omega arith in
    ap (λ front. A ++ (front ++ xs ++ drop n (take size m) ++ D)) (take-take at size m (omega (arith, k)))
    ∙ ap (λ l. A ++ l) (append_assoc (take at m ++ xs) (drop n (take size m)) D)
    ∙ ap (λ l. A ++ (take at m ++ xs ++ l)) (drop-rest m size n k long)
    ∙ sym (append_assoc A (take at m ++ xs) (drop n m))
    ∙ ap (λ l. l ++ drop n m) (sym (append_assoc A (take at m) xs))
    ∙ ap (λ l. l ++ xs ++ drop n m) (take-add start at bytes)
    ∙ ap (λ l. take (start + at) bytes ++ xs ++ l) (drop-drop n start bytes ∙ ap (λ i. drop i bytes) sum)

-- a page without a byte of what is put stays
pub page-put_at : (bytes xs : List ℕ) (at n page : ℕ) → length xs ≡ n → at + n ≤ length bytes → (4096 * page + 4096 ≤ at) ⊎ (at + n ≤ 4096 * page) → page_at (put_at bytes at xs) page ≡ page_at bytes page
page-put_at bytes xs at n page e h (inl k) = put_at-before bytes xs at (4096 * page) 4096 (omega (arith, h)) k
page-put_at bytes xs at n page e h (inr k) = ap (take 4096) (put_at-behind bytes xs at (4096 * page) (omega (arith, e, h)) (omega (arith, e, k)))

-- what was put into the window was put into the memory
pub placed_in : (result : Result (Unit {0}) OutsideMemory) (bytes guest from : List ℕ) (start size k at n : ℕ) → start + size ≤ length bytes → k ≡ size → n ≤ length from →
    OnOk result ((at + n ≤ length (take k (drop start bytes))) × (guest ≡ put_at (take k (drop start bytes)) at (take n from))) →
    OnOk result ((at + n ≤ size) × (take start bytes ++ (guest ++ drop k (drop start bytes)) ≡ put_at bytes (start + at) (take n from)))
placed_in (Err outside) bytes guest from start size k at n h e f put = tt
placed_in (Ok u) bytes guest from start size k at n h e f put =
    let long : length (take k (drop start bytes)) ≡ size = omega (arith, h, e, length-take-le k (drop start bytes) (omega (arith, h, e, length-drop start bytes)), length-drop start bytes) in
    let count : length (take n from) ≡ n = length-take-le n from f in
    let within : at + n ≤ size = omega (arith, put.0, long) in (
      within,
      ap (λ g. take start bytes ++ (g ++ drop k (drop start bytes))) put.1
          ∙ put_in bytes (take n from) start k at (omega (arith, h, e)) (omega (arith, within, count, e)),
    )

-- a page of a window is one of the memory
pub page_in : (w : GuestWindow) (bytes : List ℕ) (page : ℕ) → 4096 * page + 4096 ≤ w.size → page_at (guest_of w bytes) page ≡ take 4096 (drop (w.base + 4096 * page) bytes)
page_in w bytes page h =
    let size : w.size ≡ 4096 * page + (w.size - 4096 * page) = omega (arith, h) in
    ap (λ n. take 4096 (drop (4096 * page) (take n (drop w.base bytes)))) size
    ∙ ap (take 4096) (drop-take (4096 * page) (w.size - 4096 * page) (drop w.base bytes))
    ∙ take-take 4096 (w.size - 4096 * page) (drop (4096 * page) (drop w.base bytes)) (omega (arith, h))
    ∙ ap (take 4096) (drop-drop (4096 * page) w.base bytes)

-- Marks.

-- a page that was marked has a mark
set-there : (marks : List Bool) (i page : ℕ) → page ≡ i → ((nat_le (length marks) i ≡ true) × (length marks ≤ i)) ⊎ ((nat_le (length marks) i ≡ false) × (i < length marks)) → get_or (set marks i true) page true ≡ true
set-there marks i page e (inl past) = ap (λ l. get_or l page true) (set_past marks i true past.1) ∙ get_or_past marks page true (omega (arith, past.1, e))
set-there marks i page e (inr there) = get_or-set_at marks i page true true e there.1

unset-by : (marks : List Bool) (i page : ℕ) → ((eqb page i ≡ true) × (page ≡ i)) ⊎ ((eqb page i ≡ false) × (page ≢ i)) → get_or (set marks i true) page true ≡ false → (page ≢ i) × (get_or marks page true ≡ false)
unset-by marks i page (inl same) clear = absurd (cc (set-there marks i page same.1 (leb_tells (length marks) i), clear))
unset-by marks i page (inr other) clear = (other.1, sym (get_or-set_other marks i page true true other.1) ∙ clear)

-- a page without a mark is another than the one that was marked
unset : (marks : List Bool) (i page : ℕ) → get_or (set marks i true) page true ≡ false → (page ≢ i) × (get_or marks page true ≡ false)
unset marks i page clear = unset-by marks i page (eqb_tells page i) clear

-- a page is clear of bytes whose first and last lie in other pages
clear_of : (at n page : ℕ) → 1 ≤ n → n ≤ 4096 → page ≢ at / 4096 → page ≢ (at + n - 1) / 4096 → (4096 * page + 4096 ≤ at) ⊎ (at + n ≤ 4096 * page)
clear_of at n page some few first last = grind arith

unmarked : (changed : Bool) (marks : List Bool) (page : ℕ) → get_or (if changed then marks else replicate (length marks) false) page true ≡ false → (changed && get_or marks page true) ≡ false
unmarked true marks page clear = clear
unmarked false marks page clear = refl

-- behind a write the pages that it touches are marked
pub marks_write : (old : Host) (bytes xs : List ℕ) (at n : ℕ) → 1 ≤ n → n ≤ 4096 → length xs ≡ n → at + n ≤ length old.bytes → bytes ≡ put_at old.bytes at xs →
    AreMarked old (marked (record { bytes = bytes; is_changed = old.is_changed; written = old.written }) at n)
marks_write old bytes xs at n some few long within put = record {
  unmarked = λ page clear.
      let last = unset (with_mark at (marks_of old)) ((at + n - 1) / 4096) page clear in
      let first = unset (marks_of old) (at / 4096) page last.1 in (
        unmarked old.is_changed old.written page first.1,
        ap (λ b. page_at b page) put ∙ page-put_at old.bytes xs at n page long within (clear_of at n page some few first.0 last.0),
      );
}

-- a write marks no page that it does not touch
set-new : (marks : List Bool) (i page : ℕ) → page < length marks → get_or (set marks i true) page true ≡ true → (page ≡ i) ⊎ (get_or marks page true ≡ true)
set-new marks i page there e = new-by marks i page (eqb_tells page i) e
  where
    new-by : (marks : List Bool) (i page : ℕ) → ((eqb page i ≡ true) × (page ≡ i)) ⊎ ((eqb page i ≡ false) × (page ≢ i)) → get_or (set marks i true) page true ≡ true → (page ≡ i) ⊎ (get_or marks page true ≡ true)
    new-by marks i page (inl same) e = inl same.1
    new-by marks i page (inr other) e = inr (sym (get_or-set_other marks i page true true other.1) ∙ e)

touched : (at n page i : ℕ) → 1 ≤ n → page ≡ i → (i ≡ at / 4096) ⊎ (i ≡ (at + n - 1) / 4096) → n ≤ 4096 → IsTouched page at n
touched at n page i some e (inl f) few = record { before_its_end = grind arith; behind_its_front = grind arith }
touched at n page i some e (inr f) few = record { before_its_end = grind arith; behind_its_front = grind arith }

long-by : (changed : Bool) (marks : List Bool) → length (if changed then marks else replicate (length marks) false) ≡ length marks
long-by true marks = refl
long-by false marks = length-replicate (length marks) false

was-marked : (changed : Bool) (marks : List Bool) (page : ℕ) → page < length marks → get_or (if changed then marks else replicate (length marks) false) page true ≡ true → (changed && get_or marks page true) ≡ true
was-marked true marks page there e = e
was-marked false marks page there e = absurd (cc (get_or-replicate (length marks) page false true there, e))

pub marks_touched : (old : Host) (bytes : List ℕ) (at n page : ℕ) → 1 ≤ n → n ≤ 4096 → page < length old.written → is_written (marked (record { bytes = bytes; is_changed = old.is_changed; written = old.written }) at n) page ≡ true →
    (is_written old page ≡ true) ⊎ IsTouched page at n
marks_touched old bytes at n page some few there e = by-last (set-new (with_mark at (marks_of old)) ((at + n - 1) / 4096) page (omega (arith, size, there, long)) e)
  where
    long : length (marks_of old) ≡ length old.written
    long = long-by old.is_changed old.written

    size : length (with_mark at (marks_of old)) ≡ length (marks_of old)
    size = length-set (marks_of old) (at / 4096) true

    by-first : (page ≡ at / 4096) ⊎ (get_or (marks_of old) page true ≡ true) → (is_written old page ≡ true) ⊎ IsTouched page at n
    by-first (inl same) = inr (touched at n page (at / 4096) some same (inl refl) few)
    by-first (inr was) = inl (was-marked old.is_changed old.written page there was)

    by-last : (page ≡ (at + n - 1) / 4096) ⊎ (get_or (with_mark at (marks_of old)) page true ≡ true) → (is_written old page ≡ true) ⊎ IsTouched page at n
    by-last (inl same) = inr (touched at n page ((at + n - 1) / 4096) some same (inr refl) few)
    by-last (inr was) = by-first (set-new (marks_of old) (at / 4096) page (omega (arith, there, long)) was)

pub ruleset marks = (marks_write, marks_touched)
