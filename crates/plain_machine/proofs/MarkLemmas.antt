-- The marks of the guests' pages, by those of the memory that holds their windows.
use Rattle.std.proofs.Common.{◌≡◌, ◌∙◌, ℕ, zero, suc, ◌+◌, ◌-◌, ◌*◌, ◌/◌, ◌%◌, ◌≤◌, ◌<◌, Bool, true, false, nat_le, ◌⊎◌, inl, inr, List, [], ◌∷◌, ◌++◌, Option, Some, None, length, map, take, drop, ap, sym, subst, refl, arith, slice_get}
use Rattle.std.proofs.lemmas.Bool.Decides.{leb_tells}
use Rattle.std.proofs.lemmas.List.{length-take, drop_all, drop-drop, drop-take, take-take, take_at}
use Rattle.svm_model.specs.Formats.Trace.{memory_of}
use Rattle.svm_model.specs.Machine.Guest.{Guest}
use Rattle.svm_model.specs.Memory.Bytes.{AreMarked, Host, guest_of, is_written, page_at}
use Rattle.svm_model.specs.declared.windows.GuestWindow.{GuestWindow}
use Rattle.svm_model.proofs.WindowLemmas.{length-guest_of}
use Rattle.plain_machine.proofs.Rows.{in_row-slot, in_row-within}
use Rattle.plain_machine.proofs.Worlds.{guest_there}
use Rattle.plain_machine.specs.Machines.{Machine, Marks}
use Rattle.plain_machine.specs.Marks.{ChangesAreMarked, first_page, mark_from, marks_in}
use Rattle.plain_machine.specs.Slots.{Kept, Layout, IsSlot, AreInRow, guests_at, layout, layouts}

-- the memory of a guest that is kept, by its layout
abbrev memory_by : List ℕ → Option Layout → List ℕ
memory_by bytes None = []
memory_by bytes (Some l) = guest_of l.window bytes

memory-layouts : (bytes : List ℕ) (slots : List Kept) (guest : ℕ) → memory_of (slice_get (guests_at bytes slots) guest) ≡ memory_by bytes (slice_get (layouts slots) guest)
memory-layouts bytes [] guest = refl
memory-layouts bytes (s ∷ slots) zero = refl
memory-layouts bytes (s ∷ slots) (suc guest) = memory-layouts bytes slots guest

-- a mark, by the layout
abbrev pub mark_in : Host → Option Layout → ℕ → Bool
mark_in host None page = true
mark_in host (Some l) page = is_written host (l.window.base / 4096 + page)

pub mark-layouts : (host : Host) (ls : List Layout) (guest page : ℕ) → mark_from host.is_changed host.written (slice_get (map first_page ls) guest) page ≡ mark_in host (slice_get ls guest) page
mark-layouts host [] guest page = refl
mark-layouts host (l ∷ ls) zero page = refl
mark-layouts host (l ∷ ls) (suc guest) page = mark-layouts host ls guest page

-- a window of whole pages, at a page
record IsPaged (w : GuestWindow) : Type 0 where
  base : w.base % 4096 ≡ 0
  size : w.size % 4096 ≡ 0

paged : (size from : ℕ) (guests : List Layout) (guest : ℕ) (l : Layout) → from % 4096 ≡ 0 → AreInRow size from guests → slice_get guests guest ≡ Some l → IsPaged l.window
paged size from [] guest l even row there = absurd (cc)
paged size from (g ∷ guests) zero l even row there =
    let same : g ≡ l = cc in
    subst (λ (k : Layout). IsPaged k.window) same (record { base = ap (λ n. n % 4096) row.0 ∙ even; size = row.1.pages })
paged size from (g ∷ guests) (suc guest) l even row there = paged size (from + g.window.size) guests guest l (omega (arith, even, row.1.pages)) row.2 there

-- a page that lies in a window is one of the memory
page-inside : (w : GuestWindow) (bytes : List ℕ) (page : ℕ) → w.base % 4096 ≡ 0 → 4096 * page + 4096 ≤ w.size → page_at (guest_of w bytes) page ≡ page_at bytes (w.base / 4096 + page)
page-inside w bytes page even h =
    let size : w.size ≡ 4096 * page + (w.size - 4096 * page) = omega (arith, h) in
    let place : w.base + 4096 * page ≡ 4096 * (w.base / 4096 + page) = omega (arith, even) in
    ap (λ n. take 4096 (drop (4096 * page) (take n (drop w.base bytes)))) size
    ∙ ap (take 4096) (drop-take (4096 * page) (w.size - 4096 * page) (drop w.base bytes))
    ∙ take-take 4096 (w.size - 4096 * page) (drop (4096 * page) (drop w.base bytes)) (omega (arith, h))
    ∙ ap (take 4096) (drop-drop (4096 * page) w.base bytes)
    ∙ ap (λ n. take 4096 (drop n bytes)) place

-- one behind it is empty
page-outside : (w : GuestWindow) (bytes : List ℕ) (page : ℕ) → w.size ≤ 4096 * page → page_at (guest_of w bytes) page ≡ []
page-outside w bytes page h = ap (take 4096) (drop_all (4096 * page) (guest_of w bytes) (omega (arith, h, length-take w.size (drop w.base bytes))))

page-kept : (w : GuestWindow) (old new : Host) (page : ℕ) → IsPaged w → AreMarked old new → is_written new (w.base / 4096 + page) ≡ false → page_at (guest_of w new.bytes) page ≡ page_at (guest_of w old.bytes) page
page-kept w old new page even marked clear = by-place (leb_tells w.size (4096 * page))
  where
    by-place : ((nat_le w.size (4096 * page) ≡ true) × (w.size ≤ 4096 * page)) ⊎ ((nat_le w.size (4096 * page) ≡ false) × (4096 * page < w.size)) → page_at (guest_of w new.bytes) page ≡ page_at (guest_of w old.bytes) page
    by-place (inl past) = page-outside w new.bytes page past.1 ∙ sym (page-outside w old.bytes page past.1)
    by-place (inr inside) =
        let whole : 4096 * page + 4096 ≤ w.size = omega (arith, inside.1, even.size) in
        page-inside w new.bytes page even.base whole ∙ (marked.unmarked (w.base / 4096 + page) clear).1 ∙ sym (page-inside w old.bytes page even.base whole)

-- by the layouts, which are the same before and behind a change
marked-by : (old new : Host) (o : Option Layout) (page : ℕ) → ((l : Layout) → o ≡ Some l → IsPaged l.window) → AreMarked old new → mark_in new o page ≡ false →
    (mark_in old o page ≡ false) × (page_at (memory_by new.bytes o) page ≡ page_at (memory_by old.bytes o) page)
marked-by old new None page even marked clear = absurd (cc)
marked-by old new (Some l) page even marked clear =
    ((marked.unmarked (l.window.base / 4096 + page) clear).0, page-kept l.window old new page (even l refl) marked clear)

-- machines over memories of which the one came of the other
pub marked-guests : (old new : Host) (s t : List Kept) (a b : Machine) → AreInRow (length old.bytes) 0 (layouts s) → layouts t ≡ layouts s → AreMarked old new →
    a.world.guests ≡ guests_at old.bytes s → a.marks ≡ marks_in old (layouts s) → b.world.guests ≡ guests_at new.bytes t → b.marks ≡ marks_in new (layouts t) → ChangesAreMarked a b
marked-guests old new s t a b row same marked guests_a marks_a guests_b marks_b = record {
  unmarked = λ guest page clear.
      let o = slice_get (layouts s) guest in
      let there : slice_get (layouts t) guest ≡ o = ap (λ (ls : List Layout). slice_get ls guest) same in
      let at : Marks → Bool = λ m. mark_from m.is_changed m.pages (slice_get m.firsts guest) page in
      let k = marked-by old new o page (λ l e. paged (length old.bytes) 0 (layouts s) guest l refl row e) marked
      (sym (ap at marks_b ∙ mark-layouts new (layouts t) guest page ∙ ap (λ (x : Option Layout). mark_in new x page) there) ∙ clear) in (
        ap at marks_a ∙ mark-layouts old (layouts s) guest page ∙ k.0,
        ap (λ (gs : List Guest). page_at (memory_of (slice_get gs guest)) page) guests_b
            ∙ ap (λ m. page_at m page) (memory-layouts new.bytes t guest ∙ ap (memory_by new.bytes) there)
            ∙ k.1
            ∙ sym (ap (λ (gs : List Guest). page_at (memory_of (slice_get gs guest)) page) guests_a ∙ ap (λ m. page_at m page) (memory-layouts old.bytes s guest)),
      );
}

-- the same of slots that were written in the place of others
pub marked-written : (old new : Host) (s t : List Kept) (a b : Machine) (n : ℕ) → length t ≡ n → AreInRow (length old.bytes) 0 (layouts s) → layouts t ≡ layouts s → AreMarked old new →
    a.world.guests ≡ guests_at old.bytes s → a.marks ≡ marks_in old (layouts s) →
    b.world.guests ≡ guests_at new.bytes (take n (t ++ drop (length t) s)) → b.marks ≡ marks_in new (layouts (take n (t ++ drop (length t) s))) → ChangesAreMarked a b
marked-written old new s t a b n long row same marked guests_a marks_a guests_b marks_b =
    let is : take n (t ++ drop (length t) s) ≡ t = take_at t (drop (length t) s) n long in
    marked-guests old new s t a b row same marked guests_a marks_a (guests_b ∙ ap (guests_at new.bytes) is) (marks_b ∙ ap (λ (ss : List Kept). marks_in new (layouts ss)) is)

-- A guest by its slot: its window lies within the memory, and its memory is that window.
pub record InSlot (bytes : List ℕ) (guests : List Guest) (guest : ℕ) (slot : Kept) : Type 0 where
  pub within : slot.window.base + slot.window.size ≤ length bytes
  pub paged : IsSlot (layout slot)
  pub memory : memory_of (slice_get guests guest) ≡ guest_of slot.window bytes
  pub size : length (memory_of (slice_get guests guest)) ≡ slot.window.size

pub in_slot : (bytes : List ℕ) (slots : List Kept) (guests : List Guest) (guest : ℕ) (slot : Kept) → AreInRow (length bytes) 0 (layouts slots) → guests ≡ guests_at bytes slots → slice_get slots guest ≡ Some slot →
    InSlot bytes guests guest slot
in_slot bytes slots guests guest slot row same there =
    let fits = in_row-within (length bytes) 0 slots guest slot row there in
    let is : memory_of (slice_get guests guest) ≡ guest_of slot.window bytes =
    ap (λ (gs : List Guest). memory_of (slice_get gs guest)) same ∙ ap memory_of (guest_there bytes slots guest slot there) in
    record {
      within = fits;
      paged = in_row-slot (length bytes) 0 slots guest slot row there;
      memory = is;
      size = ap length is ∙ length-guest_of slot.window bytes fits;
    }

pub marked-itself : (a b : Machine) → b.world.guests ≡ a.world.guests → b.marks ≡ a.marks → ChangesAreMarked a b
marked-itself a b guests marks = record {
  unmarked = λ guest page clear.
      let at : Marks → Bool = λ m. mark_from m.is_changed m.pages (slice_get m.firsts guest) page in
      (sym (ap at marks) ∙ clear, ap (λ (gs : List Guest). page_at (memory_of (slice_get gs guest)) page) guests);
}

pub marked-then : {a b c : Machine} → ChangesAreMarked a b → ChangesAreMarked b c → ChangesAreMarked a c
marked-then h k = record {
  unmarked = λ guest page clear.
      let mid = k.unmarked guest page clear in
      ((h.unmarked guest page mid.0).0, mid.1 ∙ (h.unmarked guest page mid.0).1);
}

pub ruleset marks = (marked-itself, marked-then)
