-- The guests of an image as they start.
use Rattle.std.proofs.Common.{◌≡◌, ◌∙◌, ℕ, zero, suc, ◌+◌, ◌-◌, ◌*◌, ◌≤◌, ◌<◌, List, [], ◌∷◌, ◌++◌, length, take, drop, map, replicate, ap, sym, refl, subst, arith, get_or, add-one}
use Rattle.std.specs.List.{All}
use Rattle.std.proofs.Math.Seq.{take-suc}
use Rattle.std.proofs.lemmas.List.{drop-drop, take-replicate, drop-replicate, length-map, map-append}
use Rattle.std.proofs.lemmas.List.Elements.{All-head, All-tail, All-take}
use Rattle.svm_model.specs.Formats.Image.{ImageGuest}
use Rattle.svm_model.specs.Formats.LawfulImages.{IsLawfulGuest}
use Rattle.svm_model.specs.Machine.Apic.{Apic, first_apic}
use Rattle.svm_model.specs.Machine.Guest.{Guest}
use Rattle.svm_model.specs.Machine.World.{first_apics, first_guest, first_vcpu, loaded}
use Rattle.svm_model.specs.Memory.Bytes.{Host, SameOutside, guest_of}
use Rattle.svm_model.specs.declared.register_file.Registers.{Registers}
use Rattle.svm_model.specs.declared.windows.GuestWindow.{GuestWindow}
use Rattle.plain_machine.proofs.Rows.{before, row_end}
use Rattle.plain_machine.specs.Opening.{pages_in, slot_of, slots_of}
use Rattle.plain_machine.specs.Slots.{Kept, layout, guest_at, guests_at, layouts, AreInRow, IsSlot}

-- one APIC more
apics-next : (id : ℕ) (starts : List Registers) (n : ℕ) → n < length starts → first_apics id (take (suc n) starts) ≡ first_apics id (take n starts) ++ first_apic (id + n) ∷ []
unfolding first_apics
apics-next id [] n h = absurd (omega (arith, h))
apics-next id (r ∷ starts) zero h = ap (λ (k : ℕ). first_apic k ∷ []) (omega arith)
apics-next id (r ∷ starts) (suc n) h =
    ap (λ (rest : List Apic). first_apic id ∷ rest) (apics-next (id + 1) starts n (omega (arith, h)))
    ∙ ap (λ (k : ℕ). first_apic id ∷ (first_apics (id + 1) (take n starts) ++ first_apic k ∷ [])) (omega arith)

pub first_apics-next : (starts : List Registers) (n : ℕ) → n < length starts → first_apics 0 (take (n + 1) starts) ≡ first_apics 0 (take n starts) ++ first_apic n ∷ []
first_apics-next starts n h =
    let none : 0 + n ≡ n = omega arith in
    ap (λ (k : ℕ). first_apics 0 (take k starts)) (add-one n)
    ∙ apics-next 0 starts n h
    ∙ ap (λ (k : ℕ). first_apics 0 (take n starts) ++ first_apic k ∷ []) none

pub length-first_apics : (id : ℕ) (starts : List Registers) → length (first_apics id starts) ≡ length starts
unfolding first_apics
length-first_apics id [] = refl
length-first_apics id (r ∷ starts) = omega (arith, length-first_apics (id + 1) starts)

-- Their slots.

is_slot : (base : ℕ) (guest : ImageGuest) → IsLawfulGuest guest → IsSlot (layout (slot_of base guest))
is_slot base guest lawful = record {
  pages = grind arith;
  some = let p = lawful.some_pages in omega (arith, p);
  apics = length-first_apics 0 guest.vcpus ∙ sym (length-map guest.vcpus first_vcpu);
  few = omega (arith, length-first_apics 0 guest.vcpus, lawful.most_vcpus);
}

pub row_of : (size from : ℕ) (guests : List ImageGuest) → All IsLawfulGuest guests → from + 4096 * pages_in guests ≤ size → AreInRow size from (layouts (slots_of from guests))
row_of size from [] lawful h = omega arith
row_of size from (g ∷ guests) lawful h =
    (refl, is_slot from g (All-head IsLawfulGuest g guests lawful), row_of size (from + 4096 * g.pages) guests (All-tail IsLawfulGuest g guests lawful) (omega arith))

pub pages_in-next : (guests : List ImageGuest) (n : ℕ) (d : ImageGuest) → n < length guests → pages_in (take (suc n) guests) ≡ pages_in (take n guests) + (get_or guests n d).pages
pages_in-next [] n d h = absurd (omega (arith, h))
pages_in-next (g ∷ guests) zero d h = omega arith
pages_in-next (g ∷ guests) (suc n) d h = omega (arith, pages_in-next guests n d (omega (arith, h)))

pub pages_in-most : (guests : List ImageGuest) (n : ℕ) → pages_in (take n guests) ≤ pages_in guests
pages_in-most [] zero = omega arith
pages_in-most [] (suc n) = omega arith
pages_in-most (g ∷ guests) zero = omega arith
pages_in-most (g ∷ guests) (suc n) = omega (arith, pages_in-most guests n)

pub slots_of-next : (base : ℕ) (guests : List ImageGuest) (n : ℕ) (d : ImageGuest) → n < length guests → slots_of base (take (suc n) guests) ≡ slots_of base (take n guests) ++ slot_of (base + 4096 * pages_in (take n guests)) (get_or guests n d) ∷ []
slots_of-next base [] n d h = absurd (omega (arith, h))
slots_of-next base (g ∷ guests) zero d h = ap (λ (k : ℕ). slot_of k g ∷ []) (omega arith)
slots_of-next base (g ∷ guests) (suc n) d h =
    ap (λ (ss : List Kept). slot_of base g ∷ ss) (slots_of-next (base + 4096 * g.pages) guests n d (omega (arith, h)))
    ∙ ap (λ (k : ℕ). slot_of base g ∷ (slots_of (base + 4096 * g.pages) (take n guests) ++ slot_of k (get_or guests n d) ∷ [])) (omega arith)

-- Their memories.

-- all those before the changed window stay
all_before : (w : GuestWindow) (from : ℕ) (slots : List Kept) (old new : Host) → SameOutside w old new → AreInRow w.base from (layouts slots) → guests_at new.bytes slots ≡ guests_at old.bytes slots
all_before w from [] old new same row = refl
all_before w from (x ∷ slots) old new same row =
    let rest = row_end w.base (from + x.window.size) (layouts slots) row.2 in
    let here = before w x.window old new same (omega (arith, row.0, rest)) in
    ap (λ (m : List ℕ). record { memory = m; ended = x.ended; vcpus = x.vcpus; apics = x.apics } ∷ guests_at new.bytes slots) here
    ∙ ap (λ (gs : List Guest). guest_at old.bytes x ∷ gs) (all_before w (from + x.window.size) slots old new same row.2)

zeros : (size base n : ℕ) → base + n ≤ size → take n (drop base (replicate {A = ℕ} size 0)) ≡ replicate n 0
zeros size base n h = ap (take n) (drop-replicate base size 0) ∙ take-replicate n (size - base) 0 (omega (arith, h))

nothing : (n : ℕ) → n ≡ 0 + n
nothing n = omega arith

-- what is behind a first part
drop-next : (base n : ℕ) (xs : List ℕ) → drop n (drop base xs) ≡ drop (base + n) xs
drop-next base n xs = drop-drop n base xs

lawful-take : (guests : List ImageGuest) (n : ℕ) → All IsLawfulGuest guests → All IsLawfulGuest (take n guests)
lawful-take guests n lawful = All-take IsLawfulGuest n guests lawful

-- the guests so far, of which memory has the windows, and zeros behind them
pub record Opened (guests : List ImageGuest) (n : ℕ) (slots : List Kept) (base : ℕ) (bytes : List ℕ) : Type 0 where
  pub slots_are : slots ≡ slots_of 0 (take n guests)
  pub base_is : base ≡ 4096 * pages_in (take n guests)
  pub size : length bytes ≡ 4096 * pages_in guests
  pub zeros_left : drop base bytes ≡ drop base (replicate {A = ℕ} (4096 * pages_in guests) 0)
  pub guests_are : guests_at bytes slots ≡ map first_guest (take n guests)

-- one guest more has room
pub room : (guests : List ImageGuest) (n : ℕ) (d : ImageGuest) (slots : List Kept) (base : ℕ) (bytes : List ℕ) → n < length guests → Opened guests n slots base bytes → base + 4096 * (get_or guests n d).pages ≤ length bytes
room guests n d slots base bytes h o =
    omega (arith, o.base_is, o.size, pages_in-next guests n d h, pages_in-most guests (suc n))

pub opened_next : (guests : List ImageGuest) (n : ℕ) (d : ImageGuest) (slots : List Kept) (base : ℕ) (old new : Host) (slot : Kept) → All IsLawfulGuest guests → n < length guests → Opened guests n slots base old.bytes →
    slot ≡ slot_of base (get_or guests n d) → guest_of slot.window new.bytes ≡ loaded (guest_of slot.window old.bytes) (get_or guests n d).segments → SameOutside slot.window old new →
    Opened guests (n + 1) (slots ++ slot ∷ []) (base + slot.window.size) new.bytes
opened_next guests n d slots base old new slot lawful h o is filled same =
    let g = get_or guests n d in
    let pages = pages_in-next guests n d h in
    let most = pages_in-most guests (suc n) in
    let at : slot.window.base ≡ base = ap (λ (k : Kept). k.window.base) is in
    let long : slot.window.size ≡ 4096 * g.pages = ap (λ (k : Kept). k.window.size) is in
    let counted : base + slot.window.size ≡ 4096 * pages_in (take (suc n) guests) = omega (arith, o.base_is, long, pages) in
    let within : base + 4096 * g.pages ≤ 4096 * pages_in guests = omega (arith, o.base_is, pages, most) in
    let lawful_front : All IsLawfulGuest (take n guests) = lawful-take guests n lawful in
    let room_front : 0 + 4096 * pages_in (take n guests) ≤ slot.window.base = omega (arith, at, o.base_is) in
    let row : AreInRow slot.window.base 0 (layouts slots)
    = subst (λ (ss : List Kept). AreInRow slot.window.base 0 (layouts ss)) (sym o.slots_are) (row_of slot.window.base 0 (take n guests) lawful_front room_front) in
    let kept : guests_at new.bytes slots ≡ map first_guest (take n guests) = all_before slot.window 0 slots old new same row ∙ o.guests_are in
    let blank : guest_of slot.window old.bytes ≡ replicate (4096 * g.pages) 0 =
    ap (λ (k : ℕ). take slot.window.size (drop k old.bytes)) at
    ∙ ap (take slot.window.size) o.zeros_left
    ∙ ap (λ (k : ℕ). take k (drop base (replicate {A = ℕ} (4096 * pages_in guests) 0))) long
    ∙ zeros (4096 * pages_in guests) base (4096 * g.pages) within in
    let here : guest_at new.bytes slot ≡ first_guest g =
    ap (λ (m : List ℕ). record { memory = m; ended = slot.ended; vcpus = slot.vcpus; apics = slot.apics }) (filled ∙ ap (λ (m : List ℕ). loaded m g.segments) blank)
    ∙ ap (λ (k : Kept). record { memory = loaded (replicate (4096 * g.pages) 0) g.segments; ended = k.ended; vcpus = k.vcpus; apics = k.apics }) is in
    let behind : (xs : List ℕ) → drop (base + slot.window.size) xs ≡ drop slot.window.size (drop base xs) = λ xs. sym (drop-next base slot.window.size xs) in
    record {
      slots_are =
          ap (λ (ss : List Kept). ss ++ slot ∷ []) o.slots_are
          ∙ ap (λ (k : Kept). slots_of 0 (take n guests) ++ k ∷ []) (is ∙ ap (λ (k : ℕ). slot_of k g) (o.base_is ∙ nothing (4096 * pages_in (take n guests))))
          ∙ sym (slots_of-next 0 guests n d h)
          ∙ ap (λ (k : ℕ). slots_of 0 (take k guests)) (sym (add-one n));
      base_is = counted ∙ ap (λ (k : ℕ). 4096 * pages_in (take k guests)) (sym (add-one n));
      size = same.size ∙ o.size;
      zeros_left =
          ap (λ (k : ℕ). drop (k + slot.window.size) new.bytes) (sym at)
          ∙ same.after
          ∙ ap (λ (k : ℕ). drop (k + slot.window.size) old.bytes) at
          ∙ behind old.bytes
          ∙ ap (drop slot.window.size) o.zeros_left
          ∙ sym (behind (replicate {A = ℕ} (4096 * pages_in guests) 0));
      guests_are =
          map-append (guest_at new.bytes) slots (slot ∷ [])
          ∙ ap (λ (gs : List Guest). gs ++ guest_at new.bytes slot ∷ []) kept
          ∙ ap (λ (k : Guest). map first_guest (take n guests) ++ k ∷ []) here
          ∙ sym (map-append first_guest (take n guests) (g ∷ []))
          ∙ ap (map first_guest) (sym (take-suc guests n d h))
          ∙ ap (λ (k : ℕ). map first_guest (take k guests)) (sym (add-one n));
    }

pub pages_in-few : (guests : List ImageGuest) → All IsLawfulGuest guests → pages_in guests ≤ 16384 * length guests
pages_in-few [] lawful = omega arith
pages_in-few (g ∷ guests) lawful =
    let here = (All-head IsLawfulGuest g guests lawful).most_pages in
    omega (arith, here, pages_in-few guests (All-tail IsLawfulGuest g guests lawful))
