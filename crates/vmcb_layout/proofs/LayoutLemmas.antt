-- Each field lies before the end of the layout; a number of a piece is one of memory.
use Rattle.std.proofs.Common.{◌≡◌, ℕ, suc, zero, List, [], ◌∷◌, Bool, true, false, nat_le, ◌<◌, ◌≤◌, length, map, refl, sym, ap, ◌∙◌, take, drop, arith, ◌-◌, ◌^◌, ◌++◌, slice_set, slice_index, replicate}
use Rattle.std.specs.Prelude.{if◌then◌else◌, max, Ok, Err, ◌+◌, ◌==◌, ◌&&◌, ◌||◌}
use Rattle.std.specs.List.{list_all}
use Rattle.std.proofs.lemmas.List.{drop-take, take-take, drop-drop, take_all, take_more_set, map-append, get_or-map, get_or-replicate, length-set, take-append-le, drop_more}
use Rattle.std.specs.Int.{w64, to_le_bytes}
use Rattle.std.proofs.Math.Seq.{take-suc}
use Rattle.std.proofs.lemmas.List.Folds.{list_all_at}
use Rattle.std.proofs.lemmas.Bool.Decides.{nat_tests}
use Rattle.svm_model.specs.Memory.Bytes.{IsWithin, guest_of, bytes_of_result, number_at, value_of_bytes}
use Rattle.svm_model.specs.Svm.Vmcb.{Fields, fields_at, fields_in, value}
use Rattle.svm_model.specs.Svm.VmcbLayout.{layout, number_of, place_at, place_of}
use Rattle.vmcb_layout.specs.Widths.{AreOfWidth, IsPlace, IsWidth}
use Rattle.svm_model.specs.declared.vmcbs.Field.{Field}
use Rattle.svm_model.specs.declared.vmcbs.Field.TheVariants as field
use Rattle.svm_model.proofs.WindowLemmas.{length-guest_of}
use Rattle.svm_model.specs.declared.windows.GuestWindow.{GuestWindow}
use Rattle.svm_model.specs.declared.vmcbs.FieldPlace.{FieldPlace}
use Rattle.vmcb_layout.specs.Reading.{AreRead, reads_from, value_at}

abbrev is_width : ℕ → Bool
is_width w = (w == 1) || (w == 2) || (w == 4) || (w == 8)

abbrev is_place : FieldPlace → Bool
is_place p = nat_le (p.offset + p.width) 0x670 && is_width p.width

all_places : list_all is_place layout ≡ true
unfolding layout
all_places = refl

pub length-layout : length layout ≡ 86
unfolding layout
length-layout = refl

is_width-law : (w : ℕ) → is_width w ≡ true → IsWidth w
is_width-law w h = grind (arith, nat_tests)

is_place-law : (p : FieldPlace) → is_place p ≡ true → IsPlace p
is_place-law p h = record { inside = grind (arith, nat_tests); width = is_width-law p.width (grind (arith, nat_tests)) }

at_each : (n : ℕ) → n < 86 → (b : Bool) → is_place (place_at n) ≡ b → b ≡ true
unfolding place_at
at_each n k true e = refl
at_each n k false e = absurd (cc (list_all_at is_place layout n (record { field = field.CrIntercepts; offset = 0; width = 0 }) (omega (arith, length-layout)) e, all_places))

-- each field lies before the end of the layout
pub place_at-law : (n : ℕ) → n < 86 → IsPlace (place_at n)
place_at-law n k = is_place-law (place_at n) (at_each n k (is_place (place_at n)) refl)

piece : (memory : List ℕ) (at d w : ℕ) → d + w ≤ 16 → take w (drop d (take 16 (drop at memory))) ≡ take w (drop (at + d) memory)
piece memory at d w h =
    let e : 16 ≡ d + (16 - d) = omega (arith, h) in
    ap (λ n. take w (drop d (take n (drop at memory)))) e
    ∙ ap (λ l. take w l) (drop-take d (16 - d) (drop at memory))
    ∙ take-take w (16 - d) (drop d (drop at memory)) (omega (arith, h))
    ∙ ap (λ l. take w l) (drop-drop d at memory)

-- a number of a piece is one of memory
pub number_at-piece : (memory : List ℕ) (vmcb from to w : ℕ) → from ≤ to → to + w ≤ from + 16 → number_at (take 16 (drop (vmcb + from) memory)) (to - from) w ≡ number_at memory (vmcb + to) w
number_at-piece memory vmcb from to w h k =
    let e : (vmcb + from) + (to - from) ≡ vmcb + to = omega (arith, h) in
    ap value_of_bytes (piece memory (vmcb + from) (to - from) w (omega (arith, h, k)) ∙ ap (λ n. take w (drop n memory)) e)

-- zeros fit everywhere
zero-fits : (w : ℕ) → 0 < 256 ^ w
zero-fits zero = omega arith
zero-fits (suc w) = omega (arith, zero-fits w)

below : (a w : ℕ) → a ≡ 0 → a < 256 ^ w
below a w e = omega (arith, e, zero-fits w)

pub zeros-fit : AreOfWidth (replicate 86 0)
zeros-fit = record { fits = λ n h. below (slice_index (replicate 86 0) n) (place_at n).width (get_or-replicate 86 n 0 0 h) }

-- nothing is read at first
pub are_read-none : (memory : List ℕ) (vmcb : ℕ) (values : List ℕ) → length values ≡ 86 → AreRead memory vmcb 0 values
are_read-none memory vmcb values h = record { size = h; front = refl }

length-front : (n : ℕ) → n < 86 → n < length layout
length-front n h = omega (arith, length-layout, h)

abbrev none : FieldPlace
none = record { field = field.CrIntercepts; offset = 0; width = 0 }

front-layout : (f : FieldPlace → ℕ) (n : ℕ) → n < 86 → map f (take (n + 1) layout) ≡ map f (take n layout) ++ f (place_at n) ∷ []
unfolding place_at
front-layout f n h =
    let e : n + 1 ≡ suc n = omega arith in
    ap (λ m. map f (take m layout)) e ∙ ap (map f) (take-suc layout n none (length-front n h)) ∙ map-append f (take n layout) (place_at n ∷ [])

-- another value is read
pub are_read-more : (memory : List ℕ) (vmcb n : ℕ) (values : List ℕ) (value : ℕ) → n < 86 → value ≡ value_at memory vmcb (place_at n) → AreRead memory vmcb n values → AreRead memory vmcb (n + 1) (slice_set values n value)
are_read-more memory vmcb n values value h e r = record {
  size = length-set values n value ∙ r.size;
  front = take_more_set values n value (omega (arith, h, r.size)) ∙ ap (λ xs. xs ++ value ∷ []) r.front ∙ ap (λ v. map (value_at memory vmcb) (take n layout) ++ v ∷ []) e ∙ sym (front-layout (value_at memory vmcb) n h);
}

abbrev pub fields_of : List ℕ → Fields
fields_of values = record { values = values }

-- all are read at last
pub are_read-all : (memory : List ℕ) (vmcb : ℕ) (fields : Fields) → AreRead memory vmcb 86 fields.values → fields ≡ fields_in memory vmcb
unfolding fields_in
are_read-all memory vmcb fields r =
    let e : take 86 fields.values ≡ fields.values = take_all 86 fields.values (omega (arith, r.size)) in
    let k : take 86 layout ≡ layout = take_all 86 layout (omega (arith, length-layout)) in
    ap fields_of (sym e ∙ r.front ∙ ap (map (value_at memory vmcb)) k)

-- the value of a field in memory
pub value-fields_in : (memory : List ℕ) (vmcb : ℕ) (fld : Field) → number_of fld < 86 → value (fields_in memory vmcb) fld ≡ value_at memory vmcb (place_of fld)
unfolding value fields_in place_at
value-fields_in memory vmcb fld h = get_or-map (value_at memory vmcb) layout (number_of fld) none 0 (length-front (number_of fld) h)

moved : {memory : List ℕ} {vmcb n : ℕ} {a b : List ℕ} → a ≡ b → AreRead memory vmcb n a → AreRead memory vmcb n b
moved {n = n} e r = record { size = ap length (sym e) ∙ r.size; front = ap (λ l. take n l) (sym e) ∙ r.front }

at_end : {memory : List ℕ} {vmcb n : ℕ} {a : List ℕ} → n ≡ 86 → AreRead memory vmcb n a → AreRead memory vmcb 86 a
at_end {memory = memory} {vmcb = vmcb} {a = a} e r = record {
  size = r.size;
  front = ap (λ m. take m a) (sym e) ∙ r.front ∙ ap (λ m. map (value_at memory vmcb) (take m layout)) e;
}

pub are_read-step : {memory : List ℕ} {vmcb n : ℕ} {values after : List ℕ} {value : ℕ} {place : FieldPlace} → n < 86 → place ≡ place_at n → value ≡ value_at memory vmcb place → after ≡ slice_set values n value → AreRead memory vmcb n values → AreRead memory vmcb (n + 1) after
are_read-step {memory = memory} {vmcb = vmcb} {n = n} {values = values} {value = value} h p e s r =
    moved (sym s) (are_read-more memory vmcb n values value h (e ∙ ap (value_at memory vmcb) p) r)

pub are_read-end : {memory : List ℕ} {vmcb n : ℕ} {fields : Fields} → n ≡ 86 → AreRead memory vmcb n fields.values → fields ≡ fields_in memory vmcb
are_read-end {memory = memory} {vmcb = vmcb} {fields = fields} e r = are_read-all memory vmcb fields (at_end e r)

chosen : {X : Type 0} (a b : ℕ) (x y : X) → b < a → (if nat_le a b then x else y) ≡ y
chosen a b x y h = grind (arith, nat_tests)

-- where they are not all there
pub fields_at-outside : (w : GuestWindow) (bytes : List ℕ) (vmcb : ℕ) → IsWithin w bytes → w.size < vmcb + 4096 → fields_at (guest_of w bytes) vmcb ≡ Err (record { address = max vmcb w.size })
unfolding fields_at
fields_at-outside w bytes vmcb h k =
    let e : length (guest_of w bytes) ≡ w.size = length-guest_of w bytes h in
    chosen (vmcb + 4096) (length (guest_of w bytes)) (Ok (fields_in (guest_of w bytes) vmcb)) (Err (record { address = max vmcb (length (guest_of w bytes)) })) (omega (arith, e, k))
    ∙ ap (λ n. Err (record { address = max vmcb n })) e

drop-layout : (n : ℕ) → n < 86 → drop n layout ≡ place_at n ∷ drop (n + 1) layout
unfolding place_at
drop-layout n h = drop_more layout n none (length-front n h)

pub drop-layout-at : {n : ℕ} {place : FieldPlace} → n < 86 → place ≡ place_at n → drop n layout ≡ place ∷ drop (n + 1) layout
drop-layout-at {n = n} h e = drop-layout n h ∙ ap (λ p. p ∷ drop (n + 1) layout) (sym e)

-- all fields need 33 reads after the first
pub reads-all : reads_from layout 0 ≡ 33
unfolding layout reads_from
reads-all = refl

pub reads-none : (n at : ℕ) → n ≡ 86 → reads_from (drop n layout) at ≡ 0
unfolding layout reads_from
reads-none n at e = ap (λ m. reads_from (drop m layout) at) e

pub ruleset places = (place_at-law, number_at-piece, are_read-none, are_read-more, are_read-all, fields_at-outside, value-fields_in, reads-all)

pub narrow : (a v w : ℕ) → v ≡ w → a < 256 ^ v → a < 256 ^ w
narrow a v w e h = grind (arith, e, h)

-- a value of a known width fits
pub fits-width : (values : List ℕ) (n w : ℕ) → AreOfWidth values → n < 86 → (place_at n).width ≡ w → slice_index values n < 256 ^ w
fits-width values n w f h e = narrow (slice_index values n) (place_at n).width w e (f.fits n h)

pub at_most_eight : (w : ℕ) → IsWidth w → w ≤ 8
at_most_eight w h = omega (arith, h)

eight : (value : ℕ) → length (to_le_bytes w64 value) ≡ 8
eight value = refl

-- the front of a number's bytes
pub front-bytes : (value w : ℕ) → IsWidth w → take w (to_le_bytes w64 value ++ replicate 8 0) ≡ bytes_of_result w value
unfolding bytes_of_result
front-bytes value w h = take-append-le w (to_le_bytes w64 value) (replicate 8 0) (omega (arith, eight value, at_most_eight w h))

pub ruleset parts = (fits-width, front-bytes)
