-- Who puts a field changes the value of that field alone: no two fields share a byte.
use Rattle.std.proofs.Common.{◌≡◌, ◌≢◌, ◌⊎◌, inl, inr, ℕ, List, Bool, true, false, nat_le, ◌<◌, ◌≤◌, length, map, refl, sym, ap, ◌∙◌, take, drop, arith, ◌^◌, ◌++◌, slice_set, slice_index, length-append}
use Rattle.std.specs.Prelude.{◌+◌, ◌==◌, ◌||◌}
use Rattle.std.specs.List.{list_all, range_with_len}
use Rattle.std.specs.Int.{w64, to_le_bytes}
use Rattle.std.proofs.lemmas.List.{drop-take, take_at, drop_at, length-take-le, get_or-map, get_or-set_same, get_or-set_other, length-set, length-map, ext_get_or}
use Rattle.std.proofs.lemmas.List.FromFn.{length-range_with_len, get_or-range_with_len}
use Rattle.std.proofs.lemmas.List.Folds.{list_all_at}
use Rattle.std.proofs.lemmas.Nat.{from_le_bytes-to_le_bytes_8}
use Rattle.std.proofs.lemmas.Bool.Decides.{nat_tests}
use Rattle.svm_model.specs.Memory.Bytes.{bytes_of_result, put_at, value_of_bytes, number_at, with_number}
use Rattle.svm_model.specs.Svm.VmcbLayout.{layout, number_of, place_at, place_of}
use Rattle.svm_model.specs.Svm.Vmcb.{fields_in, with_field, with_value}
use Rattle.svm_model.specs.declared.vmcbs.Field.{Field}
use Rattle.svm_model.specs.declared.vmcbs.Field.TheVariants as field
use Rattle.svm_model.specs.declared.vmcbs.FieldPlace.{FieldPlace}
use Rattle.svm_model.proofs.PutLemmas.{put_at-before, put_at-behind}
use Rattle.vmcb_layout.specs.Reading.{value_at}
use Rattle.vmcb_layout.proofs.LayoutLemmas.{at_most_eight, fields_of, length-layout, narrow, place_at-law}
use Rattle.vmcb_layout.specs.Widths.{IsWidth}

abbrev end_at : ℕ → ℕ
end_at n = (place_at n).offset + (place_at n).width

-- the fields of two numbers are the same or share no byte
abbrev is_apart : ℕ → ℕ → Bool
is_apart n m = (n == m) || nat_le (end_at n) (place_at m).offset || nat_le (end_at m) (place_at n).offset

abbrev is_apart_from_all : ℕ → Bool
is_apart_from_all n = list_all (is_apart n) (range_with_len 0 86)

all-apart : list_all is_apart_from_all (range_with_len 0 86) ≡ true
unfolding layout place_at
all-apart = refl

numbered : (n : ℕ) → n < 86 → slice_index (range_with_len 0 86) n ≡ n
numbered n h = get_or-range_with_len 0 86 n 0 h ∙ omega arith

in-range : (test : ℕ → Bool) (n : ℕ) → n < 86 → list_all test (range_with_len 0 86) ≡ true → (b : Bool) → test n ≡ b → test n ≡ true
in-range test n h e true k = k
in-range test n h e false k =
    let long : length (range_with_len 0 86) ≡ 86 = length-range_with_len 0 86 in
    absurd (cc (list_all_at test (range_with_len 0 86) n 0 (omega (arith, h, long)) (ap test (numbered n h) ∙ k), e))

apart-test : (n m : ℕ) → n < 86 → m < 86 → is_apart n m ≡ true
apart-test n m h k = in-range (is_apart n) m k (in-range is_apart_from_all n h all-apart (is_apart_from_all n) refl) (is_apart n m) refl

apart : (n m : ℕ) → n < 86 → m < 86 → n ≢ m → (end_at n ≤ (place_at m).offset) ⊎ (end_at m ≤ (place_at n).offset)
apart n m h k d = grind (arith, nat_tests, apart-test n m h k, d)

-- what was put is there
there : (memory bytes : List ℕ) (at : ℕ) → at ≤ length memory → take (length bytes) (drop at (put_at memory at bytes)) ≡ bytes
there memory bytes at h =
    let front : length (take at memory) ≡ at = length-take-le at memory h in
    let size : length (take at memory ++ bytes) ≡ at + length bytes = omega (arith, length-append (take at memory) bytes, front) in
    sym (drop-take at (length bytes) (put_at memory at bytes))
    ∙ ap (drop at) (take_at (take at memory ++ bytes) (drop (at + length bytes) memory) (at + length bytes) size)
    ∙ drop_at (take at memory) bytes at front

one : (value : ℕ) → value < 256 → value_of_bytes (bytes_of_result 1 value) ≡ value
unfolding value_of_bytes bytes_of_result
one value h = omega (arith, h)

two : (value : ℕ) → value < 65536 → value_of_bytes (bytes_of_result 2 value) ≡ value
unfolding value_of_bytes bytes_of_result
two value h = omega (arith, h)

four : (value : ℕ) → value < 4294967296 → value_of_bytes (bytes_of_result 4 value) ≡ value
unfolding value_of_bytes bytes_of_result
four value h = omega (arith, h)

eight : (value : ℕ) → value < 2 ^ 64 → value_of_bytes (bytes_of_result 8 value) ≡ value
unfolding value_of_bytes bytes_of_result
eight value h = from_le_bytes-to_le_bytes_8 value h

-- a number that is written is read again
written : (w value : ℕ) → IsWidth w → value < 256 ^ w → value_of_bytes (bytes_of_result w value) ≡ value
written w value (inl e) h = ap (λ n. value_of_bytes (bytes_of_result n value)) e ∙ one value (narrow value w 1 e h)
written w value (inr (inl e)) h = ap (λ n. value_of_bytes (bytes_of_result n value)) e ∙ two value (narrow value w 2 e h)
written w value (inr (inr (inl e))) h = ap (λ n. value_of_bytes (bytes_of_result n value)) e ∙ four value (narrow value w 4 e h)
written w value (inr (inr (inr e))) h = ap (λ n. value_of_bytes (bytes_of_result n value)) e ∙ eight value (narrow value w 8 e h)

length-bytes : (w value : ℕ) → IsWidth w → length (bytes_of_result w value) ≡ w
unfolding bytes_of_result
length-bytes w value k = length-take-le w (to_le_bytes w64 value) (at_most_eight w k)

number_same : (memory : List ℕ) (at w value : ℕ) → IsWidth w → value < 256 ^ w → at ≤ length memory → number_at (with_number memory at w value) at w ≡ value
number_same memory at w value k h inside =
    ap value_of_bytes (ap (λ n. take n (drop at (put_at memory at (bytes_of_result w value)))) (sym (length-bytes w value k)) ∙ there memory (bytes_of_result w value) at inside)
    ∙ written w value k h

number_other : (memory : List ℕ) (at w value from v : ℕ) → IsWidth w → at + w ≤ length memory → (at + w ≤ from) ⊎ (from + v ≤ at) → number_at (with_number memory at w value) from v ≡ number_at memory from v
number_other memory at w value from v k inside (inl h) =
    let long : length (bytes_of_result w value) ≡ w = length-bytes w value k in
    ap (λ l. value_of_bytes (take v l)) (put_at-behind memory (bytes_of_result w value) at from (omega (arith, inside, long)) (omega (arith, h, long)))
number_other memory at w value from v k inside (inr h) = ap value_of_bytes (put_at-before memory (bytes_of_result w value) at from v (omega (arith, inside)) h)

value-in : (f : FieldPlace → ℕ) (n : ℕ) → n < 86 → slice_index (map f layout) n ≡ f (place_at n)
unfolding place_at
value-in f n h = get_or-map f layout n (record { field = field.CrIntercepts; offset = 0; width = 0 }) 0 (omega (arith, length-layout, h))

-- memory with the value of the field of a number
abbrev with_number_of : List ℕ → ℕ → ℕ → ℕ → List ℕ
with_number_of memory vmcb n value = with_number memory (vmcb + (place_at n).offset) (place_at n).width value

abbrev before_put : List ℕ → ℕ → List ℕ
before_put memory vmcb = map (value_at memory vmcb) layout

moved_apart : (vmcb a b c d : ℕ) → (a + b ≤ c) ⊎ (c + d ≤ a) → (vmcb + a + b ≤ vmcb + c) ⊎ (vmcb + c + d ≤ vmcb + a)
moved_apart vmcb a b c d (inl h) = inl (omega (arith, h))
moved_apart vmcb a b c d (inr h) = inr (omega (arith, h))

each : (memory : List ℕ) (vmcb n value i : ℕ) → n < 86 → i < 86 → vmcb + (place_at n).offset + (place_at n).width ≤ length memory → value < 256 ^ (place_at n).width → (b : Bool) → (i == n) ≡ b
    → value_at (with_number_of memory vmcb n value) vmcb (place_at i) ≡ slice_index (slice_set (before_put memory vmcb) n value) i
each memory vmcb n value i h k inside fits true e =
    let same : i ≡ n = grind (arith, nat_tests, e) in
    let long : length (before_put memory vmcb) ≡ 86 = length-map layout (value_at memory vmcb) ∙ length-layout in
    ap (λ m. value_at (with_number_of memory vmcb n value) vmcb (place_at m)) same
    ∙ number_same memory (vmcb + (place_at n).offset) (place_at n).width value (place_at-law n h).width fits (omega (arith, inside))
    ∙ sym (get_or-set_same (before_put memory vmcb) n value 0 (omega (arith, long, h)))
    ∙ ap (λ m. slice_index (slice_set (before_put memory vmcb) n value) m) (sym same)
each memory vmcb n value i h k inside fits false e =
    let other : i ≢ n = grind (arith, nat_tests, e) in
    number_other memory (vmcb + (place_at n).offset) (place_at n).width value (vmcb + (place_at i).offset) (place_at i).width (place_at-law n h).width inside
    (moved_apart vmcb (place_at n).offset (place_at n).width (place_at i).offset (place_at i).width (apart n i h k (λ d. other (sym d))))
    ∙ sym (value-in (value_at memory vmcb) i k)
    ∙ sym (get_or-set_other (before_put memory vmcb) n i value 0 other)

all : (memory : List ℕ) (vmcb n value : ℕ) → n < 86 → vmcb + (place_at n).offset + (place_at n).width ≤ length memory → value < 256 ^ (place_at n).width
    → map (value_at (with_number_of memory vmcb n value) vmcb) layout ≡ slice_set (before_put memory vmcb) n value
all memory vmcb n value h inside fits =
    let long : length (map (value_at (with_number_of memory vmcb n value) vmcb) layout) ≡ 86 = length-map layout (value_at (with_number_of memory vmcb n value) vmcb) ∙ length-layout in
    let set_long : length (slice_set (before_put memory vmcb) n value) ≡ 86 = length-set (before_put memory vmcb) n value ∙ length-map layout (value_at memory vmcb) ∙ length-layout in
    ext_get_or 0 (map (value_at (with_number_of memory vmcb n value) vmcb) layout) (slice_set (before_put memory vmcb) n value) (long ∙ sym set_long)
    (λ i k. value-in (value_at (with_number_of memory vmcb n value) vmcb) i (omega (arith, k, long)) ∙ each memory vmcb n value i h (omega (arith, k, long)) inside fits (i == n) refl)

-- the fields after a put are those before it with the value of that field
pub fields_in-with_field : (memory : List ℕ) (vmcb : ℕ) (fld : Field) (value : ℕ) → number_of fld < 86 → vmcb + (place_of fld).offset + (place_of fld).width ≤ length memory → value < 256 ^ (place_of fld).width
    → fields_in (with_field vmcb fld value memory) vmcb ≡ with_value (fields_in memory vmcb) fld value
unfolding fields_in with_field with_value
fields_in-with_field memory vmcb fld value h inside fits = ap (λ (values : List ℕ). fields_of values) (all memory vmcb (number_of fld) value h inside fits)

-- the same where the field's line and the bytes that are written were worked out before
pub put-alone : (memory new bytes : List ℕ) (vmcb : ℕ) (fld : Field) (value : ℕ) (line : FieldPlace) → line ≡ place_of fld → number_of fld < 86 → take line.width bytes ≡ bytes_of_result line.width value → value < 256 ^ (place_of fld).width
    → vmcb + (place_of fld).offset + (place_of fld).width ≤ length memory → new ≡ put_at memory (vmcb + line.offset) (take line.width bytes)
    → fields_in new vmcb ≡ with_value (fields_in memory vmcb) fld value
unfolding with_field
put-alone memory new bytes vmcb fld value line e h front fits inside k =
    ap (λ m. fields_in m vmcb) (k ∙ ap (put_at memory (vmcb + line.offset)) front ∙ ap (λ (p : FieldPlace). with_number memory (vmcb + p.offset) p.width value) e)
    ∙ fields_in-with_field memory vmcb fld value h inside fits
