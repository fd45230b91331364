-- What a write keeps stays so.
use Rattle.std.proofs.Common.{◌≡◌, ◌∙◌, ℕ, zero, suc, ◌-◌, ◌/◌, ◌%◌, ◌^◌, ◌≤◌, List, [], ◌∷◌, ap, refl, sym, arith, slice_index, slice_set, bit_and, bit_or}
use Rattle.std.proofs.lemmas.Nat.{and_assoc}
use Rattle.std.specs.Int.Bits.{and_self, and_zero_l}
use Rattle.svm_model.specs.Machine.Apic.{with_vector, without_vector}
use Rattle.svm_model.specs.Machine.ApicRegisters.{lvt_mask}
use Rattle.apic_state.specs.Parts.{AreEntries, HasNoLow}

-- what stands at a place is as before, or what was set there
at_place : (P : ℕ → Type 0) (xs : List ℕ) (i j x : ℕ) → P (slice_index xs j) → (i ≡ j → P x) → P (slice_index (slice_set xs i x) j)
at_place P [] i j x old new = old
at_place P (y ∷ xs) zero zero x old new = new refl
at_place P (y ∷ xs) zero (suc j) x old new = old
at_place P (y ∷ xs) (suc i) zero x old new = old
at_place P (y ∷ xs) (suc i) (suc j) x old new = at_place P xs i j x old (λ same. new (ap suc same))

pub none_low_with : (set : List ℕ) (vector : ℕ) → 16 ≤ vector → HasNoLow set → HasNoLow (with_vector set vector)
none_low_with set vector h low =
    let byte = bit_or (slice_index set (vector / 8)) (2 ^ (vector % 8)) in
    record {
      first = at_place (λ (b : ℕ). b ≡ 0) set (vector / 8) 0 byte low.first (λ same. absurd (omega (arith, h, same)));
      second = at_place (λ (b : ℕ). b ≡ 0) set (vector / 8) 1 byte low.second (λ same. absurd (omega (arith, h, same)));
    }

cleared : (set : List ℕ) (i j mask : ℕ) → slice_index set j ≡ 0 → i ≡ j → bit_and (slice_index set i) mask ≡ 0
cleared set i j mask low same =
    ap (λ (n : ℕ). bit_and (slice_index set n) mask) same ∙ ap (λ (b : ℕ). bit_and b mask) low ∙ and_zero_l mask

pub none_low_without : (set : List ℕ) (vector : ℕ) → HasNoLow set → HasNoLow (without_vector set vector)
none_low_without set vector low =
    let mask = 255 - 2 ^ (vector % 8) in
    let byte = bit_and (slice_index set (vector / 8)) mask in
    record {
      first = at_place (λ (b : ℕ). b ≡ 0) set (vector / 8) 0 byte low.first (cleared set (vector / 8) 0 mask low.first);
      second = at_place (λ (b : ℕ). b ≡ 0) set (vector / 8) 1 byte low.second (cleared set (vector / 8) 1 mask low.second);
    }

pub kept_once : (value mask : ℕ) → bit_and (bit_and value mask) mask ≡ bit_and value mask
kept_once value mask = and_assoc mask value mask ∙ ap (λ (m : ℕ). bit_and value m) (and_self mask)

pub entries-set : (lvt : List ℕ) (place value mask : ℕ) → mask ≡ lvt_mask place → AreEntries lvt → AreEntries (slice_set lvt place (bit_and value mask))
entries-set lvt place value mask is entries = record {
  kept = λ n h. at_place (λ (w : ℕ). bit_and w (lvt_mask n) ≡ w) lvt place n (bit_and value mask) (entries.kept n h)
      (λ same. ap (λ (m : ℕ). bit_and (bit_and value mask) m) (sym (is ∙ ap (λ (k : ℕ). lvt_mask k) same)) ∙ kept_once value mask);
}
