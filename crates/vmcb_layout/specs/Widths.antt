-- How wide fields are (volume 2, 'VMCB Layout').
use Rattle.std.specs.Prelude.{◌≡◌, ◌⊎◌, ℕ, ◌+◌, ◌^◌, ◌<◌, ◌≤◌, List, slice_index}
use Rattle.svm_model.specs.Svm.VmcbLayout.{place_at}
use Rattle.svm_model.specs.declared.vmcbs.FieldPlace.{FieldPlace}

-- the widths of fields
abbrev pub IsWidth : ℕ → Type 0
IsWidth width = (width ≡ 1) ⊎ (width ≡ 2) ⊎ (width ≡ 4) ⊎ (width ≡ 8)

-- the bytes of a VMCB up to the end of its last field
abbrev pub extent : ℕ
extent = 0x670

-- a field lies before that end, and has one of the widths
pub record IsPlace (p : FieldPlace) : Type 0 where
  pub inside : p.offset + p.width ≤ extent
  pub width : IsWidth p.width

-- each value fits the width of its field
pub record AreOfWidth (values : List ℕ) : Type 0 where
  pub fits : (number : ℕ) → number < 86 → slice_index values number < 256 ^ (place_at number).width

-- the four parts of a segment or table register stand from this number on
pub record HasParts (number : ℕ) : Type 0 where
  pub inside : number + 3 < 86
  pub selector : (place_at number).width ≡ 2
  pub attributes : (place_at (number + 1)).width ≡ 2
  pub limit : (place_at (number + 2)).width ≡ 4
  pub base : (place_at (number + 3)).width ≡ 8
