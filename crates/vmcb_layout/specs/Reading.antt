-- All fields read from memory, by sixteen bytes at a time.
use Rattle.std.specs.Prelude.{Bool, [], ◌∷◌, ◌||◌, nat_lt, min, if◌then◌else◌, ◌≡◌, ℕ, ◌+◌, ◌≤◌, List, take, drop, length, map}
use Rattle.svm_model.specs.Memory.Bytes.{number_at}
use Rattle.svm_model.specs.Svm.VmcbLayout.{layout}
use Rattle.svm_model.specs.declared.vmcbs.FieldPlace.{FieldPlace}
use Rattle.vmcb_layout.specs.declared.reads.Piece.{Piece}

-- what memory has at the place of a field
abbrev pub value_at : List ℕ → ℕ → FieldPlace → ℕ
value_at memory vmcb p = number_at memory (vmcb + p.offset) p.width

-- the bytes are those of the VMCB at the piece's offset
pub record IsPiece (memory : List ℕ) (vmcb : ℕ) (p : Piece) : Type 0 where
  pub low : p.offset ≤ 0x660
  pub bytes : p.bytes ≡ take 16 (drop (vmcb + p.offset) memory)

-- a field is not in the piece at an offset
abbrev pub lacks : FieldPlace → ℕ → Bool
lacks p at = nat_lt p.offset at || nat_lt (at + 16) (p.offset + p.width)

-- how many reads these fields need, with a piece at an offset
unfoldable pub reads_from : List FieldPlace → ℕ → ℕ
reads_from [] at = 0
reads_from (p ∷ places) at = if lacks p at then 1 + reads_from places (min p.offset 0x660) else reads_from places at

-- so many values are those of memory
pub record AreRead (memory : List ℕ) (vmcb number : ℕ) (values : List ℕ) : Type 0 where
  pub size : length values ≡ 86
  pub front : take number values ≡ map (value_at memory vmcb) (take number layout)
