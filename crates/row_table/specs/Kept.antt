-- What a kept row answers, and which bytes find it.
use Rattle.std.specs.Prelude.{◌≡◌, ℕ, List, length, take}
use Rattle.std.specs.Int.{w128, from_le_bytes}
use Rattle.std.specs.Int.Bits.{bit_and}
use Rattle.svm_model.specs.Instructions.InstructionBytes.{AreBytes}
use Rattle.svm_model.specs.Instructions.Rows.{IsForm}
use Rattle.svm_model.specs.declared.rows.Decoded.{Decoded}
use Rattle.svm_model.specs.declared.rows.Decoded.TheVariants as decoding
use Rattle.svm_model.specs.declared.rows.Row.{Row}
use Rattle.row_table.specs.declared.kept.Kept.{Kept}
use Rattle.row_table.specs.declared.kept.Kept.TheVariants as kept

-- sixteen bytes whose number under the mask is the word have the row at their front, in so many bytes
pub record Finds (word mask : ℕ) (row : Row) (size : ℕ) : Type 0 where
  pub form : (bytes : List ℕ) → AreBytes bytes → length bytes ≡ 16 → bit_and (from_le_bytes w128 bytes) mask ≡ word → IsForm (take size bytes) row

-- what the bytes decode to, the row itself in place of a reference to it
abbrev pub answer_of : Kept → Decoded
answer_of (kept.Row row length) = decoding.Row row.now length
answer_of kept.More = decoding.More
answer_of (kept.Unlisted byte) = decoding.Unlisted byte
