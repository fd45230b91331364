-- A row that is read into its place.
use Rattle.std.specs.Prelude.{ℕ, Result, Ok, Err}
use Rattle.svm_model.specs.declared.row_lines.Unread.{Unread}
use Rattle.svm_model.specs.declared.row_lines.Unread.TheVariants as unread
use Rattle.svm_model.specs.declared.rows.Decoded.{Decoded}
use Rattle.svm_model.specs.declared.rows.Decoded.TheVariants as decoding
use Rattle.svm_model.specs.declared.rows.Row.{Row}

-- the value that was read stands in its place
abbrev pub in_place : {U X : Type 0} → Result U Unread → X → Result X Unread
in_place (Ok _) x = Ok x
in_place (Err e) x = Err e

-- what the bytes decode to, of the length that was read and the row in its place
abbrev pub answer_in : Result ℕ Unread → Row → Decoded
answer_in (Ok size) row = decoding.Row row size
answer_in (Err unread.More) row = decoding.More
answer_in (Err (unread.Unlisted byte)) row = decoding.Unlisted byte
