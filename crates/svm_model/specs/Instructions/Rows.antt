-- Which bytes are a form of the table of instruction rows, and what bytes decode to (volume 3, 'Instruction Encoding').
use Rattle.std.specs.Prelude.{◌≡◌, ◌≢◌, ℕ, ◌<◌, ◌≤◌, ◌-◌, List, [], ◌∷◌, ◌++◌, Result, Ok, Err, length, take}
use Rattle.svm_model.specs.Instructions.Decoding.{form_at}
use Rattle.svm_model.specs.Instructions.InstructionBytes.{AreBytes}
use Rattle.svm_model.specs.declared.row_lines.Unread.{Unread}
use Rattle.svm_model.specs.declared.row_lines.Unread.TheVariants as unread
use Rattle.svm_model.specs.declared.rows.Decoded.{Decoded}
use Rattle.svm_model.specs.declared.rows.Decoded.TheVariants.{Row, More, Unlisted}
use Rattle.svm_model.specs.declared.rows.Row.{Row as Instruction}

-- these bytes are a form of the row: read from left to right, nothing is left (`Spelling` has the same as a relation)
abbrev pub IsForm : List ℕ → Instruction → Type 0
IsForm bytes row = form_at bytes ≡ Ok (row, [])

-- some form begins with these bytes
abbrev pub BeginsForm : List ℕ → Type 0
BeginsForm bytes = (more : List ℕ) × (row : Instruction) × IsForm (bytes ++ more) row

-- a row and its length: a form stands at the front
pub record HasForm (bytes : List ℕ) (row : Instruction) (size : ℕ) : Type 0 where
  pub within : size ≤ length bytes
  pub some : 0 < size
  pub at_most : size ≤ 15
  pub form : IsForm (take size bytes) row

-- some form goes on from the bytes, by at least one more
pub record GoesOn (bytes : List ℕ) : Type 0 where
  pub more : List ℕ
  pub are_bytes : AreBytes more
  pub row : Instruction
  pub some : more ≢ []
  pub form : IsForm (bytes ++ more) row

-- the byte is the first one with which the bytes begin no form
pub record LeavesForms (bytes : List ℕ) (byte : ℕ) : Type 0 where
  pub before : List ℕ
  pub after : List ℕ
  pub there : bytes ≡ before ++ byte ∷ after
  pub begun : GoesOn before
  pub left : BeginsForm (before ++ byte ∷ []) → ⊥

-- what decoding these bytes has to answer
abbrev pub IsDecoded : List ℕ → Decoded → Type 0
IsDecoded bytes (Row row size) = HasForm bytes row size
IsDecoded bytes More = GoesOn bytes
IsDecoded bytes (Unlisted byte) = LeavesForms bytes byte

abbrev pub answer : ℕ → Result (Instruction × List ℕ) Unread → Decoded
answer size (Ok x) = Row x.0 (size - length x.1)
answer size (Err unread.More) = More
answer size (Err (unread.Unlisted byte)) = Unlisted byte

-- the same as a function
unfoldable pub decoded : List ℕ → Decoded
decoded bytes = answer (length bytes) (form_at bytes)
