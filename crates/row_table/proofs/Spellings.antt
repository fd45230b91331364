-- What decoding answers, said of spellings.
use Rattle.std.proofs.Common.{ℕ, suc, ◌<◌, List, [], ◌∷◌, ◌++◌, take, drop, get_or, sym, ap, ◌∙◌, subst, append_assoc}
use Rattle.std.proofs.lemmas.List.{take-append-drop}
use Rattle.row_table.proofs.Bind.{AreBytes-append}
use Rattle.row_table.proofs.Exact.{decoded_is}
use Rattle.row_table.proofs.Read.{IsSpelled-from_form}
use Rattle.row_table.proofs.Spelled.{IsForm-from_spelled}
use Rattle.svm_model.specs.Instructions.Decoding.{form_at}
use Rattle.svm_model.specs.Instructions.InstructionBytes.{AreBytes}
use Rattle.svm_model.specs.Instructions.Rows.{GoesOn, IsDecoded, decoded}
use Rattle.svm_model.specs.Instructions.Spelling.{GoesOnSpelling, IsDecodedSpelling}
use Rattle.svm_model.specs.declared.rows.Decoded.{Decoded}
use Rattle.svm_model.specs.declared.rows.Decoded.TheVariants as decoding

pub are_bytes : (bytes : List ℕ) → ((i : ℕ) → get_or bytes i 0 < 256) → AreBytes bytes
are_bytes [] h = tt
are_bytes (b ∷ bytes) h = (h 0, are_bytes bytes (λ i. h (suc i)))

front-bytes : (xs ys : List ℕ) → AreBytes (xs ++ ys) → AreBytes xs
front-bytes [] ys h = tt
front-bytes (x ∷ xs) ys h = (h.0, front-bytes xs ys h.1)

goes_on : (bytes : List ℕ) → AreBytes bytes → GoesOn bytes → GoesOnSpelling bytes
goes_on bytes h g = record {
  more = g.more;
  are_bytes = g.are_bytes;
  row = g.row;
  some = g.some;
  spelled = IsSpelled-from_form (bytes ++ g.more) g.row (AreBytes-append bytes g.more h g.are_bytes) g.form;
}

spells : (bytes : List ℕ) (d : Decoded) → AreBytes bytes → IsDecoded bytes d → IsDecodedSpelling bytes d
spells bytes (decoding.Row row size) h i =
    IsSpelled-from_form (take size bytes) row (front-bytes (take size bytes) (drop size bytes) (subst AreBytes (sym (take-append-drop size bytes)) h)) i.form
spells bytes decoding.More h i = goes_on bytes h i
spells bytes (decoding.Unlisted byte) h i = record {
  before = i.before;
  after = i.after;
  there = i.there;
  begun = goes_on i.before (front-bytes i.before (byte ∷ i.after) (subst AreBytes i.there h)) i.begun;
  left = λ more row s. i.left (more, row, ap form_at (append_assoc i.before (byte ∷ []) more) ∙ IsForm-from_spelled (i.before ++ byte ∷ more) row s);
}

pub decoded_spells : (bytes : List ℕ) → AreBytes bytes → IsDecodedSpelling bytes (decoded bytes)
decoded_spells bytes h = spells bytes (decoded bytes) h (decoded_is bytes)
