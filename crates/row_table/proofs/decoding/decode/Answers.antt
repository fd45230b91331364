use Rattle.std.proofs.Common.{◌≡◌, ◌++◌, subst, sym, ap, ◌∙◌, arith}
use Rattle.svm_model.specs.Instructions.Rows.{decoded, IsDecoded}
use Rattle.svm_model.specs.Instructions.Spelling.{IsDecodedSpelling}
use Rattle.row_table.proofs.Exact.{decoded_is, decoded-front, decoded-begun, decoded-left, decoded-few}
use Rattle.row_table.proofs.Spelled.{IsForm-from_spelled}
use Rattle.row_table.proofs.Spellings.{are_bytes, decoded_spells}
use Rattle.row_table.proofs.decoding.decode.Goals as goal
use Rattle.row_table.proofs.decoding.decode.Goals.{After-answer_in}

exact : (c : After-answer_in) → c.answer_in.result ≡ decoded c.args.bytes.now
exact c = c.answer_in.ensures ∙ c.read_form-read.ensures

pub returns-clause-answer : goal.returns-clause-answer
returns-clause-answer c = subst (IsDecoded c.args.bytes.now) (sym (exact c)) (decoded_is c.args.bytes.now)

pub returns-clause-row : goal.returns-clause-row
returns-clause-row c = λ front rest row e f. exact c ∙ ap decoded e ∙ decoded-front front rest row f

pub returns-clause-more : goal.returns-clause-more
returns-clause-more c = λ next row some f. exact c ∙ decoded-begun c.args.bytes.now next row some f

pub returns-clause-unlisted : goal.returns-clause-unlisted
returns-clause-unlisted c = λ byte l. exact c ∙ decoded-left c.args.bytes.now byte l

pub returns-clause-few : goal.returns-clause-few
returns-clause-few c = λ more. decoded-few c.args.bytes.now (sym (exact c) ∙ more)

pub returns-clause-spelled : goal.returns-clause-spelled
returns-clause-spelled c = subst (IsDecodedSpelling c.args.bytes.now) (sym (exact c)) (decoded_spells c.args.bytes.now (are_bytes c.args.bytes.now (λ i. omega (arith, c.type_inv.bytes i))))

pub returns-clause-spelled_row : goal.returns-clause-spelled_row
returns-clause-spelled_row c = λ front rest row e s. exact c ∙ ap decoded e ∙ decoded-front front rest row (IsForm-from_spelled front row s)

pub returns-clause-spelled_more : goal.returns-clause-spelled_more
returns-clause-spelled_more c = λ next row some s. exact c ∙ decoded-begun c.args.bytes.now next row some (IsForm-from_spelled (c.args.bytes.now ++ next) row s)
