use Rattle.std.proofs.Common.{◌≡◌, ap, ◌∙◌, Ok, arith}
use Rattle.svm_model.specs.Instructions.Decoding.{row_at, form_at}
use Rattle.row_table.proofs.Exact.{Shortens, form_shortens}
use Rattle.row_table.proofs.decoding.read_form.Goals as goal
use Rattle.row_table.proofs.decoding.read_form.Goals.{In_ok-read_row}

-- the row was read of the bytes from their front
shortened : (c : In_ok-read_row) → Shortens c.args.bytes.now c.read_row.new.input.rest.now
shortened c =
    let e : form_at c.args.bytes.now ≡ Ok (c.read_row.new.row, c.read_row.new.input.rest.now) = ap (λ f. row_at f.0 f.1) c.read_prefixes-prefixes.ensures ∙ c.in_ok-read_row.ensures in
    form_shortens c.args.bytes.now c.read_row.new.row c.read_row.new.input.rest.now e

pub overflow_sub-result : goal.overflow_sub-result
overflow_sub-result c = (shortened c).less

pub overflow_cast-result : goal.overflow_cast-result
overflow_cast-result c = omega (arith, (shortened (goal.at.overflow_cast-result c).In_ok-read_row).at_most)
