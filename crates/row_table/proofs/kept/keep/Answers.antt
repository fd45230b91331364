use Rattle.std.proofs.Common.{rules, take, arith, sym, subst}
use Rattle.svm_model.specs.Instructions.Rows.{HasForm, IsDecoded}
use Rattle.row_table.proofs.Exact.{decoded_is}
use Rattle.row_table.proofs.KeptBytes.{Finds-of}
use Rattle.row_table.proofs.Spellings.{are_bytes}
use Rattle.row_table.proofs.kept.keep.Goals as goal
use Rattle.row_table.proofs.kept.keep.Goals.{In-Ok}

-- the row stands at the front of the bytes
stands : (c : In-Ok) → HasForm (take c.from.result c.args.bytes.now) c.read_form.new.row c.in-Ok.length
stands c = subst (IsDecoded (take c.from.result c.args.bytes.now)) (sym c.in-Ok.ensures) (decoded_is (take c.from.result c.args.bytes.now))

pub mask_of-mask-requires : goal.mask_of-mask-requires
mask_of-mask-requires c = (stands c).at_most

pub returns-in-Ok : goal.returns-in-Ok
returns-in-Ok c = record {
  answer = search rules;
  finds = Finds-of c.args.bytes.now c.read_form.new.row c.in-Ok.length c.from.result c.from_le_bytes.result c.mask_of-mask.result (are_bytes c.args.bytes.now (search rules)) (search rules) (omega (arith, c.from.ensures, c.requires)) (stands (goal.at.returns-in-Ok c).In-Ok) c.from_le_bytes.ensures c.mask_of-mask.ensures;
}
