use Rattle.std.proofs.Common.{rules, ◌≡◌, take, sym, ap, ◌∙◌, refl, ℕ}
use Rattle.std.specs.Int.Bits.{bit_and}
use Rattle.svm_model.specs.Instructions.Rows.{decoded}
use Rattle.svm_model.specs.declared.rows.Decoded.TheVariants as decoding
use Rattle.row_table.proofs.KeptBytes.{decoded-kept, decoded-kept-few}
use Rattle.row_table.proofs.Spellings.{are_bytes}
use Rattle.row_table.proofs.kept.Place.decode.Goals as goal

pub returns-then-self-count : goal.returns-then-self-count
returns-then-self-count c =
    let found = sym (ap (λ (n : ℕ). bit_and n c.self.inside.kept.mask) c.from_le_bytes-word.ensures) ∙ c.if-word-self.true in
    let form = c.self.invariant.form c.args.bytes.now (are_bytes c.args.bytes.now (search rules)) (search rules) found in (
      (refl, λ _. tt, tt),
      record {
        rests = tt;
        exact = decoded-kept c.args.bytes.now c.self.inside.kept.row c.self.inside.kept.size c.args.count (search rules) c.if-self-count.true c.requires form;
        few = λ e. absurd (cc);
      },
    )

pub returns-in-Err-More : goal.returns-in-Err-More
returns-in-Err-More c =
    let e : decoded (take c.args.count c.args.bytes.now) ≡ decoding.More = search rules in
    ((refl, λ _. tt, tt), record { rests = tt; exact = sym e; few = λ _. decoded-kept-few c.args.bytes.now c.args.count (search rules) c.requires e })
