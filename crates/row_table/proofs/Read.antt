-- What is read is spelled.
use Rattle.std.proofs.Common.{◌≡◌, ℕ, ◌<◌, List, [], ◌∷◌, ◌++◌, Ok, sym, ap, ◌∙◌, subst, append_assoc}
use Rattle.std.proofs.lemmas.List.{append-nil}
use Rattle.row_table.proofs.Parts.{IsReader-operand_field}
use Rattle.row_table.proofs.Splits.{bind_ok, same_ok, prefix_split, rex_split, opened_split}
use Rattle.svm_model.specs.Instructions.Decoding.{opened_at, body_at}
use Rattle.svm_model.specs.Instructions.RowParts.{width_of, row_of, immediate_at, operand_field_at}
use Rattle.svm_model.specs.Instructions.InstructionBytes.{◌>>=◌, AreBytes}
use Rattle.svm_model.specs.Instructions.Prefixes.{no_prefix, prefixes_of, rex_and_rest}
use Rattle.svm_model.specs.Instructions.Rows.{IsForm}
use Rattle.svm_model.specs.Instructions.Spelling.{opcode_bytes, IsSpelled}
use Rattle.svm_model.specs.declared.row_lines.OpcodeMap.{OpcodeMap}
use Rattle.svm_model.specs.declared.row_lines.OpcodeMap.TheVariants as map
use Rattle.svm_model.specs.declared.rows.Row.{Row}

byte_within : (xs : List ℕ) (b : ℕ) (ys : List ℕ) → AreBytes (xs ++ b ∷ ys) → b < 256
byte_within [] b ys h = h.0
byte_within (x ∷ xs) b ys h = byte_within xs b ys h.1

opcode_within : (m : OpcodeMap) (b : ℕ) (rest front rs : List ℕ) → AreBytes (front ++ (rs ++ (opcode_bytes m b ++ rest))) → b < 256
opcode_within map.Primary b rest front rs h = byte_within (front ++ rs) b rest (subst AreBytes (sym (append_assoc front rs (b ∷ rest))) h)
opcode_within map.Secondary b rest front rs h = byte_within (front ++ (rs ++ 0x0F ∷ [])) b rest (subst AreBytes (ap (λ (y : List ℕ). front ++ y) (sym (append_assoc rs (0x0F ∷ []) (b ∷ rest))) ∙ sym (append_assoc front (rs ++ 0x0F ∷ []) (b ∷ rest))) h)
opcode_within map.Repeat b rest front rs h = byte_within (front ++ (rs ++ 0xF3 ∷ [])) b rest (subst AreBytes (ap (λ (y : List ℕ). front ++ y) (sym (append_assoc rs (0xF3 ∷ []) (b ∷ rest))) ∙ sym (append_assoc front (rs ++ 0xF3 ∷ []) (b ∷ rest))) h)

pub IsSpelled-from_form : (bytes : List ℕ) (row : Row) → AreBytes bytes → IsForm bytes row → IsSpelled bytes row
unfolding body_at
IsSpelled-from_form bytes row bound e =
    let f = prefix_split no_prefix bytes in
    let p = (prefixes_of no_prefix bytes).0 in
    let after = (prefixes_of no_prefix bytes).1 in
    let s = rex_split after in
    let r = (rex_and_rest after).0 in
    let body = (rex_and_rest after).1 in
    let a = bind_ok (opened_at p r body) (λ o. operand_field_at p.segment r o.0 o.1 >>= (λ x. immediate_at o.0.line.immediate (width_of o.0.line.size p r) x.1 >>= (λ i. Ok (row_of p r o.0 x.0 i.0, i.1)))) (row, []) e in
    let o = a.0.0 in
    let x = bind_ok (operand_field_at p.segment r o a.0.1) (λ x. immediate_at o.line.immediate (width_of o.line.size p r) x.1 >>= (λ i. Ok (row_of p r o x.0 i.0, i.1))) (row, []) a.2 in
    let i = bind_ok (immediate_at o.line.immediate (width_of o.line.size p r) x.0.1) (λ i. Ok (row_of p r o x.0.0 i.0, i.1)) (row, []) x.2 in
    let last : (row_of p r o x.0.0 i.0.0, i.0.1) ≡ (row, []) = same_ok (row_of p r o x.0.0 i.0.0, i.0.1) (row, []) i.2 in
    let nothing : i.0.1 ≡ [] = ap (λ (y : Row × List ℕ). y.1) last in
    let t = (IsReader-operand_field p.segment r o).takes a.0.1 x.0.0 x.0.1 x.1 in
    let w = opened_split p r body a.0 a.1 in
    let spelled : bytes ≡ f.front ++ (s.0 ++ (opcode_bytes o.line.map o.opcode ++ (w.modrm_bytes ++ (t.front ++ x.0.1)))) =
    f.split ∙ ap (λ (y : List ℕ). f.front ++ y) (s.2 ∙ ap (λ (y : List ℕ). s.0 ++ y) (w.split ∙ ap (λ (y : List ℕ). opcode_bytes o.line.map o.opcode ++ (w.modrm_bytes ++ y)) t.split)) in
    record {
      prefix_bytes = f.front;
      prefixes = p;
      rex_bytes = s.0;
      rex = r;
      line = o.line;
      opcode = o.opcode;
      modrm_bytes = w.modrm_bytes;
      modrm = o.modrm;
      operand_bytes = t.front;
      operand = x.0.0;
      immediate_bytes = x.0.1;
      immediate = i.0.0;
      are_prefixes = f.are;
      is_rex = s.1;
      is_listed = w.is_listed;
      is_byte = opcode_within o.line.map o.opcode (w.modrm_bytes ++ (t.front ++ x.0.1)) f.front s.0 (subst AreBytes spelled bound);
      is_opcode = w.is_opcode;
      is_allowed = w.is_allowed;
      is_modrm = w.is_modrm;
      is_operand = ap (operand_field_at p.segment r o) (sym (append-nil t.front)) ∙ t.again [];
      is_immediate = i.1 ∙ ap (λ (rest : List ℕ). Ok (i.0.0, rest)) nothing;
      spelled = spelled;
      is_row = sym (ap (λ (y : Row × List ℕ). y.0) last);
    }
