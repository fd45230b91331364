-- No form is longer than 15 bytes.
use Rattle.std.proofs.Common.{◌≡◌, ◌==◌, ℕ, ◌+◌, ◌*◌, ◌%◌, ◌≤◌, inl, inr, List, [], ◌∷◌, ◌++◌, length, Bool, true, false, cond, None, Ok, MatchBool, refl, sym, ap, ◌∙◌, arith, lit≤, length-append}
use Rattle.std.specs.Prelude.{nat_le}
use Rattle.std.specs.List.{list_all}
use Rattle.std.proofs.lemmas.Bool.{and_parts, leb-true}
use Rattle.row_table.proofs.Bind.{then}
use Rattle.row_table.proofs.Parts.{mapped}
use Rattle.row_table.proofs.Readers.{Reader}
use Rattle.row_table.proofs.Single.{pure}
use Rattle.row_table.proofs.Splits.{bind_ok, same_ok, prefix_split, rex_split, opened_split}
use Rattle.row_table.proofs.Whole.{room, room-falls}
use Rattle.svm_model.specs.Instructions.Decoding.{opened_at, body_at, form_at}
use Rattle.svm_model.specs.Instructions.Operands.{cut}
use Rattle.svm_model.specs.Instructions.RowParts.{full_at, whole_at, immediate_at, is_of_byte, operand_by, operand_field_at, width_of, row_of}
use Rattle.svm_model.specs.Instructions.InstructionBytes.{◌>>=◌, byte_at, word_at, double_at, quad_at}
use Rattle.svm_model.specs.Instructions.ModRm.{extended_8, extended_32, displacement_at, displacement_size, base_of, index_of, scale_of, is_baseless, mode_of, rm_of, register_operand, sib_at, operand_at}
use Rattle.svm_model.specs.Instructions.Prefixes.{no_prefix, prefixes_of, rex_and_rest}
use Rattle.svm_model.specs.Instructions.RowLines.{has_modrm, takes_modrm}
use Rattle.svm_model.specs.Instructions.RowTable.{table}
use Rattle.svm_model.specs.Instructions.Spelling.{ArePrefixes, IsRex, opcode_bytes, IsModrm, IsLineOf}
use Rattle.svm_model.specs.declared.row_lines.Displacement.{Displacement}
use Rattle.svm_model.specs.declared.row_lines.Displacement.TheVariants as sizes
use Rattle.svm_model.specs.declared.row_lines.OperandFields.{OperandFields}
use Rattle.svm_model.specs.declared.row_lines.OperandFields.TheVariants as fields
use Rattle.svm_model.specs.declared.row_lines.Immediate.{Immediate}
use Rattle.svm_model.specs.declared.row_lines.Immediate.TheVariants as immediate
use Rattle.svm_model.specs.declared.row_lines.RowLine.{RowLine}
use Rattle.svm_model.specs.declared.row_lines.OpcodeMap.{OpcodeMap}
use Rattle.svm_model.specs.declared.row_lines.OpcodeMap.TheVariants as map
use Rattle.svm_model.specs.declared.row_lines.OpenedLine.{OpenedLine}
use Rattle.svm_model.specs.declared.row_lines.Prefixes.{Prefixes}
use Rattle.svm_model.specs.declared.row_lines.Rex.{Rex}
use Rattle.svm_model.specs.declared.rows.Operand.TheVariants as operand
use Rattle.svm_model.specs.declared.rows.Row.{Row}
use Rattle.svm_model.specs.declared.rows.Width.{Width}
use Rattle.svm_model.specs.declared.rows.Width.TheVariants as width

-- a reader takes at most k bytes
abbrev IsShort : {X : Type 0} → ℕ → Reader X → Type 0
IsShort {X} k p = (bs : List ℕ) (x : X) (rest : List ℕ) → p bs ≡ Ok (x, rest) → length bs ≤ k + length rest

IsShort-le : {X : Type 0} (j k : ℕ) (p : Reader X) → j ≤ k → IsShort j p → IsShort k p
IsShort-le j k p h s = λ bs x rest e. omega (arith, s bs x rest e, h)

IsShort-then : {X Y : Type 0} (j k : ℕ) (p : Reader X) (q : X → Reader Y) → IsShort j p → ((x : X) → IsShort k (q x)) → IsShort (j + k) (then p q)
IsShort-then j k p q first second = λ bs y rest e.
    let x = bind_ok (p bs) (λ x. q x.0 x.1) (y, rest) e in
    omega (arith, first bs x.0.0 x.0.1 x.1, second x.0.0 x.0.1 y rest x.2)

IsShort-pure : {X : Type 0} (x : X) → IsShort 0 (pure x)
IsShort-pure {X} x = λ bs y rest e. ends bs rest (ap (λ (z : X × List ℕ). z.1) (same_ok (x, bs) (y, rest) e)) where
  ends : (bs rest : List ℕ) → bs ≡ rest → length bs ≤ 0 + length rest
  ends bs rest e = let h = ap length e in omega (arith, h)

IsShort-mapped : {X Y : Type 0} (k : ℕ) (f : X → Y) (p : Reader X) → IsShort k p → IsShort k (mapped f p)
IsShort-mapped k f p s = λ bs y rest e. let h = IsShort-then k 0 p (λ x. pure (f x)) s (λ x. IsShort-pure (f x)) bs y rest e in omega (arith, h)

IsShort-cond : {X : Type 0} (k : ℕ) (b : Bool) (p q : Reader X) → IsShort k p → IsShort k q → IsShort k (λ bs. cond b (p bs) (q bs))
IsShort-cond k true p q f g = f
IsShort-cond k false p q f g = g

IsShort-byte : IsShort 1 byte_at
unfolding byte_at
IsShort-byte [] x rest e = absurd (cc)
IsShort-byte (b ∷ bs) x rest e = let h = ap (λ (z : ℕ × List ℕ). length z.1) (same_ok (b, bs) (x, rest) e) in omega (arith, h)

IsShort-word : IsShort 2 word_at
unfolding word_at
IsShort-word = IsShort-then 1 1 byte_at _ IsShort-byte (λ low. IsShort-mapped 1 (λ high. low + 0x100 * high) byte_at IsShort-byte)

IsShort-double : IsShort 4 double_at
unfolding double_at
IsShort-double = IsShort-then 2 2 word_at _ IsShort-word (λ low. IsShort-mapped 2 (λ high. low + 0x1_0000 * high) word_at IsShort-word)

IsShort-quad : IsShort 8 quad_at
unfolding quad_at
IsShort-quad = IsShort-then 4 4 double_at _ IsShort-double (λ low. IsShort-mapped 4 (λ high. low + 0x1_0000_0000 * high) double_at IsShort-double)

IsShort-displacement : (s : Displacement) → IsShort 4 (displacement_at s)
unfolding displacement_at
IsShort-displacement sizes.Absent = IsShort-le 0 4 (pure 0) (lit≤ tt) (IsShort-pure 0)
IsShort-displacement sizes.Small = IsShort-le 1 4 (mapped extended_8 byte_at) (lit≤ tt) (IsShort-mapped 1 extended_8 byte_at IsShort-byte)
IsShort-displacement sizes.Large = IsShort-mapped 4 extended_32 double_at IsShort-double

IsShort-sib : (segment : ℕ) (rex : Rex) (mode : ℕ) → IsShort 5 (sib_at segment rex mode)
unfolding sib_at
IsShort-sib segment rex mode =
    IsShort-then 1 4 byte_at _ IsShort-byte (λ sib.
    IsShort-mapped 4 (λ d. operand.Memory (base_of rex mode (sib % 8)) (index_of rex sib) (scale_of (index_of rex sib) sib) d false segment) (displacement_at (displacement_size mode (sib % 8))) (IsShort-displacement (displacement_size mode (sib % 8))))

IsShort-operand : (segment : ℕ) (rex : Rex) (small : Bool) (modrm : ℕ) → IsShort 5 (operand_at segment rex small modrm)
unfolding operand_at
IsShort-operand segment rex small modrm =
    let mode = mode_of modrm in
    let number = rm_of modrm in
    let register = register_operand rex small number in
    let memory = λ (d : ℕ). operand.Memory (base_of rex mode number) None 1 d (is_baseless mode number) segment in
    let size = displacement_size mode number in
    IsShort-cond 5 (mode == 3) (pure register) _ (IsShort-le 0 5 (pure register) (lit≤ tt) (IsShort-pure register))
    (IsShort-cond 5 (number == 4) (sib_at segment rex mode) _ (IsShort-sib segment rex mode)
    (IsShort-le 4 5 (mapped memory (displacement_at size)) (lit≤ tt) (IsShort-mapped 4 memory (displacement_at size) (IsShort-displacement size))))

-- how many bytes ModRM and an operand have at most
abbrev longest_operand : OperandFields → ℕ
longest_operand fields.Absent = 0
longest_operand fields.Accumulator = 0
longest_operand fields.Opcode = 0
longest_operand _ = 5

IsShort-operand_by : (f : OperandFields) (segment : ℕ) (rex : Rex) (o : OpenedLine) → IsShort (longest_operand f) (operand_by f segment rex o)
IsShort-operand_by fields.Absent segment rex o = IsShort-pure operand.None
IsShort-operand_by fields.Accumulator segment rex o = IsShort-pure (operand.Register 0 false)
IsShort-operand_by fields.Opcode segment rex o = IsShort-pure (register_operand rex (is_of_byte o.line.size) (o.opcode % 8))
IsShort-operand_by fields.Control segment rex o = IsShort-le 0 5 (pure (register_operand rex false (rm_of o.modrm))) (lit≤ tt) (IsShort-pure (register_operand rex false (rm_of o.modrm)))
IsShort-operand_by fields.Debug segment rex o = IsShort-le 0 5 (pure (register_operand rex false (rm_of o.modrm))) (lit≤ tt) (IsShort-pure (register_operand rex false (rm_of o.modrm)))
IsShort-operand_by (fields.Exact byte) segment rex o = IsShort-le 0 5 (pure operand.None) (lit≤ tt) (IsShort-pure operand.None)
IsShort-operand_by fields.Any segment rex o = IsShort-operand segment rex (is_of_byte o.line.size) o.modrm
IsShort-operand_by fields.AnyDigit segment rex o = IsShort-operand segment rex (is_of_byte o.line.size) o.modrm
IsShort-operand_by fields.ShiftDigit segment rex o = IsShort-operand segment rex (is_of_byte o.line.size) o.modrm
IsShort-operand_by fields.Direct segment rex o = IsShort-operand segment rex (is_of_byte o.line.size) o.modrm
IsShort-operand_by fields.Memory segment rex o = IsShort-operand segment rex (is_of_byte o.line.size) o.modrm
IsShort-operand_by (fields.Digit d) segment rex o = IsShort-operand segment rex (is_of_byte o.line.size) o.modrm
IsShort-operand_by (fields.DigitMemory d) segment rex o = IsShort-operand segment rex (is_of_byte o.line.size) o.modrm

IsShort-operand_field : (segment : ℕ) (rex : Rex) (o : OpenedLine) → IsShort (longest_operand o.line.fields) (operand_field_at segment rex o)
unfolding operand_field_at
IsShort-operand_field segment rex o = IsShort-operand_by o.line.fields segment rex o

abbrev longest_immediate : Immediate → ℕ
longest_immediate immediate.Nothing = 0
longest_immediate immediate.One = 0
longest_immediate immediate.Byte = 1
longest_immediate immediate.Word = 2
longest_immediate immediate.Signed = 1
longest_immediate immediate.Full = 4
longest_immediate immediate.Whole = 8

IsShort-full : (w : Width) → IsShort 4 (full_at w)
IsShort-full width.W8 = IsShort-le 1 4 byte_at (lit≤ tt) IsShort-byte
IsShort-full width.W16 = IsShort-le 2 4 word_at (lit≤ tt) IsShort-word
IsShort-full width.W32 = IsShort-double
IsShort-full width.W64 = IsShort-mapped 4 extended_32 double_at IsShort-double

IsShort-whole : (w : Width) → IsShort 8 (whole_at w)
IsShort-whole width.W8 = IsShort-le 1 8 byte_at (lit≤ tt) IsShort-byte
IsShort-whole width.W16 = IsShort-le 2 8 word_at (lit≤ tt) IsShort-word
IsShort-whole width.W32 = IsShort-le 4 8 double_at (lit≤ tt) IsShort-double
IsShort-whole width.W64 = IsShort-quad

IsShort-immediate : (i : Immediate) (w : Width) → IsShort (longest_immediate i) (immediate_at i w)
unfolding immediate_at
IsShort-immediate immediate.Nothing w = IsShort-pure 0
IsShort-immediate immediate.One w = IsShort-pure 1
IsShort-immediate immediate.Byte w = IsShort-byte
IsShort-immediate immediate.Word w = IsShort-word
IsShort-immediate immediate.Signed w = IsShort-mapped 1 (λ n. cut w (extended_8 n)) byte_at IsShort-byte
IsShort-immediate immediate.Full w = IsShort-full w
IsShort-immediate immediate.Whole w = IsShort-whole w

-- the bytes of the opcode, of ModRM with the longest operand, and of the longest immediate
abbrev longest_opcode : OpcodeMap → ℕ
longest_opcode map.Primary = 1
longest_opcode _ = 2

abbrev modrm_length : OperandFields → ℕ
modrm_length f = cond (has_modrm f) 1 0

abbrev is_short : RowLine → Bool
is_short l = nat_le (longest_opcode l.map + modrm_length l.fields + longest_operand l.fields + longest_immediate l.immediate) 11

-- each line of the table has forms of 11 bytes at most after the prefixes: this computes
short : list_all is_short table ≡ true
unfolding table
short = refl

pub listed_all : (law : RowLine → Bool) (ls : List RowLine) (l : RowLine) → list_all law ls ≡ true → IsLineOf l ls → law l ≡ true
listed_all law [] l a i = absurd i
listed_all law (x ∷ xs) l a (inl same) = ap law (sym same) ∙ (and_parts (law x) _ a).0
listed_all law (x ∷ xs) l a (inr later) = listed_all law xs l (and_parts (law x) _ a).1 later

length-opcode : (m : OpcodeMap) (b : ℕ) → length (opcode_bytes m b) ≡ longest_opcode m
length-opcode map.Primary b = refl
length-opcode map.Secondary b = refl
length-opcode map.Repeat b = refl

length-modrm : (f : OperandFields) (r : Rex) (bytes : List ℕ) (modrm : ℕ) → IsModrm f r bytes modrm → length bytes ≡ modrm_length f
length-modrm f r bytes modrm i = go (has_modrm f) i where
  go : (t : Bool) → MatchBool t ((bytes ≡ modrm ∷ []) × (takes_modrm f r modrm ≡ true)) ((bytes ≡ []) × (modrm ≡ 0)) → length bytes ≡ cond t 1 0
  go true i = ap length i.0
  go false i = ap length i.0

length-prefixes : (p : Prefixes) (bytes : List ℕ) (q : Prefixes) → ArePrefixes p bytes q → length bytes ≤ room p
length-prefixes p [] q a = omega arith
length-prefixes p (b ∷ bytes) q a = omega (arith, room-falls p a.0 b a.1, length-prefixes a.0 bytes q a.2)

length-rex : (bytes : List ℕ) (r : Rex) → IsRex bytes r → length bytes ≤ 1
length-rex [] r i = omega arith
length-rex (b ∷ []) r i = lit≤ tt
length-rex (b ∷ c ∷ bytes) r i = absurd i

-- what stands after the prefixes
body_length : (p : Prefixes) (r : Rex) (bs : List ℕ) (row : Row) (rest : List ℕ) → body_at p r bs ≡ Ok (row, rest) → length bs ≤ 11 + length rest
unfolding body_at
body_length p r bs row rest e =
    let a = bind_ok (opened_at p r bs) (λ o. operand_field_at p.segment r o.0 o.1 >>= (λ x. immediate_at o.0.line.immediate (width_of o.0.line.size p r) x.1 >>= (λ i. Ok (row_of p r o.0 x.0 i.0, i.1)))) (row, rest) e in
    let o = a.0.0 in
    let x = bind_ok (operand_field_at p.segment r o a.0.1) (λ x. immediate_at o.line.immediate (width_of o.line.size p r) x.1 >>= (λ i. Ok (row_of p r o x.0 i.0, i.1))) (row, rest) a.2 in
    let i = bind_ok (immediate_at o.line.immediate (width_of o.line.size p r) x.0.1) (λ i. Ok (row_of p r o x.0.0 i.0, i.1)) (row, rest) x.2 in
    let s = opened_split p r bs a.0 a.1 in
    sum bs (opcode_bytes o.line.map o.opcode) s.modrm_bytes a.0.1 x.0.1 i.0.1 rest (longest_opcode o.line.map) (modrm_length o.line.fields) (longest_operand o.line.fields) (longest_immediate o.line.immediate)
    s.split (length-opcode o.line.map o.opcode) (length-modrm o.line.fields r s.modrm_bytes o.modrm s.is_modrm)
    (IsShort-operand_field p.segment r o a.0.1 x.0.0 x.0.1 x.1) (IsShort-immediate o.line.immediate (width_of o.line.size p r) x.0.1 i.0.0 i.0.1 i.1)
    (ap (λ (y : Row × List ℕ). length y.1) (same_ok (row_of p r o x.0.0 i.0.0, i.0.1) (row, rest) i.2))
    (leb-true _ 11 (listed_all is_short table o.line short s.is_listed)) where
      sum : (bs opcode modrm operand immediate after rest : List ℕ) (c m n k : ℕ) → bs ≡ opcode ++ (modrm ++ operand) → length opcode ≡ c → length modrm ≡ m → length operand ≤ n + length immediate → length immediate ≤ k + length after → length after ≡ length rest → c + m + n + k ≤ 11 → length bs ≤ 11 + length rest
      sum bs opcode modrm operand immediate after rest c m n k e f g h i j l =
          let t = ap length e in
          omega (arith, t, length-append opcode (modrm ++ operand), length-append modrm operand, f, g, h, i, j, l)

pub form_length : (bs : List ℕ) (row : Row) (rest : List ℕ) → form_at bs ≡ Ok (row, rest) → length bs ≤ 15 + length rest
unfolding room
form_length bs row rest e =
    let f = prefix_split no_prefix bs in
    let p = (prefixes_of no_prefix bs).0 in
    let after = (prefixes_of no_prefix bs).1 in
    let s = rex_split after in
    let r = (rex_and_rest after).0 in
    let body = (rex_and_rest after).1 in
    sum f.front s.0 after body rest f.split s.2 (length-prefixes no_prefix f.front p f.are) (length-rex s.0 r s.1) (body_length p r body row rest e) where
      sum : (front rex after body rest : List ℕ) → bs ≡ front ++ after → after ≡ rex ++ body → length front ≤ 3 → length rex ≤ 1 → length body ≤ 11 + length rest → length bs ≤ 15 + length rest
      sum front rex after body rest e f g h i =
          let t = ap length e in
          let u = ap length f in
          omega (arith, t, u, length-append front after, length-append rex body, g, h, i)
