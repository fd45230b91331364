-- What is spelled is read.
use Rattle.std.proofs.Common.{◌≡◌, ◌==◌, ℕ, ◌<◌, ◌≤◌, inl, inr, ◌⊎◌, List, [], ◌∷◌, ◌++◌, Bool, true, false, ◌&&◌, cond, Option, Some, None, Result, Ok, MatchBool, refl, sym, ap, ◌∙◌, subst, arith}
use Rattle.std.proofs.lemmas.List.{append-nil}
use Rattle.std.proofs.lemmas.Bool.{or_parts, and_parts, and_from, le-leb, lt-ltb}
use Rattle.std.proofs.lemmas.Bool.Decides.{nat_tests}
use Rattle.row_table.proofs.Parts.{IsReader-operand_field}
use Rattle.row_table.proofs.Readers.{Reader, IsReader}
use Rattle.row_table.proofs.Splits.{first_where-is}
use Rattle.row_table.proofs.Unique.{AreApart, one_or_apart, is_opening, closed_at, first_where-only, first_where-found}
use Rattle.svm_model.specs.Instructions.Decoding.{listed, modrm_at, line_at, escape_of, escaped_at, after_first, opened_at, body_at, row_at, form_at}
use Rattle.svm_model.specs.Instructions.RowParts.{opened, width_of, row_of, immediate_at, operand_field_at}
use Rattle.svm_model.specs.Instructions.InstructionBytes.{◌>>=◌, byte_at}
use Rattle.svm_model.specs.Instructions.Prefixes.{no_prefix, with_prefix, prefixes_of, no_rex, is_rex, rex_of, rex_and_rest}
use Rattle.svm_model.specs.Instructions.RowLines.{opens, is_allowed, has_modrm, takes_modrm, leads, starts, matches, first_line, fitting_line}
use Rattle.svm_model.specs.Instructions.RowTable.{table}
use Rattle.svm_model.specs.Instructions.Rows.{IsForm}
use Rattle.svm_model.specs.Instructions.Spelling.{ArePrefixes, IsRex, opcode_bytes, IsModrm, IsLineOf, IsSpelled}
use Rattle.svm_model.specs.declared.row_lines.RowLine.{RowLine}
use Rattle.svm_model.specs.declared.row_lines.OpcodeMap.{OpcodeMap}
use Rattle.svm_model.specs.declared.row_lines.OpcodeMap.TheVariants as map
use Rattle.svm_model.specs.declared.row_lines.OpenedLine.{OpenedLine}
use Rattle.svm_model.specs.declared.row_lines.Prefixes.{Prefixes}
use Rattle.svm_model.specs.declared.row_lines.Rex.{Rex}
use Rattle.svm_model.specs.declared.row_lines.Unread.{Unread}
use Rattle.svm_model.specs.declared.rows.Row.{Row}

-- what reads some bytes reads them before others
reads_on : {X : Type 0} (p : Reader X) → IsReader p → (bs more : List ℕ) (x : X) → p bs ≡ Ok (x, []) → p (bs ++ more) ≡ Ok (x, more)
reads_on p r bs more x e =
    let t = r.takes bs x [] e in
    ap (λ s. p (s ++ more)) (t.split ∙ append-nil t.front) ∙ t.again more

-- no prefix, neither legacy nor REX
record IsPlain (b : ℕ) : Type 0 where
  prefix : (p : Prefixes) → with_prefix p b ≡ None
  rex : is_rex b ≡ false

tests_fail : (s t u v : Bool) (w x y z : Bool) {A : Type 0} (c d e f g : A) → s ≡ false → t ≡ false → u ≡ false → v ≡ false → cond (s && w) c (cond (t && x) d (cond (u && y) e (cond (v && z) f g))) ≡ g
tests_fail s t u v w x y z c d e f g hs ht hu hv = rw (hs, ht, hu, hv) refl

IsPlain-of : (b : ℕ) → is_opening b ≡ false → IsPlain b
IsPlain-of b e =
    let r = or_parts _ _ e in
    let r2 = or_parts _ _ r.1 in
    let r3 = or_parts _ _ r2.1 in
    let r4 = or_parts _ _ r3.1 in
    let r5 = or_parts _ _ r4.1 in
    let r6 = or_parts _ _ r5.1 in
    record { prefix = λ p. tests_fail (b == 0x66) (b == 0xF0) (b == 0x64) (b == 0x65) _ _ _ _ _ _ _ _ None r4.0 r5.0 r6.0 r6.1; rex = r.0 }

stops_at : (p : Prefixes) (b : ℕ) (bs : List ℕ) → with_prefix p b ≡ None → prefixes_of p (b ∷ bs) ≡ (p, b ∷ bs)
unfolding prefixes_of
stops_at p b bs h = ap (λ (o : Option Prefixes). elim o as (λ _. Prefixes × List ℕ) [ Some q ↦ prefixes_of q bs | None ↦ (p, b ∷ bs) ]) h

-- the prefixes end at a byte that is plain
stops_at_plain : (p : Prefixes) (b : ℕ) (bs : List ℕ) → IsPlain b → prefixes_of p (b ∷ bs) ≡ (p, b ∷ bs)
stops_at_plain p b bs h = stops_at p b bs (h.prefix p)

rex-no_prefix : (p : Prefixes) (b : ℕ) → 0x40 ≤ b → b < 0x50 → with_prefix p b ≡ None
rex-no_prefix p b h k = tests_fail (b == 0x66) (b == 0xF0) (b == 0x64) (b == 0x65) _ _ _ _ _ _ _ _ None (ne b 0x66 (omega arith)) (ne b 0xF0 (omega arith)) (ne b 0x64 (omega arith)) (ne b 0x65 (omega arith)) where
  ne : (a c : ℕ) → (a ≡ c → ⊥) → (a == c) ≡ false
  ne a c h = grind (arith, nat_tests)

-- the REX prefix, before a plain byte
rex_read : (rs : List ℕ) (r : Rex) (b : ℕ) (bs : List ℕ) → IsRex rs r → IsPlain b → rex_and_rest (rs ++ b ∷ bs) ≡ (r, b ∷ bs)
unfolding rex_and_rest
rex_read [] r b bs i h = ap (λ (t : Bool). cond t (rex_of b, bs) (no_rex, b ∷ bs)) h.rex ∙ ap (λ (r : Rex). (r, b ∷ bs)) (sym i)
rex_read (c ∷ []) r b bs i h = ap (λ (t : Bool). cond t (rex_of c, b ∷ bs) (no_rex, c ∷ b ∷ bs)) (and_from _ _ (le-leb 0x40 c i.0) (lt-ltb c 0x50 i.1)) ∙ ap (λ (r : Rex). (r, b ∷ bs)) (sym i.2)
rex_read (c ∷ d ∷ rs) r b bs i h = absurd i

rex_stops : (rs : List ℕ) (r : Rex) (p : Prefixes) (b : ℕ) (bs : List ℕ) → IsRex rs r → IsPlain b → prefixes_of p (rs ++ b ∷ bs) ≡ (p, rs ++ b ∷ bs)
rex_stops [] r p b bs i h = stops_at_plain p b bs h
rex_stops (c ∷ []) r p b bs i h = stops_at p c (b ∷ bs) (rex-no_prefix p c i.0 i.1)
rex_stops (c ∷ d ∷ rs) r p b bs i h = absurd i

prefixes_read : (ps : List ℕ) (p q : Prefixes) (rest : List ℕ) → ArePrefixes p ps q → prefixes_of q rest ≡ (q, rest) → prefixes_of p (ps ++ rest) ≡ (q, rest)
unfolding prefixes_of
prefixes_read [] p q rest a h = ap (λ (p : Prefixes). prefixes_of p rest) a ∙ h
prefixes_read (b ∷ bs) p q rest a h =
    ap (λ (o : Option Prefixes). elim o as (λ _. Prefixes × List ℕ) [ Some s ↦ prefixes_of s (bs ++ rest) | None ↦ (p, b ∷ (bs ++ rest)) ]) a.1
    ∙ prefixes_read bs a.0 q rest a.2 h

-- the line is found by its opcode and ModRM
module _ (p : Prefixes) (r : Rex) (m : OpcodeMap) (b : ℕ) (line : RowLine) (byte : b < 256) (is_listed : IsLineOf line table) (is_opcode : opens line m b ≡ true) (allowed : is_allowed line p r ≡ true) where
  one_line : (x : RowLine) → IsLineOf x table → starts p r m b x ≡ true → (x ≡ line) ⊎ AreApart x line r
  one_line x i e = let t = and_parts _ _ e in one_or_apart m b x line r byte i is_listed t.0 is_opcode (and_parts _ _ t.1).1 (and_parts _ _ allowed).1

  fitting_read : (f : ℕ) → takes_modrm line.fields r f ≡ true → fitting_line p r m b f table ≡ Some line
  fitting_read f h = first_where-only (matches p r m b f) table line is_listed (and_from _ _ (and_from _ _ is_opcode allowed) h) only where
    only : (x : RowLine) → IsLineOf x table → matches p r m b f x ≡ true → x ≡ line
    only x i e = go (one_line x i (and_parts _ _ e).0) where
      go : (x ≡ line) ⊎ AreApart x line r → x ≡ line
      go (inl same) = same
      go (inr a) = absurd (a.none f (and_parts _ _ e).1 h)

  -- the first line with the opcode has ModRM where this line has, and else is this line
  first_read : (x : RowLine) × (first_line p r m b table ≡ Some x) × ((x ≡ line) ⊎ AreApart x line r)
  first_read =
      let x = first_where-found (starts p r m b) table line is_listed (and_from _ _ is_opcode allowed) in
      let i = first_where-is (starts p r m b) table x.0 x.1 in
      (x.0, x.1, one_line x.0 i.0 i.1)

  line_read : (fs : List ℕ) (f : ℕ) (more : List ℕ) → IsModrm line.fields r fs f → line_at p r m b (fs ++ more) ≡ Ok (opened line b f, more)
  unfolding line_at modrm_at byte_at
  line_read fs f more h =
      let x = first_read in
      ap (λ o. listed o b >>= (λ l. modrm_at p r m b l (fs ++ more))) x.1 ∙ go x.0 x.2 (has_modrm line.fields) refl h where
        with_fields : (x : RowLine) → has_modrm x.fields ≡ true → fs ≡ f ∷ [] → takes_modrm line.fields r f ≡ true → modrm_at p r m b x (fs ++ more) ≡ Ok (opened line b f, more)
        with_fields x h e k =
            ap (λ t. cond t (byte_at (fs ++ more) >>= (λ g. listed (fitting_line p r m b g.0 table) g.0 >>= (λ l. Ok (opened l b g.0, g.1)))) (Ok (opened x b 0, fs ++ more))) h
            ∙ ap (λ fs. byte_at (fs ++ more) >>= (λ g. listed (fitting_line p r m b g.0 table) g.0 >>= (λ l. Ok (opened l b g.0, g.1)))) e
            ∙ ap (λ o. listed o f >>= (λ l. Ok (opened l b f, more))) (fitting_read f k)

        go : (x : RowLine) → (x ≡ line) ⊎ AreApart x line r → (t : Bool) → has_modrm line.fields ≡ t → MatchBool t ((fs ≡ f ∷ []) × (takes_modrm line.fields r f ≡ true)) ((fs ≡ []) × (f ≡ 0)) → modrm_at p r m b x (fs ++ more) ≡ Ok (opened line b f, more)
        go x (inl same) true e k = with_fields x (ap (λ l. has_modrm l.fields) same ∙ e) k.0 k.1
        go x (inr h) true e k = with_fields x h.both.0 k.0 k.1
        go x (inl same) false e k =
            ap (λ t. cond t (byte_at (fs ++ more) >>= (λ g. listed (fitting_line p r m b g.0 table) g.0 >>= (λ l. Ok (opened l b g.0, g.1)))) (Ok (opened x b 0, fs ++ more))) (ap (λ l. has_modrm l.fields) same ∙ e)
            ∙ ap (λ x. Ok (opened x b 0, fs ++ more)) same ∙ ap (λ fs. Ok (opened line b 0, fs ++ more)) k.0 ∙ ap (λ f. Ok (opened line b f, more)) (sym k.1)
        go x (inr h) false e k = absurd (let q : true ≡ false = sym h.both.1 ∙ e in cc)

  -- a line of its map leads there
  escaped_read : (c : ℕ) (fs : List ℕ) (f : ℕ) (more : List ℕ) → IsModrm line.fields r fs f → escaped_at p r m c (b ∷ (fs ++ more)) ≡ Ok (opened line b f, more)
  unfolding escaped_at byte_at
  escaped_read c fs f more h =
      let x = first_where-found (leads p r m) table line is_listed (and_from _ _ (and_parts _ _ is_opcode).0 allowed) in
      ap (λ o. listed o c >>= (λ l. line_at p r m b (fs ++ more))) x.1 ∙ line_read fs f more h

no_escape : (b : ℕ) → is_opening b ≡ false → escape_of b ≡ None
no_escape b e =
    let t = or_parts _ _ (or_parts _ _ e).1 in
    let u = or_parts _ _ t.1 in
    ap (λ (s : Bool). cond s (Some map.Secondary) (cond (b == 0xF3) (Some map.Repeat) None)) t.0 ∙ ap (λ (s : Bool). cond s (Some map.Repeat) None) u.0

opened_read : (p : Prefixes) (r : Rex) (m : OpcodeMap) (b : ℕ) (line : RowLine) → b < 256 → IsLineOf line table → opens line m b ≡ true → is_allowed line p r ≡ true → (fs : List ℕ) (f : ℕ) (more : List ℕ) → IsModrm line.fields r fs f → opened_at p r (opcode_bytes m b ++ (fs ++ more)) ≡ Ok (opened line b f, more)
unfolding opened_at after_first byte_at
opened_read p r map.Secondary b line h i o a fs f more k = escaped_read p r map.Secondary b line h i o a 0x0F fs f more k
opened_read p r map.Repeat b line h i o a fs f more k = escaped_read p r map.Repeat b line h i o a 0xF3 fs f more k
opened_read p r map.Primary b line h i o a fs f more k =
    ap (λ (o : Option OpcodeMap). elim o as (λ _. Result (OpenedLine × List ℕ) Unread) [ Some m ↦ escaped_at p r m b (fs ++ more) | None ↦ line_at p r map.Primary b (fs ++ more) ]) (no_escape b (closed_at b line h i o))
    ∙ line_read p r map.Primary b line h i o a fs f more k

-- the bytes of an opcode begin with a plain byte
opcode_plain : (m : OpcodeMap) (b : ℕ) (line : RowLine) → b < 256 → IsLineOf line table → opens line m b ≡ true → (c : ℕ) × (cs : List ℕ) × (opcode_bytes m b ≡ c ∷ cs) × IsPlain c
opcode_plain map.Primary b line h i o = (b, [], refl, IsPlain-of b (closed_at b line h i o))
opcode_plain map.Secondary b line h i o = (0x0F, b ∷ [], refl, record { prefix = λ p. refl; rex = refl })
opcode_plain map.Repeat b line h i o = (0xF3, b ∷ [], refl, record { prefix = λ p. refl; rex = refl })

pub IsForm-from_spelled : (bytes : List ℕ) (row : Row) → IsSpelled bytes row → IsForm bytes row
unfolding body_at
IsForm-from_spelled bytes row s =
    let p = s.prefixes in
    let r = s.rex in
    let m = s.line.map in
    let o = opened s.line s.opcode s.modrm in
    let tail = s.modrm_bytes ++ (s.operand_bytes ++ s.immediate_bytes) in
    let all = opcode_bytes m s.opcode ++ tail in
    let plain = opcode_plain m s.opcode s.line s.is_byte s.is_listed s.is_opcode in
    let begins : all ≡ plain.0 ∷ (plain.1 ++ tail) = ap (λ bs. bs ++ tail) plain.2 in
    let prefix : prefixes_of no_prefix (s.prefix_bytes ++ (s.rex_bytes ++ all)) ≡ (p, s.rex_bytes ++ all) =
    prefixes_read s.prefix_bytes no_prefix p (s.rex_bytes ++ all) s.are_prefixes
    (subst (λ (bs : List ℕ). prefixes_of p (s.rex_bytes ++ bs) ≡ (p, s.rex_bytes ++ bs)) (sym begins) (rex_stops s.rex_bytes r p plain.0 (plain.1 ++ tail) s.is_rex plain.3)) in
    let rex : rex_and_rest (s.rex_bytes ++ all) ≡ (r, all) =
    subst (λ (bs : List ℕ). rex_and_rest (s.rex_bytes ++ bs) ≡ (r, bs)) (sym begins) (rex_read s.rex_bytes r plain.0 (plain.1 ++ tail) s.is_rex plain.3) in
    let open_ : opened_at p r all ≡ Ok (o, s.operand_bytes ++ s.immediate_bytes) =
    opened_read p r m s.opcode s.line s.is_byte s.is_listed s.is_opcode s.is_allowed s.modrm_bytes s.modrm (s.operand_bytes ++ s.immediate_bytes) s.is_modrm in
    let operand : operand_field_at p.segment r o (s.operand_bytes ++ s.immediate_bytes) ≡ Ok (s.operand, s.immediate_bytes) =
    reads_on (operand_field_at p.segment r o) (IsReader-operand_field p.segment r o) s.operand_bytes s.immediate_bytes s.operand s.is_operand in
    ap form_at s.spelled
    ∙ ap (λ (f : Prefixes × List ℕ). row_at f.0 f.1) prefix
    ∙ ap (λ (f : Rex × List ℕ). body_at p f.0 f.1) rex
    ∙ ap (λ a. a >>= (λ o. operand_field_at p.segment r o.0 o.1 >>= (λ x. immediate_at o.0.line.immediate (width_of o.0.line.size p r) x.1 >>= (λ i. Ok (row_of p r o.0 x.0 i.0, i.1))))) open_
    ∙ ap (λ a. a >>= (λ x. immediate_at s.line.immediate (width_of s.line.size p r) x.1 >>= (λ i. Ok (row_of p r o x.0 i.0, i.1)))) operand
    ∙ ap (λ a. a >>= (λ i. Ok (row_of p r o s.operand i.0, i.1))) s.is_immediate
    ∙ ap (λ (row : Row). Ok (row, [])) (sym s.is_row)
