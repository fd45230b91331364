-- The opcode and the ModRM byte are a reader: after each byte that goes on, some bytes make a form.
use Rattle.std.proofs.Common.{◌≡◌, ◌==◌, ℕ, ◌+◌, ◌-◌, ◌*◌, ◌/◌, ◌%◌, ◌<◌, ◌⊎◌, inl, inr, List, [], ◌∷◌, Bool, true, false, ◌&&◌, cond, Option, Some, None, Result, Ok, refl, sym, ap, ◌∙◌, subst, arith, lit<}
use Rattle.std.specs.Prelude.{nat_lt, nat_le}
use Rattle.std.specs.List.{list_all}
use Rattle.std.proofs.lemmas.Bool.{and_parts, and_from, eq-eqb, ltb-true, lt-ltb, le-leb}
use Rattle.std.proofs.Math.Nat.{sub_self, zero-mod, zero-div}
use Rattle.row_table.proofs.Readers.{Reader, IsReader}
use Rattle.row_table.proofs.Single.{IsReader-pure, IsReader-on_byte, on_byte, IsRefusal}
use Rattle.svm_model.specs.Instructions.Decoding.{listed, modrm_at, line_at, escape_of, escaped_at, after_first, opened_at}
use Rattle.svm_model.specs.Instructions.RowParts.{opened}
use Rattle.svm_model.specs.Instructions.InstructionBytes.{◌>>=◌}
use Rattle.svm_model.specs.Instructions.ModRm.{reg_of}
use Rattle.svm_model.specs.Instructions.RowLines.{same_map, opens, has_modrm, is_control, leads, starts, matches, takes_modrm, first_where, leading_line, first_line, fitting_line}
use Rattle.svm_model.specs.Instructions.RowTable.{table}
use Rattle.svm_model.specs.declared.row_lines.OperandFields.{OperandFields}
use Rattle.svm_model.specs.declared.row_lines.OperandFields.TheVariants as fields
use Rattle.svm_model.specs.declared.row_lines.RowLine.{RowLine}
use Rattle.svm_model.specs.declared.row_lines.OpcodeMap.{OpcodeMap}
use Rattle.svm_model.specs.declared.row_lines.OpcodeMap.TheVariants as map
use Rattle.svm_model.specs.declared.row_lines.OpenedLine.{OpenedLine}
use Rattle.svm_model.specs.declared.row_lines.Prefixes.{Prefixes}
use Rattle.svm_model.specs.declared.row_lines.Rex.{Rex}
use Rattle.svm_model.specs.declared.row_lines.Unread.{Unread}

-- what REX.R adds is 0 or 8
abbrev pub IsSteady : Rex → Type 0
IsSteady r = (r.register ≡ 0) ⊎ (r.register ≡ 8)

-- a ModRM byte that the line takes
abbrev example : OperandFields → ℕ
example fields.Any = 0xC0
example fields.AnyDigit = 0xC0
example fields.ShiftDigit = 0xC0
example fields.Direct = 0xC0
example fields.Memory = 0
example (fields.Digit d) = 0xC0 + 8 * d
example (fields.DigitMemory d) = 8 * d
example fields.Control = 0xC0
example fields.Debug = 0xF0
example (fields.Exact b) = b
example _ = 0

-- digits and bytes of the line are such
abbrev has_bytes : OperandFields → Bool
has_bytes (fields.Digit d) = nat_lt d 8
has_bytes (fields.DigitMemory d) = nat_lt d 8
has_bytes (fields.Exact b) = nat_lt b 256
has_bytes _ = true

-- the line has an opcode, which is a byte
abbrev is_sound : RowLine → Bool
is_sound l = has_bytes l.fields && (nat_lt l.first 256 && (nat_lt 0 l.step && nat_lt 0 l.count))

digit-example : (d : ℕ) → d < 8 → (0xC0 + 8 * d) / 8 % 8 ≡ d
digit-example d h = omega arith

memory-example : (d : ℕ) → d < 8 → 8 * d / 8 % 8 ≡ d
memory-example d h = omega arith

takes_modrm-example : (f : OperandFields) (r : Rex) → IsSteady r → has_modrm f ≡ true → has_bytes f ≡ true → takes_modrm f r (example f) ≡ true
takes_modrm-example fields.Absent r g h s = absurd (cc)
takes_modrm-example fields.Accumulator r g h s = absurd (cc)
takes_modrm-example fields.Opcode r g h s = absurd (cc)
takes_modrm-example fields.Any r g h s = refl
takes_modrm-example fields.AnyDigit r g h s = refl
takes_modrm-example fields.ShiftDigit r g h s = refl
takes_modrm-example fields.Direct r g h s = refl
takes_modrm-example fields.Memory r g h s = refl
takes_modrm-example (fields.Digit d) r g h s = eq-eqb _ d (digit-example d (ltb-true d 8 s))
takes_modrm-example (fields.DigitMemory d) r g h s = let k = ltb-true d 8 s in and_from _ _ (eq-eqb _ d (memory-example d k)) (lt-ltb (8 * d) 0xC0 (omega arith))
takes_modrm-example fields.Control r (inl e) h s = ap (λ (n : ℕ). is_control (reg_of 0xC0 + n)) e
takes_modrm-example fields.Control r (inr e) h s = ap (λ (n : ℕ). is_control (reg_of 0xC0 + n)) e
takes_modrm-example fields.Debug r g h s = refl
takes_modrm-example (fields.Exact b) r g h s = eq-eqb b b refl

example-small : (f : OperandFields) → has_bytes f ≡ true → example f < 256
example-small fields.Absent s = lit< tt
example-small fields.Accumulator s = lit< tt
example-small fields.Opcode s = lit< tt
example-small fields.Any s = lit< tt
example-small fields.AnyDigit s = lit< tt
example-small fields.ShiftDigit s = lit< tt
example-small fields.Direct s = lit< tt
example-small fields.Memory s = lit< tt
example-small (fields.Digit d) s = let h = ltb-true d 8 s in omega arith
example-small (fields.DigitMemory d) s = let h = ltb-true d 8 s in omega arith
example-small fields.Control s = lit< tt
example-small fields.Debug s = lit< tt
example-small (fields.Exact b) s = ltb-true b 256 s

-- the line that is found passes the test, and each test that all lines pass
first_where-passes : (test : RowLine → Bool) (ls : List RowLine) (l : RowLine) → first_where test ls ≡ Some l → test l ≡ true
unfolding first_where
first_where-passes test [] l e = absurd (cc)
first_where-passes test (x ∷ xs) l e = go (test x) refl (λ f. first_where-passes test xs l f) e where
  go : (b : Bool) → test x ≡ b → (first_where test xs ≡ Some l → test l ≡ true) → cond b (Some x) (first_where test xs) ≡ Some l → test l ≡ true
  go true h later f = let same : x ≡ l = cc in ap test (sym same) ∙ h
  go false h later f = later f

pub first_where-all : (law test : RowLine → Bool) (ls : List RowLine) (l : RowLine) → list_all law ls ≡ true → first_where test ls ≡ Some l → law l ≡ true
unfolding first_where
first_where-all law test [] l a e = absurd (cc)
first_where-all law test (x ∷ xs) l a e = go (test x) (λ f. first_where-all law test xs l (and_parts (law x) _ a).1 f) e where
  go : (b : Bool) → (first_where test xs ≡ Some l → law l ≡ true) → cond b (Some x) (first_where test xs) ≡ Some l → law l ≡ true
  go true later f = let same : x ≡ l = cc in ap law (sym same) ∙ (and_parts (law x) _ a).0
  go false later f = later f

-- a line passes another test too, so some line is found by it
Found : (RowLine → Bool) → List RowLine → Type 0
Found t ls = (x : RowLine) × (first_where t ls ≡ Some x)

first_where-some : (s t : RowLine → Bool) (ls : List RowLine) (l : RowLine) → first_where s ls ≡ Some l → t l ≡ true → Found t ls
unfolding first_where Found
first_where-some s t [] l e h = absurd (cc)
first_where-some s t (x ∷ xs) l e h = go (t x) refl (s x) (λ f. first_where-some s t xs l f h) e where
  go : (b : Bool) → t x ≡ b → (c : Bool) → (first_where s xs ≡ Some l → Found t xs) → cond c (Some x) (first_where s xs) ≡ Some l → (y : RowLine) × (cond b (Some x) (first_where t xs) ≡ Some y)
  go true k c later f = (x, refl)
  go false k true later f = let same : x ≡ l = cc in absurd (let q : t x ≡ true = ap t same ∙ h in cc)
  go false k false later f = later f

-- each line of the table is sound: this computes
sound : list_all is_sound table ≡ true
unfolding table
sound = refl

-- ModRM, once the opcode has a line
abbrev with_modrm : Option RowLine → ℕ → ℕ → Reader OpenedLine
with_modrm o opcode b bs = listed o b >>= (λ l. Ok (opened l opcode b, bs))

abbrev Continues : {X : Type 0} → ℕ → Reader X → Type 0
Continues b p = IsReader p ⊎ IsRefusal b p

with_modrm-each : (o : Option RowLine) (opcode b : ℕ) → Continues b (with_modrm o opcode b)
with_modrm-each (Some l) opcode b = inl (IsReader-pure (opened l opcode b))
with_modrm-each None opcode b = inr (λ bs. refl)

with_modrm-lives : (o : Option RowLine) (opcode b : ℕ) (x : RowLine) → o ≡ Some x → IsReader (with_modrm o opcode b)
with_modrm-lives (Some l) opcode b x e = IsReader-pure (opened l opcode b)
with_modrm-lives None opcode b x e = absurd (cc)

module _ (p : Prefixes) (r : Rex) (steady : IsSteady r) where
  module _ (m : OpcodeMap) (opcode : ℕ) (first : RowLine) (was : first_line p r m opcode table ≡ Some first) where
    first_sound : is_sound first ≡ true
    first_sound = first_where-all is_sound (starts p r m opcode) table first sound was

    live_modrm : has_modrm first.fields ≡ true → (x : RowLine) × (fitting_line p r m opcode (example first.fields) table ≡ Some x)
    unfolding Found
    live_modrm h =
        first_where-some (starts p r m opcode) (matches p r m opcode (example first.fields)) table first was
        (and_from _ _ (first_where-passes (starts p r m opcode) table first was) (takes_modrm-example first.fields r steady h (and_parts _ _ first_sound).0))

    on_modrm : IsReader (modrm_at p r m opcode first)
    unfolding modrm_at
    on_modrm = go (has_modrm first.fields) refl where
      go : (b : Bool) → has_modrm first.fields ≡ b → IsReader (λ bs. cond b (on_byte (λ f. with_modrm (fitting_line p r m opcode f table) opcode f) bs) (Ok (opened first opcode 0, bs)))
      go true h =
          let x = live_modrm h in
          IsReader-on_byte (λ f. with_modrm (fitting_line p r m opcode f table) opcode f) (λ f. with_modrm-each (fitting_line p r m opcode f table) opcode f) (example first.fields) (example-small first.fields (and_parts _ _ first_sound).0) (with_modrm-lives _ opcode (example first.fields) x.0 x.1)
      go false h = IsReader-pure (opened first opcode 0)

  -- the opcode
  line-each : (m : OpcodeMap) (b : ℕ) → Continues b (line_at p r m b)
  unfolding line_at
  line-each m b = go (first_line p r m b table) refl where
    go : (o : Option RowLine) → first_line p r m b table ≡ o → Continues b (λ bs. listed o b >>= (λ l. modrm_at p r m b l bs))
    go (Some l) e = inl (on_modrm m b l e)
    go None e = inr (λ bs. refl)

  line-lives : (m : OpcodeMap) (b : ℕ) (l : RowLine) → first_line p r m b table ≡ Some l → IsReader (line_at p r m b)
  unfolding line_at
  line-lives m b l e = go (first_line p r m b table) refl where
    go : (o : Option RowLine) → first_line p r m b table ≡ o → IsReader (λ bs. listed o b >>= (λ l. modrm_at p r m b l bs))
    go (Some x) f = on_modrm m b x f
    go None f = absurd (let q : None ≡ Some l = sym f ∙ e in cc)

  at_least : (n : ℕ) → nat_le n n ≡ true
  at_least n = le-leb n n (omega arith)

  -- a line of the map has its own first opcode
  opens-first : (l : RowLine) (m : OpcodeMap) → is_sound l ≡ true → same_map l.map m ≡ true → opens l m l.first ≡ true
  opens-first l m s e =
      let a = and_parts _ _ s in
      let b = and_parts _ _ a.1 in
      let c = and_parts _ _ b.1 in
      let step = ltb-true 0 l.step c.0 in
      let count = ltb-true 0 l.count c.1 in
      and_from _ _ e (and_from _ _ (at_least l.first) (and_from _ _ c.0 (first-test l.first l.step l.count step count))) where
        first-test : (first step count : ℕ) → 0 < step → 0 < count → ((first - first) % step == 0 && nat_lt ((first - first) / step) count) ≡ true
        first-test first step count h k =
            ap (λ (n : ℕ). n % step == 0 && nat_lt (n / step) count) (sub_self first)
            ∙ and_from _ _ (eq-eqb (0 % step) 0 (zero-mod step)) (lt-ltb (0 / step) count (subst (λ (n : ℕ). n < count) (sym (zero-div step)) k))

  escaped-lives : (m : OpcodeMap) (l : RowLine) → leading_line p r m table ≡ Some l → IsReader (on_byte (line_at p r m))
  unfolding Found
  escaped-lives m l e =
      let passes = and_parts _ _ (first_where-passes (leads p r m) table l e) in
      let s = first_where-all is_sound (leads p r m) table l sound e in
      let x = first_where-some (leads p r m) (starts p r m l.first) table l e (and_from _ _ (opens-first l m s passes.0) passes.1) in
      IsReader-on_byte (line_at p r m) (line-each m) l.first (ltb-true l.first 256 (and_parts _ _ (and_parts _ _ s).1).0) (line-lives m l.first x.0 x.1)

  escaped-each : (m : OpcodeMap) (b : ℕ) → Continues b (escaped_at p r m b)
  unfolding escaped_at
  escaped-each m b = go (leading_line p r m table) refl where
    go : (o : Option RowLine) → leading_line p r m table ≡ o → Continues b (λ bs. listed o b >>= (λ l. on_byte (line_at p r m) bs))
    go (Some l) e = inl (escaped-lives m l e)
    go None e = inr (λ bs. refl)

  first-each : (b : ℕ) → Continues b (after_first p r b)
  unfolding after_first
  first-each b = go (escape_of b) where
    go : (o : Option OpcodeMap) → Continues b (λ bs. elim o as (λ _. Result (OpenedLine × List ℕ) Unread) [ Some m ↦ escaped_at p r m b bs | None ↦ line_at p r map.Primary b bs ])
    go (Some m) = escaped-each m b
    go None = line-each map.Primary b

  pub IsReader-opened : IsReader (opened_at p r)
  unfolding opened_at after_first table first_where
  IsReader-opened = IsReader-on_byte (after_first p r) first-each 0x01 (lit< tt) (line-lives map.Primary 0x01 _ refl)
