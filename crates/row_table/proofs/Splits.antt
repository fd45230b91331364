-- The bytes of what was read: prefixes, the REX prefix, the opcode and the ModRM byte.
use Rattle.std.proofs.Common.{◌≡◌, ◌==◌, ℕ, inl, inr, List, [], ◌∷◌, ◌++◌, Bool, true, false, cond, Option, Some, None, Result, Ok, Err, MatchBool, refl, sym, ap, ◌∙◌, subst}
use Rattle.std.proofs.lemmas.Bool.{and_parts, leb-true, ltb-true, eqb-true}
use Rattle.svm_model.specs.Instructions.Decoding.{listed, modrm_at, line_at, escape_of, escaped_at, after_first, opened_at}
use Rattle.svm_model.specs.Instructions.RowParts.{opened}
use Rattle.svm_model.specs.Instructions.InstructionBytes.{◌>>=◌, byte_at}
use Rattle.svm_model.specs.Instructions.Prefixes.{with_prefix, prefixes_of, no_rex, is_rex, rex_of, rex_and_rest}
use Rattle.svm_model.specs.Instructions.RowLines.{same_map, opens, is_allowed, has_modrm, takes_modrm, starts, matches, first_where, leading_line, first_line, fitting_line}
use Rattle.svm_model.specs.Instructions.RowTable.{table}
use Rattle.svm_model.specs.Instructions.Spelling.{ArePrefixes, IsRex, opcode_bytes, IsModrm, IsLineOf}
use Rattle.svm_model.specs.declared.row_lines.OperandFields.{OperandFields}
use Rattle.svm_model.specs.declared.row_lines.OperandFields.TheVariants as fields
use Rattle.svm_model.specs.declared.row_lines.RowLine.{RowLine}
use Rattle.svm_model.specs.declared.row_lines.OpcodeMap.{OpcodeMap}
use Rattle.svm_model.specs.declared.row_lines.OpcodeMap.TheVariants as map
use Rattle.svm_model.specs.declared.row_lines.OpenedLine.{OpenedLine}
use Rattle.svm_model.specs.declared.row_lines.Prefixes.{Prefixes}
use Rattle.svm_model.specs.declared.row_lines.Rex.{Rex}
use Rattle.svm_model.specs.declared.row_lines.Unread.{Unread}

-- the parts of readings one after another
pub bind_ok : {A B : Type 0} (r : Result A Unread) (f : A → Result B Unread) (y : B) → (r >>= f) ≡ Ok y → (x : A) × (r ≡ Ok x) × (f x ≡ Ok y)
bind_ok (Ok x) f y e = (x, refl, e)
bind_ok (Err s) f y e = absurd (cc)

pub same_ok : {A : Type 0} (x y : A) → ◌≡◌ {A = Result A Unread} (Ok x) (Ok y) → x ≡ y
same_ok x y e = cc

pub record PrefixSplit (p : Prefixes) (bs : List ℕ) : Type 0 where
  pub front : List ℕ
  pub are : ArePrefixes p front (prefixes_of p bs).0
  pub split : bs ≡ front ++ (prefixes_of p bs).1

pub prefix_split : (p : Prefixes) (bs : List ℕ) → PrefixSplit p bs
unfolding prefixes_of
prefix_split p [] = record { front = []; are = refl; split = refl }
prefix_split p (b ∷ bs) = let s = go (with_prefix p b) refl (λ q. prefix_split q bs) in record { front = s.0; are = s.1; split = s.2 } where
  go : (o : Option Prefixes) → with_prefix p b ≡ o → ((q : Prefixes) → PrefixSplit q bs) → (let f : Prefixes × List ℕ = elim o [ Some q ↦ prefixes_of q bs | None ↦ (p, b ∷ bs) ] in (front : List ℕ) × ArePrefixes p front f.0 × (b ∷ bs ≡ front ++ f.1))
  go (Some q) e later = let s = later q in (b ∷ s.front, (q, e, s.are), ap (λ r. b ∷ r) s.split)
  go None e later = ([], refl, refl)

pub rex_split : (bs : List ℕ) → (front : List ℕ) × IsRex front (rex_and_rest bs).0 × (bs ≡ front ++ (rex_and_rest bs).1)
unfolding rex_and_rest
rex_split [] = ([], refl, refl)
rex_split (b ∷ bs) = go (is_rex b) refl where
  go : (t : Bool) → is_rex b ≡ t → (let r : Rex × List ℕ = cond t (rex_of b, bs) (no_rex, b ∷ bs) in (front : List ℕ) × IsRex front r.0 × (b ∷ bs ≡ front ++ r.1))
  go true e = let h = and_parts _ _ e in (b ∷ [], (leb-true 0x40 b h.0, ltb-true b 0x50 h.1, refl), refl)
  go false e = ([], refl, refl)

listed_ok : (o : Option RowLine) (b : ℕ) (l : RowLine) → listed o b ≡ Ok l → o ≡ Some l
listed_ok (Some x) b l e = cc
listed_ok None b l e = absurd (cc)

byte_ok : (bs : List ℕ) (x : ℕ × List ℕ) → byte_at bs ≡ Ok x → bs ≡ x.0 ∷ x.1
unfolding byte_at
byte_ok [] x e = absurd (cc)
byte_ok (b ∷ bs) x e = ap taken e where
  taken : Result (ℕ × List ℕ) Unread → List ℕ
  taken (Ok x) = x.0 ∷ x.1
  taken (Err s) = []

-- the line that is found is one of the table, and passes
pub first_where-is : (test : RowLine → Bool) (ls : List RowLine) (l : RowLine) → first_where test ls ≡ Some l → IsLineOf l ls × (test l ≡ true)
unfolding first_where
first_where-is test [] l e = absurd (cc)
first_where-is test (x ∷ xs) l e = go (test x) refl (λ f. first_where-is test xs l f) e where
  go : (b : Bool) → test x ≡ b → (first_where test xs ≡ Some l → IsLineOf l xs × (test l ≡ true)) → cond b (Some x) (first_where test xs) ≡ Some l → IsLineOf l (x ∷ xs) × (test l ≡ true)
  go true h later f = let same : x ≡ l = cc in (inl same, ap test (sym same) ∙ h)
  go false h later f = let r = later f in (inr r.0, r.1)

takes_modrm-has : (l : RowLine) (r : Rex) (m : ℕ) → takes_modrm l.fields r m ≡ true → has_modrm l.fields ≡ true
takes_modrm-has l r m e = go l.fields e where
  go : (f : OperandFields) → takes_modrm f r m ≡ true → has_modrm f ≡ true
  go fields.Absent e = absurd (cc)
  go fields.Accumulator e = absurd (cc)
  go fields.Opcode e = absurd (cc)
  go fields.Any e = refl
  go fields.AnyDigit e = refl
  go fields.ShiftDigit e = refl
  go fields.Direct e = refl
  go fields.Memory e = refl
  go (fields.Digit d) e = refl
  go (fields.DigitMemory d) e = refl
  go fields.Control e = refl
  go fields.Debug e = refl
  go (fields.Exact b) e = refl

-- what a line, an opcode and ModRM must be, to have been read
abbrev LineSplit : Prefixes → Rex → OpcodeMap → ℕ → List ℕ → OpenedLine × List ℕ → Type 0
LineSplit p r m b bs x = (fs : List ℕ) × (x.0.opcode ≡ b) × IsLineOf x.0.line table × (opens x.0.line m b ≡ true) × (is_allowed x.0.line p r ≡ true) × IsModrm x.0.line.fields r fs x.0.modrm × (bs ≡ fs ++ x.1)

line_split : (p : Prefixes) (r : Rex) (m : OpcodeMap) (b : ℕ) (bs : List ℕ) (x : OpenedLine × List ℕ) → line_at p r m b bs ≡ Ok x → LineSplit p r m b bs x
unfolding line_at modrm_at
line_split p r m b bs x e = let f = bind_ok (listed (first_line p r m b table) b) (λ l. modrm_at p r m b l bs) x e in go f.0 (listed_ok _ b f.0 f.1) (has_modrm f.0.fields) refl f.2 where
  go : (l : RowLine) → first_line p r m b table ≡ Some l → (t : Bool) → has_modrm l.fields ≡ t → cond t (byte_at bs >>= (λ g. listed (fitting_line p r m b g.0 table) g.0 >>= (λ l. Ok (opened l b g.0, g.1)))) (Ok (opened l b 0, bs)) ≡ Ok x → LineSplit p r m b bs x
  go l was true h e =
      let g = bind_ok (byte_at bs) (λ g. listed (fitting_line p r m b g.0 table) g.0 >>= (λ l. Ok (opened l b g.0, g.1))) x e in
      let k = bind_ok (listed (fitting_line p r m b g.0.0 table) g.0.0) (λ l. Ok (opened l b g.0.0, g.0.1)) x g.2 in
      let y = k.0 in
      let is = first_where-is (matches p r m b g.0.0) table y (listed_ok _ g.0.0 y k.1) in
      let parts = and_parts _ _ is.1 in
      let start = and_parts _ _ parts.0 in
      subst (LineSplit p r m b bs) (same_ok (opened y b g.0.0, g.0.1) x k.2)
      (g.0.0 ∷ [], refl, is.0, start.0, start.1, subst (λ (t : Bool). MatchBool t ((g.0.0 ∷ [] ≡ g.0.0 ∷ []) × (takes_modrm y.fields r g.0.0 ≡ true)) ((g.0.0 ∷ [] ≡ []) × (g.0.0 ≡ 0))) (sym (takes_modrm-has y r g.0.0 parts.1)) (refl, parts.1), byte_ok bs g.0 g.1)
  go l was false h e =
      let none : List ℕ = [] in
      let absent : ℕ = 0 in
      let is = first_where-is (starts p r m b) table l was in
      let start = and_parts _ _ is.1 in
      subst (LineSplit p r m b bs) (same_ok (opened l b 0, bs) x e)
      ([], refl, is.0, start.0, start.1, subst (λ (t : Bool). MatchBool t ((none ≡ absent ∷ []) × (takes_modrm l.fields r absent ≡ true)) ((none ≡ []) × (absent ≡ absent))) (sym h) (refl, refl), refl)

-- the line has the map
map_is : (m : OpcodeMap) (n : OpcodeMap) → same_map m n ≡ true → m ≡ n
map_is map.Primary map.Primary e = refl
map_is map.Secondary map.Secondary e = refl
map_is map.Repeat map.Repeat e = refl
map_is map.Primary map.Secondary e = absurd (cc)
map_is map.Primary map.Repeat e = absurd (cc)
map_is map.Secondary map.Primary e = absurd (cc)
map_is map.Secondary map.Repeat e = absurd (cc)
map_is map.Repeat map.Primary e = absurd (cc)
map_is map.Repeat map.Secondary e = absurd (cc)

pub opens-map : (l : RowLine) (m : OpcodeMap) (b : ℕ) → opens l m b ≡ true → l.map ≡ m
opens-map l m b e = map_is l.map m (and_parts _ _ e).0

-- the byte that leads to a map
escape_is : (b : ℕ) (m : OpcodeMap) (opcode : ℕ) → escape_of b ≡ Some m → opcode_bytes m opcode ≡ b ∷ opcode ∷ []
escape_is b m opcode e = go (b == 0x0F) (b == 0xF3) refl refl e where
  go : (s t : Bool) → (b == 0x0F) ≡ s → (b == 0xF3) ≡ t → cond s (Some map.Secondary) (cond t (Some map.Repeat) None) ≡ Some m → opcode_bytes m opcode ≡ b ∷ opcode ∷ []
  go true t h k f = let same : map.Secondary ≡ m = cc in subst (λ (m : OpcodeMap). opcode_bytes m opcode ≡ b ∷ opcode ∷ []) same (ap (λ (c : ℕ). c ∷ opcode ∷ []) (sym (eqb-true b 0x0F h)))
  go false true h k f = let same : map.Repeat ≡ m = cc in subst (λ (m : OpcodeMap). opcode_bytes m opcode ≡ b ∷ opcode ∷ []) same (ap (λ (c : ℕ). c ∷ opcode ∷ []) (sym (eqb-true b 0xF3 k)))
  go false false h k f = absurd (cc)

pub record OpenedSplit (p : Prefixes) (r : Rex) (bs : List ℕ) (x : OpenedLine × List ℕ) : Type 0 where
  pub modrm_bytes : List ℕ
  pub is_listed : IsLineOf x.0.line table
  pub is_opcode : opens x.0.line x.0.line.map x.0.opcode ≡ true
  pub is_allowed : is_allowed x.0.line p r ≡ true
  pub is_modrm : IsModrm x.0.line.fields r modrm_bytes x.0.modrm
  pub split : bs ≡ opcode_bytes x.0.line.map x.0.opcode ++ (modrm_bytes ++ x.1)

from_line : (p : Prefixes) (r : Rex) (m : OpcodeMap) (b : ℕ) (tail bs : List ℕ) (x : OpenedLine × List ℕ) → bs ≡ opcode_bytes m b ++ tail → LineSplit p r m b tail x → OpenedSplit p r bs x
from_line p r m b tail bs x is l =
    let same : x.0.line.map ≡ m = opens-map x.0.line m b l.3 in
    record {
      modrm_bytes = l.0;
      is_listed = l.2;
      is_opcode = subst (λ (n : OpcodeMap). opens x.0.line n x.0.opcode ≡ true) (sym same) (ap (opens x.0.line m) l.1 ∙ l.3);
      is_allowed = l.4;
      is_modrm = l.5;
      split = is ∙ ap (λ (t : List ℕ). opcode_bytes m b ++ t) l.6 ∙ ap (λ (c : ℕ). opcode_bytes m c ++ (l.0 ++ x.1)) (sym l.1) ∙ ap (λ (n : OpcodeMap). opcode_bytes n x.0.opcode ++ (l.0 ++ x.1)) (sym same);
    }

pub opened_split : (p : Prefixes) (r : Rex) (bs : List ℕ) (x : OpenedLine × List ℕ) → opened_at p r bs ≡ Ok x → OpenedSplit p r bs x
unfolding opened_at after_first escaped_at
opened_split p r bs x e = let f = bind_ok (byte_at bs) (λ f. after_first p r f.0 f.1) x e in go f.0 (byte_ok bs f.0 f.1) (escape_of f.0.0) refl f.2 where
  go : (f : ℕ × List ℕ) → bs ≡ f.0 ∷ f.1 → (o : Option OpcodeMap) → escape_of f.0 ≡ o → (elim o as (λ _. Result (OpenedLine × List ℕ) Unread) [ Some m ↦ escaped_at p r m f.0 f.1 | None ↦ line_at p r map.Primary f.0 f.1 ]) ≡ Ok x → OpenedSplit p r bs x
  go f is (Some m) h e =
      let t = bind_ok (listed (leading_line p r m table) f.0) (λ l. byte_at f.1 >>= (λ s. line_at p r m s.0 s.1)) x e in
      let s = bind_ok (byte_at f.1) (λ s. line_at p r m s.0 s.1) x t.2 in
      from_line p r m s.0.0 s.0.1 bs x (is ∙ ap (λ (t : List ℕ). f.0 ∷ t) (byte_ok f.1 s.0 s.1) ∙ ap (λ (t : List ℕ). t ++ s.0.1) (sym (escape_is f.0 m s.0.0 h))) (line_split p r m s.0.0 s.0.1 x s.2)
  go f is None h e = from_line p r map.Primary f.0 f.1 bs x is (line_split p r map.Primary f.0 f.1 x e)
