-- The lines that a search by opcode leaves out are none that it looks for.
use Rattle.std.proofs.Common.{◌≡◌, ℕ, ◌+◌, ◌-◌, ◌<◌, ◌≤◌, suc, zero, List, [], ◌∷◌, Bool, true, false, not, ◌&&◌, cond, Some, refl, sym, ap, ◌∙◌, subst, arith, length, take, drop, get_or}
use Rattle.std.specs.List.{list_all}
use Rattle.std.specs.Prelude.{nat_le}
use Rattle.std.proofs.lemmas.Bool.{and_parts, leb-true}
use Rattle.std.proofs.lemmas.List.{take_all, length-drop}
use Rattle.svm_model.specs.Instructions.RowLines.{opens, same_map, takes_modrm, leads, starts, matches, first_where, leading_line, first_line, fitting_line}
use Rattle.svm_model.specs.Instructions.RowTable.{table}
use Rattle.svm_model.specs.declared.row_lines.RowLine.{RowLine}
use Rattle.svm_model.specs.declared.row_lines.OpcodeMap.{OpcodeMap}
use Rattle.svm_model.specs.declared.row_lines.OpcodeMap.TheVariants as map
use Rattle.svm_model.specs.declared.row_lines.Prefixes.{Prefixes}
use Rattle.svm_model.specs.declared.row_lines.Rex.{Rex}
use Rattle.row_table.specs.declared.first_lines.TheConstants.{PRIMARY, SECONDARY, REPEAT}
use Rattle.row_table.specs.Index.{IsPassed, is_beside, misses}

-- a search is the same from behind lines that fail its test
first_where-passed : (law test : RowLine → Bool) → ((l : RowLine) → law l ≡ true → test l ≡ false) → (k : ℕ) (ls : List RowLine) → IsPassed law k ls → first_where test (drop k ls) ≡ first_where test ls
unfolding first_where
first_where-passed law test fails zero ls a = refl
first_where-passed law test fails (suc k) [] a = refl
first_where-passed law test fails (suc k) (l ∷ ls) a =
    let parts = and_parts (law l) _ a in
    first_where-passed law test fails k ls parts.1 ∙ sym (ap (λ (b : Bool). cond b (Some l) (first_where test ls)) (fails l parts.0))

pub rest_of : (k : ℕ) (ls : List RowLine) → take (length ls - k) (drop k ls) ≡ drop k ls
rest_of k ls = take_all (length ls - k) (drop k ls) (omega (arith, length-drop k ls))

not-true : (b : Bool) → not b ≡ true → b ≡ false
not-true true e = sym e
not-true false e = refl

and-false : (b c : Bool) → b ≡ false → (b && c) ≡ false
and-false b c e = ap (λ (x : Bool). x && c) e

pub leading_line-passed : (p : Prefixes) (r : Rex) (m : OpcodeMap) (k : ℕ) (ls : List RowLine) → IsPassed (is_beside m) k ls → leading_line p r m (drop k ls) ≡ leading_line p r m ls
leading_line-passed p r m k ls a = first_where-passed (is_beside m) (leads p r m) (λ l e. and-false (same_map l.map m) _ (not-true _ e)) k ls a

pub first_line-passed : (p : Prefixes) (r : Rex) (m : OpcodeMap) (opcode k : ℕ) (ls : List RowLine) → IsPassed (misses m opcode) k ls → first_line p r m opcode (drop k ls) ≡ first_line p r m opcode ls
first_line-passed p r m opcode k ls a = first_where-passed (misses m opcode) (starts p r m opcode) (λ l e. and-false (opens l m opcode) _ (not-true _ e)) k ls a

pub fitting_line-passed : (p : Prefixes) (r : Rex) (m : OpcodeMap) (opcode modrm k : ℕ) (ls : List RowLine) → IsPassed (misses m opcode) k ls → fitting_line p r m opcode modrm (drop k ls) ≡ fitting_line p r m opcode modrm ls
fitting_line-passed p r m opcode modrm k ls a = first_where-passed (misses m opcode) (matches p r m opcode modrm) (λ l e. and-false (starts p r m opcode l) _ (and-false (opens l m opcode) _ (not-true _ e))) k ls a

-- each of the counts, for opcodes from one on, passes only lines with other opcodes
unfoldable all_passed : OpcodeMap → ℕ → List ℕ → Bool
all_passed m opcode [] = true
all_passed m opcode (k ∷ ks) = list_all (misses m opcode) (take k table) && all_passed m (suc opcode) ks

all_passed-at : (m : OpcodeMap) (opcode : ℕ) (ks : List ℕ) (i : ℕ) → all_passed m opcode ks ≡ true → i < length ks → IsPassed (misses m (opcode + i)) (get_or ks i 0) table
unfolding all_passed
all_passed-at m opcode [] i a h = absurd (omega arith)
all_passed-at m opcode (k ∷ ks) zero a h =
    let same : opcode ≡ opcode + 0 = omega arith in
    subst (λ (n : ℕ). IsPassed (misses m n) k table) same (and_parts _ _ a).0
all_passed-at m opcode (k ∷ ks) (suc i) a h =
    let same : suc opcode + i ≡ opcode + suc i = omega arith in
    let later : IsPassed (misses m (suc opcode + i)) (get_or ks i 0) table = all_passed-at m (suc opcode) ks i (and_parts _ _ a).1 (omega arith) in
    subst (λ (n : ℕ). IsPassed (misses m n) (get_or ks i 0) table) same later

-- each of the counts is one of lines of the table
small_at : (ks : List ℕ) (i : ℕ) → list_all (λ (k : ℕ). nat_le k 137) ks ≡ true → get_or ks i 0 ≤ 137
small_at [] i a = omega arith
small_at (k ∷ ks) zero a = leb-true k 137 (and_parts (nat_le k 137) _ a).0
small_at (k ∷ ks) (suc i) a = small_at ks i (and_parts (nat_le k 137) _ a).1

pub small-PRIMARY : (opcode : ℕ) → get_or PRIMARY opcode 0 ≤ 137
small-PRIMARY opcode = small_at PRIMARY opcode refl

pub small-SECONDARY : (opcode : ℕ) → get_or SECONDARY opcode 0 ≤ 137
small-SECONDARY opcode = small_at SECONDARY opcode refl

-- these compute
primary_passed : all_passed map.Primary 0 PRIMARY ≡ true
unfolding table all_passed
primary_passed = refl

secondary_passed : all_passed map.Secondary 0 SECONDARY ≡ true
unfolding table all_passed
secondary_passed = refl

pub IsPassed-PRIMARY : (opcode : ℕ) → opcode < 256 → IsPassed (misses map.Primary opcode) (get_or PRIMARY opcode 0) table
IsPassed-PRIMARY opcode h =
    let same : 0 + opcode ≡ opcode = omega arith in
    subst (λ (n : ℕ). IsPassed (misses map.Primary n) (get_or PRIMARY opcode 0) table) same (all_passed-at map.Primary 0 PRIMARY opcode primary_passed h)

pub IsPassed-SECONDARY : (opcode : ℕ) → opcode < 256 → IsPassed (misses map.Secondary opcode) (get_or SECONDARY opcode 0) table
IsPassed-SECONDARY opcode h =
    let same : 0 + opcode ≡ opcode = omega arith in
    subst (λ (n : ℕ). IsPassed (misses map.Secondary n) (get_or SECONDARY opcode 0) table) same (all_passed-at map.Secondary 0 SECONDARY opcode secondary_passed h)

-- the lines of the map after F3h begin here
pub repeat_passed : (opcode : ℕ) → IsPassed (misses map.Repeat opcode) REPEAT table
unfolding table
repeat_passed opcode = refl

-- the first line that passes a test, if it passes another too, is the first that passes both
first_where-both : (s t : RowLine → Bool) (ls : List RowLine) (l : RowLine) → first_where s ls ≡ Some l → t l ≡ true → first_where (λ x. s x && t x) ls ≡ Some l
unfolding first_where
first_where-both s t [] l e h = absurd (cc)
first_where-both s t (x ∷ xs) l e h = go (s x) (t x) refl (λ f. first_where-both s t xs l f h) e where
  go : (b c : Bool) → t x ≡ c → (first_where s xs ≡ Some l → first_where (λ y. s y && t y) xs ≡ Some l) → cond b (Some x) (first_where s xs) ≡ Some l → cond (b && c) (Some x) (first_where (λ y. s y && t y) xs) ≡ Some l
  go true true k later f = f
  go true false k later f = let same : x ≡ l = cc in absurd (let q : t x ≡ true = ap t same ∙ h in cc)
  go false c k later f = later f

pub fitting_line-first : (p : Prefixes) (r : Rex) (m : OpcodeMap) (opcode modrm : ℕ) (ls : List RowLine) (l : RowLine) → first_line p r m opcode ls ≡ Some l → takes_modrm l.fields r modrm ≡ true → fitting_line p r m opcode modrm ls ≡ Some l
fitting_line-first p r m opcode modrm ls l e h = first_where-both (starts p r m opcode) (λ x. takes_modrm x.fields r modrm) ls l e h
