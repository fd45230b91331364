-- What is known of the entries that a walk has read.
use Rattle.std.proofs.Common.{◌≡◌, ◌∙◌, ℕ, ◌+◌, ◌-◌, ◌%◌, ◌^◌, ◌<◌, ◌≤◌, List, [], ◌∷◌, ◌++◌, length, refl, ap, sym, subst, arith, bit_and, length-append}
use Rattle.std.proofs.lemmas.Nat.{and_mod, and_le_r}
use Rattle.std.proofs.lemmas.List.Elements.{All-append, All-cons, All-nil}
use Rattle.svm_model.specs.Memory.PageEntries.{address}
use Rattle.svm_model.specs.declared.page_tables.Entry.{Entry}
use Rattle.page_walk.specs.PathBits.{Join, with_below}
use Rattle.page_walk.specs.declared.path_bits.PathBits.{PathBits}
use Rattle.page_walk.proofs.CommonBits.{join-below}
use Rattle.nested_walk.specs.Reading.{AreWithin, IsRead}
use Rattle.nested_walk.specs.declared.walked_so_far.SoFar.{SoFar}

and-none : (n : ℕ) → bit_and n 0 ≡ 0
and-none n = let low : bit_and n 0 ≤ 0 = and_le_r n 0 in omega arith

-- a table begins with a page
table-aligned : (bits : ℕ) → bit_and bits address % 4096 ≡ 0
table-aligned bits = and_mod bits address 12 ∙ and-none (bits % 2 ^ 12)

table-low : (bits : ℕ) → bit_and bits address < 2 ^ 40
table-low bits = let low : bit_and bits address ≤ address = and_le_r bits address in omega arith

within-more : (size : ℕ) (path : List Entry) (e : Entry) → AreWithin size path → e.at + 8 ≤ size → AreWithin size (path ++ e ∷ [])
within-more size path e h k = let P : Entry → Type 0 = λ e. e.at + 8 ≤ size in All-append P path (e ∷ []) h (All-cons P e [] k (All-nil P))

-- no entry was read: each of none has all bits
abbrev pub no_bits : PathBits
no_bits = record { common = record { 0 = 2 ^ 64 - 1 }; joined = record { 0 = 0 }; leaf = record { 0 = 0 } }

join-none : Join no_bits []
join-none = record { writable = refl; user = refl; accessed = refl; no_execute = refl; leaf = refl }

pub read-none : (size bits : ℕ) (so_far : SoFar) → so_far.table ≡ bit_and bits address → so_far.path.items ≡ [] → so_far.bits ≡ no_bits → IsRead size 4 so_far
read-none size bits so_far t p b =
    let start : Join no_bits so_far.path.items = subst (λ (path : List Entry). Join no_bits path) (sym p) join-none in
    record {
      low = subst (λ (n : ℕ). n < 2 ^ 40) (sym t) (table-low bits);
      aligned = ap (λ (n : ℕ). n % 4096) t ∙ table-aligned bits;
      levels = ap (λ (path : List Entry). length path + 4) p;
      inside = subst (λ (path : List Entry). AreWithin size path) (sym p) (All-nil (λ (e : Entry). e.at + 8 ≤ size));
      bits = subst (λ (b : PathBits). Join b so_far.path.items) (sym b) start;
    }

-- an entry more was read
pub read-more : (size below : ℕ) (so_far after : SoFar) (e : Entry) → IsRead size (below + 1) so_far → e.at + 8 ≤ size →
    after.table ≡ bit_and e.bits address → after.path.items ≡ so_far.path.items ++ e ∷ [] → after.bits ≡ with_below so_far.bits e → IsRead size below after
read-more size below so_far after e h k t p b =
    let path = so_far.path.items ++ e ∷ [] in
    let more : Join (with_below so_far.bits e) path = join-below so_far.bits so_far.path.items e h.bits in
    let longer : length path ≡ length so_far.path.items + 1 = length-append so_far.path.items (e ∷ []) in
    let count : length after.path.items ≡ length path = ap (λ (es : List Entry). length es) p in
    record {
      low = subst (λ (n : ℕ). n < 2 ^ 40) (sym t) (table-low e.bits);
      aligned = ap (λ (n : ℕ). n % 4096) t ∙ table-aligned e.bits;
      levels = omega (arith, h.levels);
      inside = subst (λ (es : List Entry). AreWithin size es) (sym p) (within-more size so_far.path.items e h.inside k);
      bits = subst (λ (es : List Entry). Join after.bits es) (sym p) (subst (λ (b : PathBits). Join b path) (sym b) more);
    }

-- the level above the next
pub read-level : (size level : ℕ) (so_far : SoFar) → 1 ≤ level → IsRead size level so_far → IsRead size (level - 1 + 1) so_far
read-level size level so_far h r = let e : level ≡ level - 1 + 1 = omega arith in subst (λ (n : ℕ). IsRead size n so_far) e r
