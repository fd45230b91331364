-- How the pieces of a walk reach what it comes to.
use Rattle.std.proofs.Common.{◌≡◌, ◌∙◌, ℕ, ◌+◌, ◌*◌, ◌/◌, ◌%◌, ◌<◌, ◌≤◌, ◌-◌, suc, zero, Bool, true, false, ◌||◌, List, [], ◌∷◌, ◌++◌, Option, Some, None, Result, if◌then◌else◌, refl, ap, sym, subst, append_assoc, append-nil, arith, bit_and}
use Rattle.svm_model.specs.Memory.Bytes.{bytes_at}
use Rattle.svm_model.specs.Memory.NestedPaging.{as_nested, both, entry_place, is_barred, nested_from, nested_last, nested_leaf, on_entry}
use Rattle.svm_model.specs.Memory.OuterPasses.{Reached, final_fault, on_pass, over, pass_told, passed, passing, table_fault}
use Rattle.svm_model.specs.Memory.PageEntries.{address, index_at, is_leaf}
use Rattle.svm_model.specs.Memory.PageTables.{entry_of, leaf_of, read_entry}
use Rattle.svm_model.specs.declared.names.Access.{Access}
use Rattle.svm_model.specs.declared.names.Kind.{Kind}
use Rattle.svm_model.specs.declared.names.Kind.TheVariants.{Write}
use Rattle.svm_model.specs.declared.page_tables.Entry.{Entry}
use Rattle.svm_model.specs.declared.page_tables.Leaf.{Leaf as FoundLeaf}
use Rattle.svm_model.specs.declared.page_tables.Nested.{Nested}
use Rattle.svm_model.specs.declared.page_tables.Nested.TheVariants as nested
use Rattle.svm_model.specs.declared.page_tables.Outer.{Outer}
use Rattle.svm_model.specs.declared.page_tables.Paging.{Paging}
use Rattle.svm_model.specs.declared.page_tables.Pass.{Pass}
use Rattle.svm_model.specs.declared.page_tables.Walked.{Walked}
use Rattle.svm_model.specs.declared.page_tables.Walked.TheVariants.{Leaf, PageFault, Ended}
use Rattle.svm_model.specs.declared.windows.OutsideMemory.{OutsideMemory}
use Rattle.page_walk.specs.Lookups.{looked}
use Rattle.nested_walk.specs.Reaching.{Passes, Reaches}

-- the walk ends here, and tells no pass more
pub reaches-over : {answer result : Nested} {memory : List ℕ} (passes : List Pass) → result ≡ answer → Reaches (over answer memory) passes result memory passes
reaches-over passes e = record { answer = e; memory_is = refl; passes_are = sym (append-nil passes) }

-- behind a pass the walk goes on
pub passes-then : {outer : Outer} {memory : List ℕ} {page : ℕ} {kind : Kind} {before : List Pass} {found : Walked} {after : List ℕ} {told : List Pass} (refusal : ℕ → Nested) (next : FoundLeaf → Bool → List ℕ → Reached) (result : Nested) (now : List ℕ) (passes : List Pass) →
    Passes outer memory page kind before found after told → Reaches (on_pass found after refusal next) told result now passes → Reaches (passing outer memory page kind refusal next) before result now passes
passes-then {outer} {memory} {page} {kind} {before} {found} {after} {told} refusal next result now passes p r =
    let pass = passed outer memory page kind in
    let whole : Reaches (on_pass pass.0 pass.1 refusal next) told result now passes =
    subst (λ (m : List ℕ). Reaches (on_pass pass.0 m refusal next) told result now passes) p.memory_is (subst (λ (w : Walked). Reaches (on_pass w after refusal next) told result now passes) p.answer r) in
    record {
      answer = whole.answer;
      memory_is = whole.memory_is;
      passes_are = whole.passes_are ∙ ap (λ (t : List Pass). t ++ (on_pass pass.0 pass.1 refusal next).passes) p.passes_are ∙ append_assoc before (pass_told outer memory page kind) (on_pass pass.0 pass.1 refusal next).passes;
    }

-- a pass that does not go on ends the walk
pub fault-ends : {found : Walked} {code : ℕ} {result : Nested} (memory : List ℕ) (passes : List Pass) (refusal : ℕ → Nested) (next : FoundLeaf → Bool → List ℕ → Reached) →
    found ≡ PageFault code → result ≡ refusal code → Reaches (on_pass found memory refusal next) passes result memory passes
fault-ends {result = result} memory passes refusal next e h = subst (λ (w : Walked). Reaches (on_pass w memory refusal next) passes result memory passes) (sym e) (reaches-over passes h)

pub outside-ends : {found : Walked} {outside : OutsideMemory} {result : Nested} (memory : List ℕ) (passes : List Pass) (refusal : ℕ → Nested) (next : FoundLeaf → Bool → List ℕ → Reached) →
    found ≡ Ended outside → result ≡ nested.Ended outside → Reaches (on_pass found memory refusal next) passes result memory passes
outside-ends {result = result} memory passes refusal next e h = subst (λ (w : Walked). Reaches (on_pass w memory refusal next) passes result memory passes) (sym e) (reaches-over passes h)

-- one that finds a leaf goes on
pub leaf-goes-on : {found : Walked} {leaf : FoundLeaf} {changed : Bool} (memory : List ℕ) (before : List Pass) (refusal : ℕ → Nested) (next : FoundLeaf → Bool → List ℕ → Reached) (result : Nested) (now : List ℕ) (passes : List Pass) →
    found ≡ Leaf leaf changed → Reaches (next leaf changed memory) before result now passes → Reaches (on_pass found memory refusal next) before result now passes
leaf-goes-on memory before refusal next result now passes e r = subst (λ (w : Walked). Reaches (on_pass w memory refusal next) before result now passes) (sym e) r

-- The entry of a table.

-- what follows an entry that was read
abbrev pub on_read : ℕ → Outer → Paging → Access → List Entry → Bool → List ℕ → Entry → Reached
on_read below outer paging access path changed memory entry =
    if is_leaf (suc below) entry.bits then nested_leaf outer paging access (path ++ entry ∷ []) changed memory
    else nested_from below outer paging access (bit_and entry.bits address) (path ++ entry ∷ []) changed memory

-- what follows a table's page that has passed
abbrev pub on_table : ℕ → Outer → Paging → Access → ℕ → List Entry → Bool → FoundLeaf → Bool → List ℕ → Reached
on_table below outer paging access at path changed found more m =
    on_entry (read_entry (suc below) paging access (entry_place found at) (bytes_at m (entry_place found at) 8)) m (on_read below outer paging access path (changed || more) m)

from-table : {level : ℕ} (below : ℕ) (outer : Outer) (paging : Paging) (access : Access) (table : ℕ) (path : List Entry) (changed : Bool) (memory : List ℕ) (before : List Pass) (result : Nested) (now : List ℕ) (passes : List Pass) → level ≡ suc below →
    (let at = table + 8 * index_at (suc below) access.page.0 in
    Reaches (passing outer memory (at / 4096) Write (table_fault at) (on_table below outer paging access at path changed)) before result now passes) →
    Reaches (nested_from level outer paging access table path changed memory) before result now passes
unfolding nested_from
from-table below outer paging access table path changed memory before result now passes e r =
    subst (λ (l : ℕ). Reaches (nested_from l outer paging access table path changed memory) before result now passes) (sym e) r

same-place : {level below : ℕ} (at table page : ℕ) → level ≡ suc below → at ≡ table + 8 * index_at level page → at ≡ table + 8 * index_at (suc below) page
same-place at table page e p = subst (λ (l : ℕ). at ≡ table + 8 * index_at l page) e p

-- the walk from a table on, behind the pass of its entry's page
pub from-pass : {level : ℕ} {outer : Outer} {memory : List ℕ} {before : List Pass} {found : Walked} {after : List ℕ} {told : List Pass} {result : Nested} {now : List ℕ} {passes : List Pass} (below at : ℕ) (paging : Paging) (access : Access) (table : ℕ) (path : List Entry) (changed : Bool) →
    level ≡ suc below → at ≡ table + 8 * index_at level access.page.0 → Passes outer memory (at / 4096) Write before found after told →
    Reaches (on_pass found after (table_fault at) (on_table below outer paging access at path changed)) told result now passes → Reaches (nested_from level outer paging access table path changed memory) before result now passes
from-pass {outer = outer} {memory = memory} {before = before} {result = result} {now = now} {passes = passes} below at paging access table path changed e place p r =
    from-table below outer paging access table path changed memory before result now passes e
    (subst (λ (x : ℕ). Reaches (passing outer memory (x / 4096) Write (table_fault x) (on_table below outer paging access x path changed)) before result now passes) (same-place at table access.page.0 e place)
    (passes-then (table_fault at) (on_table below outer paging access at path changed) result now passes p r))

-- where the entry lies in the page that its page was passed to
place-of : (table index frame : ℕ) → table % 4096 ≡ 0 → index < 512 → 4096 * frame + (table + 8 * index) % 4096 ≡ 4096 * frame + 8 * index
place-of table index frame h k = omega arith

index-small : (level page : ℕ) → index_at level page < 512
index-small level page = omega arith

-- the entry is that of a look-up in that page
pub reads-entry : {level : ℕ} {before : List Pass} {result : Nested} {now : List ℕ} {passes : List Pass} (below at : ℕ) (outer : Outer) (paging : Paging) (access : Access) (table : ℕ) (path : List Entry) (changed more : Bool) (found : FoundLeaf) (memory : List ℕ) (entry : Entry) (end : Option Walked) →
    level ≡ suc below → at ≡ table + 8 * index_at level access.page.0 → table % 4096 ≡ 0 → entry_of level memory paging access (4096 * found.frame.0) ≡ looked end entry →
    Reaches (on_entry (looked end entry) memory (on_read below outer paging access path (changed || more) memory)) before result now passes →
    Reaches (on_table below outer paging access at path changed found more memory) before result now passes
unfolding entry_of
reads-entry {before = before} {result = result} {now = now} {passes = passes} below at outer paging access table path changed more found memory entry end e place aligned h r =
    let index = index_at (suc below) access.page.0 in
    let next = on_read below outer paging access path (changed || more) memory in
    let read : entry_of (suc below) memory paging access (4096 * found.frame.0) ≡ looked end entry = subst (λ (l : ℕ). entry_of l memory paging access (4096 * found.frame.0) ≡ looked end entry) e h in
    let there : 4096 * found.frame.0 + 8 * index ≡ entry_place found at =
    sym (place-of table index found.frame.0 aligned (index-small (suc below) access.page.0)) ∙ ap (λ (x : ℕ). 4096 * found.frame.0 + x % 4096) (sym (same-place at table access.page.0 e place)) in
    subst (λ (x : ℕ). Reaches (on_entry (read_entry (suc below) paging access x (bytes_at memory x 8)) memory next) before result now passes) there
    (subst (λ (entry_read : Result Entry Walked). Reaches (on_entry entry_read memory next) before result now passes) (sym read) r)

-- what ends the walk at the entry
pub entry-ends : {end : Option Walked} {stopped : Walked} {result : Nested} (entry : Entry) (memory : List ℕ) (passes : List Pass) (next : Entry → Reached) →
    end ≡ Some stopped → result ≡ as_nested stopped → Reaches (on_entry (looked end entry) memory next) passes result memory passes
entry-ends {result = result} entry memory passes next e h = subst (λ (o : Option Walked). Reaches (on_entry (looked o entry) memory next) passes result memory passes) (sym e) (reaches-over passes h)

-- the walk goes on with the entry
reads-on : {level below : ℕ} {end : Option Walked} (leaf : Bool) (outer : Outer) (paging : Paging) (access : Access) (path : List Entry) (changed : Bool) (memory : List ℕ) (entry : Entry) (before : List Pass) (result : Nested) (now : List ℕ) (passes : List Pass) → level ≡ suc below → end ≡ None → is_leaf level entry.bits ≡ leaf →
    Reaches (if leaf then nested_leaf outer paging access (path ++ entry ∷ []) changed memory else nested_from below outer paging access (bit_and entry.bits address) (path ++ entry ∷ []) changed memory) before result now passes →
    Reaches (on_entry (looked end entry) memory (on_read below outer paging access path changed memory)) before result now passes
reads-on {below = below} leaf outer paging access path changed memory entry before result now passes l e b r =
    let table = bit_and entry.bits address in
    let longer = path ++ entry ∷ [] in
    let known : is_leaf (suc below) entry.bits ≡ leaf = subst (λ (l : ℕ). is_leaf l entry.bits ≡ leaf) l b in
    subst (λ (o : Option Walked). Reaches (on_entry (looked o entry) memory (on_read below outer paging access path changed memory)) before result now passes) (sym e)
    (subst (λ (x : Bool). Reaches (if x then nested_leaf outer paging access longer changed memory else nested_from below outer paging access table longer changed memory) before result now passes) (sym known) r)

pub leaf-next : {level : ℕ} {end : Option Walked} {longer : List Entry} {changed so_far : Bool} {before : List Pass} {result : Nested} {now : List ℕ} {passes : List Pass} (below : ℕ) (outer : Outer) (paging : Paging) (access : Access) (path : List Entry) (memory : List ℕ) (entry : Entry) →
    level ≡ suc below → end ≡ None → is_leaf level entry.bits ≡ true → longer ≡ path ++ entry ∷ [] → so_far ≡ changed →
    Reaches (nested_leaf outer paging access longer so_far memory) before result now passes →
    Reaches (on_entry (looked end entry) memory (on_read below outer paging access path changed memory)) before result now passes
leaf-next {longer = longer} {changed = changed} {so_far = so_far} {before = before} {result = result} {now = now} {passes = passes} below outer paging access path memory entry l e b p c r =
    reads-on true outer paging access path changed memory entry before result now passes l e b
    (subst (λ (es : List Entry). Reaches (nested_leaf outer paging access es changed memory) before result now passes) p
    (subst (λ (x : Bool). Reaches (nested_leaf outer paging access longer x memory) before result now passes) c r))

pub table-next : {level : ℕ} {end : Option Walked} {table : ℕ} {longer : List Entry} {changed so_far : Bool} {before : List Pass} {result : Nested} {now : List ℕ} {passes : List Pass} (below : ℕ) (outer : Outer) (paging : Paging) (access : Access) (path : List Entry) (memory : List ℕ) (entry : Entry) →
    level ≡ suc below → end ≡ None → is_leaf level entry.bits ≡ false → table ≡ bit_and entry.bits address → longer ≡ path ++ entry ∷ [] → so_far ≡ changed →
    Reaches (nested_from below outer paging access table longer so_far memory) before result now passes →
    Reaches (on_entry (looked end entry) memory (on_read below outer paging access path changed memory)) before result now passes
table-next {table = table} {longer = longer} {changed = changed} {so_far = so_far} {before = before} {result = result} {now = now} {passes = passes} below outer paging access path memory entry l e b t p c r =
    let next = bit_and entry.bits address in
    reads-on false outer paging access path changed memory entry before result now passes l e b
    (subst (λ (x : ℕ). Reaches (nested_from below outer paging access x (path ++ entry ∷ []) changed memory) before result now passes) t
    (subst (λ (es : List Entry). Reaches (nested_from below outer paging access table es changed memory) before result now passes) p
    (subst (λ (x : Bool). Reaches (nested_from below outer paging access table longer x memory) before result now passes) c r)))

-- The level of the next table.

pub level-below : (level : ℕ) → 1 ≤ level → level ≡ suc (level - 1)
level-below level h = omega arith

-- an entry that is no leaf is above level 1
pub leads-below : (level bits : ℕ) → 1 ≤ level → is_leaf level bits ≡ false → 1 ≤ level - 1
leads-below zero bits h e = absurd (omega arith)
leads-below (suc zero) bits h e = absurd (cc)
leads-below (suc (suc below)) bits h e = omega arith

-- The final page.

-- what follows a final page that has passed
abbrev pub on_final : FoundLeaf → Bool → FoundLeaf → Bool → List ℕ → Reached
on_final leaf changed found more m = over (nested.Leaf (both leaf found) leaf.frame (changed || more)) m

-- the final page of this leaf
abbrev pub last_of : Outer → Access → FoundLeaf → Bool → List ℕ → Reached
last_of outer access leaf changed memory =
    if is_barred outer leaf.frame.0 then over (nested.Bar leaf changed) memory
    else passing outer memory leaf.frame.0 access.kind (final_fault leaf.frame.0) (on_final leaf changed)

from-last : (outer : Outer) (paging : Paging) (access : Access) (path : List Entry) (changed : Bool) (memory : List ℕ) (leaf : FoundLeaf) (before : List Pass) (result : Nested) (now : List ℕ) (passes : List Pass) →
    leaf ≡ leaf_of paging access path → Reaches (last_of outer access leaf changed memory) before result now passes → Reaches (nested_last outer paging access path changed memory) before result now passes
unfolding nested_last
from-last outer paging access path changed memory leaf before result now passes e r = subst (λ (l : FoundLeaf). Reaches (last_of outer access l changed memory) before result now passes) e r

pub last-barred : (outer : Outer) (paging : Paging) (access : Access) (path : List Entry) (changed : Bool) (memory : List ℕ) (leaf : FoundLeaf) (passes : List Pass) →
    leaf ≡ leaf_of paging access path → is_barred outer leaf.frame.0 ≡ true → Reaches (nested_last outer paging access path changed memory) passes (nested.Bar leaf changed) memory passes
last-barred outer paging access path changed memory leaf passes e b =
    let rest = passing outer memory leaf.frame.0 access.kind (final_fault leaf.frame.0) (on_final leaf changed) in
    from-last outer paging access path changed memory leaf passes (nested.Bar leaf changed) memory passes e
    (subst (λ (bar : Bool). Reaches (if bar then over (nested.Bar leaf changed) memory else rest) passes (nested.Bar leaf changed) memory passes) (sym b) (reaches-over passes refl))

pub last-passes : (outer : Outer) (paging : Paging) (access : Access) (path : List Entry) (changed : Bool) (memory : List ℕ) (leaf : FoundLeaf) (before : List Pass) (result : Nested) (now : List ℕ) (passes : List Pass) →
    leaf ≡ leaf_of paging access path → is_barred outer leaf.frame.0 ≡ false →
    Reaches (passing outer memory leaf.frame.0 access.kind (final_fault leaf.frame.0) (on_final leaf changed)) before result now passes → Reaches (nested_last outer paging access path changed memory) before result now passes
last-passes outer paging access path changed memory leaf before result now passes e b r =
    let rest = passing outer memory leaf.frame.0 access.kind (final_fault leaf.frame.0) (on_final leaf changed) in
    from-last outer paging access path changed memory leaf before result now passes e
    (subst (λ (bar : Bool). Reaches (if bar then over (nested.Bar leaf changed) memory else rest) before result now passes) (sym b) r)
