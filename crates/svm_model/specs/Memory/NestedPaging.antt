-- The walk over both levels of tables (volume 2, 'Nested Paging'). It is the walk of one level, with each guest-physical
-- address passed through the outer tables before it is used: the addresses of table entries as writes, the final page by
-- the kind of the access. What the walk has so far is an argument of each step, so that a walk can be taken up where a pass
-- was not answered.
use Rattle.std.specs.Prelude.{ℕ, ◌+◌, ◌*◌, ◌/◌, ◌%◌, suc, zero, List, [], ◌∷◌, ◌++◌, Bool, true, false, ◌==◌, ◌&&◌, ◌||◌, if◌then◌else◌, Option, Some, None, Result, Ok, Err, take, drop, bit_and, bit_or}
use Rattle.std.specs.Int.{w64, to_le_bytes, from_le_bytes}
use Rattle.svm_model.specs.Memory.Bits.{bits_where}
use Rattle.svm_model.specs.Memory.Bytes.{bytes_at, put_at}
use Rattle.svm_model.specs.Memory.PageEntries.{accessed, dirty, address, is_write, fault_code, index_at, is_leaf}
use Rattle.svm_model.specs.Memory.PageTables.{read_entry, leaf_of, allows, is_changed, marked, walked}
use Rattle.svm_model.specs.declared.names.Access.{Access}
use Rattle.svm_model.specs.declared.names.Frame.{Frame}
use Rattle.svm_model.specs.declared.names.Kind.TheVariants.{Write}
use Rattle.svm_model.specs.declared.page_tables.Entry.{Entry}
use Rattle.svm_model.specs.declared.page_tables.Leaf.{Leaf as FoundLeaf}
use Rattle.svm_model.specs.declared.page_tables.Nested.{Nested}
use Rattle.svm_model.specs.declared.page_tables.Nested.TheVariants as nested
use Rattle.svm_model.specs.declared.page_tables.Outer.{Outer}
use Rattle.svm_model.specs.declared.page_tables.Outer.TheVariants.{Direct, Tables}
use Rattle.svm_model.specs.declared.page_tables.Paging.{Paging}
use Rattle.svm_model.specs.declared.page_tables.Walked.{Walked}
use Rattle.svm_model.specs.declared.page_tables.Walked.TheVariants.{Leaf, PageFault, Ended}
use Rattle.svm_model.specs.Memory.OuterPasses.{table_fault, final_fault, Reached, over, passing}

-- The final page.

-- the frame of the outer level, the rights of both, the size and the global mark of the guest's leaf
abbrev pub both : FoundLeaf → FoundLeaf → FoundLeaf
both leaf outer = record {
  frame = outer.frame;
  size = leaf.size;
  global = leaf.global;
  writable = outer.writable && leaf.writable;
  user = outer.user && leaf.user;
  executable = outer.executable && leaf.executable;
  dirty = outer.writable && outer.dirty && leaf.dirty;
}

abbrev pub is_frame : Option Frame → ℕ → Bool
is_frame None page = false
is_frame (Some frame) page = frame.0 == page

-- the page of the local APIC is not passed on
abbrev pub is_barred : Outer → ℕ → Bool
is_barred Direct page = false
is_barred (Tables n) page = is_frame n.bar page

-- the leaf was found and marked: its page is passed by the kind of the access
unfoldable pub nested_last : Outer → Paging → Access → List Entry → Bool → List ℕ → Reached
nested_last outer paging access path changed memory =
    let leaf = leaf_of paging access path in
    if is_barred outer leaf.frame.0 then over (nested.Bar leaf changed) memory
    else passing outer memory leaf.frame.0 access.kind (final_fault leaf.frame.0)
    (λ found more m. over (nested.Leaf (both leaf found) leaf.frame (changed || more)) m)

-- Marks.

-- a word of memory with bits set, whatever it holds by now: a pass may have marked it meanwhile
abbrev pub with_marks : List ℕ → ℕ → ℕ → List ℕ
with_marks memory at bits = put_at memory at (to_le_bytes w64 (bit_or (from_le_bytes w64 (take 8 (drop at memory))) bits))

-- memory with A set in each used entry, and D too in the leaf of a write
unfoldable pub marked_now : Access → List ℕ → List Entry → List ℕ
marked_now access memory [] = memory
marked_now access memory (e ∷ []) = with_marks memory e.at (accessed + bits_where (is_write access.kind) dirty)
marked_now access memory (e ∷ f ∷ path) = marked_now access (with_marks memory e.at accessed) (f ∷ path)

-- directly, nothing has changed an entry since it was read
abbrev pub marked_over : Outer → Access → List ℕ → List Entry → List ℕ
marked_over Direct access memory path = marked access memory path
marked_over (Tables n) access memory path = marked_now access memory path

-- the leaf is found: where its rights allow the access the used entries are marked, before the final page is passed on
abbrev pub nested_leaf : Outer → Paging → Access → List Entry → Bool → List ℕ → Reached
nested_leaf outer paging access path changed memory =
    if allows paging access (leaf_of paging access path) then
    nested_last outer paging access path (changed || is_changed access path) (if is_changed access path then marked_over outer access memory path else memory)
    else over (nested.PageFault (fault_code true false paging access)) memory

-- The way down.

-- what stops a walk of one level stops it here too
abbrev pub as_nested : Walked → Nested
as_nested (Leaf leaf changed) = nested.Leaf leaf leaf.frame changed
as_nested (PageFault code) = nested.PageFault code
as_nested (Ended outside) = nested.Ended outside

-- the walk goes on with an entry that was read
abbrev pub on_entry : Result Entry Walked → List ℕ → (Entry → Reached) → Reached
on_entry (Ok entry) memory next = next entry
on_entry (Err end) memory next = over (as_nested end) memory

-- where an entry lies, once its page has passed
abbrev pub entry_place : FoundLeaf → ℕ → ℕ
entry_place found at = 4096 * found.frame.0 + at % 4096

-- The walk from a table on, with the entries used above it, whether a bit was set, and memory. The entry's address is passed
-- on as a write; the entry is read there, and looked at as in a walk of one level.
unfoldable pub nested_from : ℕ → Outer → Paging → Access → ℕ → List Entry → Bool → List ℕ → Reached
nested_from zero outer paging access table path changed memory = nested_leaf outer paging access path changed memory
nested_from (suc below) outer paging access table path changed memory =
    let at = table + 8 * index_at (suc below) access.page.0 in
    passing outer memory (at / 4096) Write (table_fault at)
    (λ found more m. on_entry (read_entry (suc below) paging access (entry_place found at) (bytes_at m (entry_place found at) 8)) m
    (λ entry. if is_leaf (suc below) entry.bits then nested_leaf outer paging access (path ++ entry ∷ []) (changed || more) m
    else nested_from below outer paging access (bit_and entry.bits address) (path ++ entry ∷ []) (changed || more) m))

-- the walk from the root, CR3 bits 39:12
unfoldable pub nested_walked : Outer → List ℕ → Paging → Access → Reached
nested_walked outer memory paging access = nested_from 4 outer paging access (bit_and paging.root address) [] false memory

abbrev pub reached_by : Walked × List ℕ → Reached
reached_by walk = over (as_nested walk.0) walk.1

-- The walk of an access over an outer level. Directly it is the walk of one level, with the same answer as `nested_walked`.
abbrev pub walked_over : Outer → List ℕ → Paging → Access → Reached
walked_over Direct memory paging access = reached_by (walked memory paging access)
walked_over (Tables n) memory paging access = nested_walked (Tables n) memory paging access
