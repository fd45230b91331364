-- The page walk over four levels of tables (volume 2, 'Long-Mode Page Translation').
use Rattle.std.specs.Prelude.{◌≡◌, ℕ, ◌+◌, ◌*◌, ◌/◌, ◌%◌, ◌^◌, ◌<◌, suc, zero, List, [], ◌∷◌, Bool, true, false, ◌==◌, ◌&&◌, ◌||◌, not, length, if◌then◌else◌, Result, Ok, Err, bit_and, bit_or}
use Rattle.std.specs.List.{list_all, list_any}
use Rattle.std.specs.Int.{w64, to_le_bytes, from_le_bytes}
use Rattle.svm_model.specs.Memory.Bits.{has, bits_where}
use Rattle.svm_model.specs.Memory.Bytes.{bytes_at, put_at}
use Rattle.svm_model.specs.declared.names.Access.{Access}
use Rattle.svm_model.specs.declared.page_tables.Entry.{Entry}
use Rattle.svm_model.specs.declared.page_tables.Leaf.{Leaf as FoundLeaf}
use Rattle.svm_model.specs.declared.page_tables.PageSize.{PageSize}
use Rattle.svm_model.specs.declared.page_tables.PageSize.TheVariants.{Small, Large, Huge}
use Rattle.svm_model.specs.declared.page_tables.Paging.{Paging}
use Rattle.svm_model.specs.declared.page_tables.Walked.{Walked}
use Rattle.svm_model.specs.declared.page_tables.Walked.TheVariants.{Leaf, PageFault, Ended}
use Rattle.svm_model.specs.declared.windows.OutsideMemory.{OutsideMemory}
use Rattle.svm_model.specs.Memory.PageEntries.{present, writable, user, accessed, dirty, global, no_execute, address, is_write, is_fetch, fault_code, index_at, is_leaf, is_reserved}

-- an entry is looked at for P and then for its reserved bits
abbrev pub checked_entry : ℕ → Paging → Access → ℕ → ℕ → Result Entry Walked
checked_entry level paging access at bits =
    if not (has bits present) then Err (PageFault (fault_code false false paging access))
    else if is_reserved level paging bits then Err (PageFault (fault_code true true paging access))
    else Ok (record { at = at; bits = bits })

abbrev pub read_entry : ℕ → Paging → Access → ℕ → Result (List ℕ) OutsideMemory → Result Entry Walked
read_entry level paging access at (Ok bytes) = checked_entry level paging access at (from_le_bytes w64 bytes)
read_entry level paging access at (Err outside) = Err (Ended outside)

-- the entry of a table that the access uses: eight bytes, which may lie outside the memory
unfoldable pub entry_of : ℕ → List ℕ → Paging → Access → ℕ → Result Entry Walked
entry_of level memory paging access table =
    let at = table + 8 * index_at level access.page.0 in read_entry level paging access at (bytes_at memory at 8)

infixl 10 ◌>>=◌
abbrev pub ◌>>=◌ : {A B : Type 0} → Result A Walked → (A → Result B Walked) → Result B Walked
(Ok x) >>= f = f x
(Err e) >>= f = Err e

-- the used entries from a table down to the leaf, the topmost first
unfoldable pub path_from : ℕ → List ℕ → Paging → Access → ℕ → Result (List Entry) Walked
path_from zero memory paging access table = Ok []
path_from (suc below) memory paging access table = do
  entry ← entry_of (suc below) memory paging access table
  if is_leaf (suc below) entry.bits then Ok (entry ∷ []) else (path_from below memory paging access (bit_and entry.bits address) >>= λ path. Ok (entry ∷ path))

-- the used entries from the root, CR3 bits 39:12
abbrev pub path_of : List ℕ → Paging → Access → Result (List Entry) Walked
path_of memory paging access = path_from 4 memory paging access (bit_and paging.root address)

-- each entry of the path has the bit
abbrev pub all_have : List Entry → ℕ → Bool
all_have path bit = list_all (λ e. has e.bits bit) path

-- some entry of the path has the bit
abbrev pub some_has : List Entry → ℕ → Bool
some_has path bit = list_any (λ e. has e.bits bit) path

-- the leaf's bits
abbrev pub leaf_bits : List Entry → ℕ
leaf_bits [] = 0
leaf_bits (e ∷ []) = e.bits
leaf_bits (e ∷ f ∷ path) = leaf_bits (f ∷ path)

-- a path of four entries leads to a page of 4 KiB, one of three to 2 MiB, one of two to 1 GiB
abbrev pub size_of : ℕ → PageSize
size_of count = if count == 4 then Small else if count == 3 then Large else Huge

-- the frame of the accessed page of 4 KiB: the leaf's address above the page's size, the page number below it
abbrev pub frame_in : PageSize → ℕ → ℕ → ℕ
frame_in Small first page = first
frame_in Large first page = first / 512 * 512 + page % 512
frame_in Huge first page = first / 0x4_0000 * 0x4_0000 + page % 0x4_0000

-- the translation: its rights are those that every entry gives
unfoldable pub leaf_of : Paging → Access → List Entry → FoundLeaf
leaf_of paging access path = record {
  frame = record { 0 = frame_in (size_of (length path)) (bit_and (leaf_bits path) address / 4096) access.page.0 };
  size = size_of (length path);
  global = has (leaf_bits path) global && paging.page_global;
  writable = all_have path writable;
  user = all_have path user;
  executable = not (some_has path no_execute);
  dirty = has (leaf_bits path) dirty || is_write access.kind;
}

-- a supervisor's write heeds the right to write only where CR0.WP is 1
unfoldable pub allows : Paging → Access → FoundLeaf → Bool
allows paging access leaf =
    (leaf.user || not access.user) && (leaf.writable || not (is_write access.kind) || not (access.user || paging.write_protect)) && (leaf.executable || not (is_fetch access.kind))

-- an A bit, or the leaf's D bit at a write, is still to be set
unfoldable pub is_changed : Access → List Entry → Bool
is_changed access path = not (all_have path accessed) || (is_write access.kind && not (has (leaf_bits path) dirty))

-- memory with A set in each used entry, and D too in the leaf of a write
unfoldable pub marked : Access → List ℕ → List Entry → List ℕ
marked access memory [] = memory
marked access memory (e ∷ []) = put_at memory e.at (to_le_bytes w64 (bit_or e.bits (accessed + bits_where (is_write access.kind) dirty)))
marked access memory (e ∷ f ∷ path) = marked access (put_at memory e.at (to_le_bytes w64 (bit_or e.bits accessed))) (f ∷ path)

-- the answer, and memory after it
abbrev pub answered : List ℕ → Paging → Access → Result (List Entry) Walked → Walked × List ℕ
answered memory paging access (Err end) = (end, memory)
answered memory paging access (Ok path) =
    let leaf = leaf_of paging access path in
    if allows paging access leaf then (Leaf leaf (is_changed access path), if is_changed access path then marked access memory path else memory)
    else (PageFault (fault_code true false paging access), memory)

-- The walk: the page's leaf, where the path to it is there and its rights allow the access. A fault or an end changes nothing.
unfoldable pub walked : List ℕ → Paging → Access → Walked × List ℕ
walked memory paging access = answered memory paging access (path_of memory paging access)

-- a leaf's frame has 28 bits, as a physical address has 40
abbrev pub HasFrame : Walked → Type 0
HasFrame (Leaf leaf changed) = leaf.frame.0 < 2 ^ 28
HasFrame (PageFault code) = Unit {0}
HasFrame (Ended outside) = Unit {0}

-- a path that was read is the one that is there
abbrev pub GivesPath : {A : Type 0} → (A → List Entry) → Result A Walked → Result (List Entry) Walked → Type 0
GivesPath view (Ok path) expected = expected ≡ Ok (view path)
GivesPath view (Err end) expected = expected ≡ Err end
