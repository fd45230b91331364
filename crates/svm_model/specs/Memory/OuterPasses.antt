-- A pass through the outer tables (volume 2, 'Nested Paging').
use Rattle.std.specs.Prelude.{ℕ, ◌+◌, ◌*◌, ◌^◌, List, [], ◌∷◌, ◌++◌, Bool, true, false}
use Rattle.svm_model.specs.Memory.PageTables.{walked}
use Rattle.svm_model.specs.declared.names.Access.{Access}
use Rattle.svm_model.specs.declared.names.Kind.{Kind}
use Rattle.svm_model.specs.declared.page_tables.Leaf.{Leaf as FoundLeaf}
use Rattle.svm_model.specs.declared.page_tables.Nested.{Nested}
use Rattle.svm_model.specs.declared.page_tables.Nested.TheVariants as nested
use Rattle.svm_model.specs.declared.page_tables.Nesting.{Nesting}
use Rattle.svm_model.specs.declared.page_tables.Outer.{Outer}
use Rattle.svm_model.specs.declared.page_tables.Outer.TheVariants.{Direct, Tables}
use Rattle.svm_model.specs.declared.page_tables.PageSize.TheVariants.{Small}
use Rattle.svm_model.specs.declared.page_tables.Paging.{Paging}
use Rattle.svm_model.specs.declared.page_tables.Pass.{Pass}
use Rattle.svm_model.specs.declared.page_tables.Walked.{Walked}
use Rattle.svm_model.specs.declared.page_tables.Walked.TheVariants.{Leaf, PageFault, Ended}

-- the outer level takes every pass for a user's, heeds L1's EFER.NXE, and ignores G
abbrev pub outer_paging : Nesting → Paging
outer_paging n = record { root = n.root; write_protect = true; no_execute = n.no_execute; page_global = false }

abbrev pub pass_access : ℕ → Kind → Access
pass_access page kind = record { page = record { 0 = page }; kind = kind; user = true }

-- memory that is reached directly has each page where it is, with all rights
abbrev pub whole_leaf : ℕ → FoundLeaf
whole_leaf page = record {
  frame = record { 0 = page };
  size = Small;
  global = false;
  writable = true;
  user = true;
  executable = true;
  dirty = true;
}

-- the pass of a guest-physical page, and memory after it
abbrev pub passed : Outer → List ℕ → ℕ → Kind → Walked × List ℕ
passed Direct memory page kind = (Leaf (whole_leaf page) false, memory)
passed (Tables n) memory page kind = walked memory (outer_paging n) (pass_access page kind)

-- it is told, where there are outer tables
abbrev pub pass_told : Outer → List ℕ → ℕ → Kind → List Pass
pass_told Direct memory page kind = []
pass_told (Tables n) memory page kind =
    record { page = record { 0 = page }; kind = kind; walked = (walked memory (outer_paging n) (pass_access page kind)).0 } ∷ []

-- the code of a nested fault has bit 33 for a table, whose entry has this address
abbrev pub table_fault : ℕ → ℕ → Nested
table_fault at code = nested.NestedFault (code + 2 ^ 33) at

-- and bit 32 for the final page
abbrev pub final_fault : ℕ → ℕ → Nested
final_fault page code = nested.NestedFault (code + 2 ^ 32) (4096 * page)

-- What a walk comes to.

-- its answer, memory after it, and the passes in order
pub record Reached : Type 0 where
  pub answer : Nested
  pub memory : List ℕ
  pub passes : List Pass

abbrev pub over : Nested → List ℕ → Reached
over answer memory = record { answer = answer; memory = memory; passes = [] }

abbrev pub behind : List Pass → Reached → Reached
behind passes r = record { answer = r.answer; memory = r.memory; passes = passes ++ r.passes }

-- a pass goes on at its leaf
abbrev pub on_pass : Walked → List ℕ → (ℕ → Nested) → (FoundLeaf → Bool → List ℕ → Reached) → Reached
on_pass (Leaf leaf changed) memory refusal next = next leaf changed memory
on_pass (PageFault code) memory refusal next = over (refusal code) memory
on_pass (Ended outside) memory refusal next = over (nested.Ended outside) memory

-- a page is passed on, which is told whatever comes of it
abbrev pub passing : Outer → List ℕ → ℕ → Kind → (ℕ → Nested) → (FoundLeaf → Bool → List ℕ → Reached) → Reached
passing outer memory page kind refusal next =
    let pass = passed outer memory page kind in
    behind (pass_told outer memory page kind) (on_pass pass.0 pass.1 refusal next)
