-- A nested walk in its midst: what is left of it after one pass more.
use Rattle.std.specs.Prelude.{ℕ, suc, zero, List, Bool}
use Rattle.svm_model.specs.declared.names.Access.{Access}
use Rattle.svm_model.specs.declared.page_tables.Entry.{Entry}
use Rattle.svm_model.specs.declared.page_tables.Outer.{Outer}
use Rattle.svm_model.specs.declared.page_tables.Paging.{Paging}
use Rattle.svm_model.specs.Memory.OuterPasses.{Reached}
use Rattle.svm_model.specs.Memory.NestedPaging.{nested_last, nested_from}

-- The pass that is next: of the entry of a table at this level, or at level 0 of the final page. What the walk has: the
-- table's guest-physical address, the entries used so far, and whether a bit was set.
pub record Halfway : Type 0 where
  pub level : ℕ
  pub table : ℕ
  pub path : List Entry
  pub changed : Bool

-- what is left of the walk
abbrev pub left_at : ℕ → Outer → Paging → Access → Halfway → List ℕ → Reached
left_at zero outer paging access cut memory = nested_last outer paging access cut.path cut.changed memory
left_at (suc below) outer paging access cut memory = nested_from (suc below) outer paging access cut.table cut.path cut.changed memory

abbrev pub left_of_walk : Outer → Paging → Access → Halfway → List ℕ → Reached
left_of_walk outer paging access cut memory = left_at cut.level outer paging access cut memory
