-- What a walk has read of the guest's tables.
use Rattle.std.specs.Prelude.{◌≡◌, ℕ, ◌+◌, ◌%◌, ◌^◌, ◌<◌, ◌≤◌, List, length, All}
use Rattle.svm_model.specs.declared.page_tables.Entry.{Entry}
use Rattle.page_walk.specs.PathBits.{Join}
use Rattle.nested_walk.specs.declared.walked_so_far.SoFar.{SoFar}

-- the entries lie within so many bytes
abbrev pub AreWithin : ℕ → List Entry → Type 0
AreWithin size path = All (λ e. e.at + 8 ≤ size) path

-- a table of this level is next, at the first byte of a page; the entries above it lie in a memory of this size
pub record IsRead (size level : ℕ) (so_far : SoFar) : Type 0 where
  pub low : so_far.table < 2 ^ 40
  pub aligned : so_far.table % 4096 ≡ 0
  pub levels : length so_far.path.items + level ≡ 4
  pub inside : AreWithin size so_far.path.items
  pub bits : Join so_far.bits so_far.path.items
