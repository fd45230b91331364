-- The leaves that are kept of a place: those of its records, the oldest first and each once.
use Rattle.std.specs.Prelude.{ℕ, ◌==◌, ◌&&◌, List, [], ◌∷◌, ◌++◌, Bool, true, false, Option, None, Some, if◌then◌else◌}
use Rattle.std.specs.Bool.{beq}
use Rattle.std.specs.List.{list_any}
use Rattle.svm_model.specs.declared.audits.Remembered.{Remembered}
use Rattle.svm_model.specs.declared.page_tables.Leaf.{Leaf}
use Rattle.svm_model.specs.declared.page_tables.PageSize.{PageSize}
use Rattle.svm_model.specs.declared.page_tables.PageSize.TheVariants.{Small, Large, Huge}
use Rattle.rule_memory.specs.declared.places.Place.{Place}

abbrev pub size_number : PageSize → ℕ
size_number Small = 0
size_number Large = 1
size_number Huge = 2

abbrev pub same_leaf : Leaf → Leaf → Bool
same_leaf a b =
    (a.frame.0 == b.frame.0) && (size_number a.size == size_number b.size) && beq a.global b.global && beq a.writable b.writable
    && beq a.user b.user && beq a.executable b.executable && beq a.dirty b.dirty

-- of a page of 1 GiB
abbrev pub is_huge_size : PageSize → Bool
is_huge_size Small = false
is_huge_size Large = false
is_huge_size Huge = true

abbrev pub is_huge : Leaf → Bool
is_huge leaf = is_huge_size leaf.size

abbrev pub found_huge : Option Leaf → Bool
found_huge None = false
found_huge (Some leaf) = is_huge leaf

-- a leaf that is there stays where it is
abbrev pub added : Leaf → List Leaf → List Leaf
added leaf leaves = if list_any (same_leaf leaf) leaves then leaves else leaves ++ leaf ∷ []

abbrev pub added_option : Option Leaf → List Leaf → List Leaf
added_option None leaves = leaves
added_option (Some leaf) leaves = added leaf leaves

-- the record is of the place, among those of the place's vcpu
abbrev pub is_at : Place → Remembered → Bool
is_at place r = (r.asid == place.space.asid) && beq r.nested place.space.nested && (r.page.0 == place.page)

-- of records that have the newest first
abbrev pub leaves_at : Place → List Remembered → List Leaf
leaves_at place [] = []
leaves_at place (r ∷ older) = if is_at place r then added r.leaf (leaves_at place older) else leaves_at place older
