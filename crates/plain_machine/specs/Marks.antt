-- Which pages of the guests' memories are marked as written.
use Rattle.std.specs.Prelude.{◌≡◌, ℕ, ◌+◌, ◌/◌, ◌&&◌, Bool, true, false, List, Option, Some, None, map, slice_get, slice_index_or}
use Rattle.svm_model.specs.Formats.Trace.{memory_of}
use Rattle.svm_model.specs.Memory.Bytes.{Host, page_at}
use Rattle.plain_machine.specs.Machines.{Machine, Marks}
use Rattle.plain_machine.specs.Slots.{Layout}

abbrev pub first_page : Layout → ℕ
first_page guest = guest.window.base / 4096

-- the marks of a memory that holds the guests' windows
abbrev pub marks_in : Host → List Layout → Marks
marks_in host guests = record { is_changed = host.is_changed; pages = host.written; firsts = map first_page guests }

-- one of a guest that is not there counts as marked
abbrev pub mark_from : Bool → List Bool → Option ℕ → ℕ → Bool
mark_from is_changed pages None page = true
mark_from is_changed pages (Some first) page = is_changed && slice_index_or pages (first + page) true

-- whether a page of a guest is marked, by its number in the guest's memory
abbrev pub is_written : Machine → ℕ → ℕ → Bool
is_written machine guest page = mark_from machine.marks.is_changed machine.marks.pages (slice_get machine.marks.firsts guest) page

-- a page of a guest's memory
abbrev pub page_in : Machine → ℕ → ℕ → List ℕ
page_in machine guest page = page_at (memory_of (slice_get machine.world.guests guest)) page

-- no page has changed that is not marked, and no mark is gone
pub record ChangesAreMarked (old new : Machine) : Type 0 where
  pub unmarked : (guest page : ℕ) → is_written new guest page ≡ false → (is_written old guest page ≡ false) × (page_in new guest page ≡ page_in old guest page)
