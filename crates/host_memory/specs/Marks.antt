-- The marks of pages that a write touches.
use Rattle.std.specs.Prelude.{◌≡◌, ℕ, ◌+◌, ◌-◌, ◌*◌, ◌/◌, ◌<◌, List, Bool, true, false, length, take, drop, replicate, slice_set, if◌then◌else◌}
use Rattle.svm_model.specs.Memory.Bytes.{Host}
use Rattle.svm_model.specs.declared.windows.GuestWindow.{GuestWindow}

-- the marks as a write finds them: where none has come yet there are none
abbrev pub marks_of : Host → List Bool
marks_of host = if host.is_changed then host.written else replicate (length host.written) false

abbrev pub with_mark : ℕ → List Bool → List Bool
with_mark at marks = slice_set marks (at / 4096) true

-- the memory behind a write of up to 4096 bytes: the pages of the first and of the last are marked
abbrev pub marked : Host → ℕ → ℕ → Host
marked host at length = record { bytes = host.bytes; is_changed = true; written = with_mark (at + length - 1) (with_mark at (marks_of host)) }

-- a page has one of so many bytes
pub record IsTouched (page at length : ℕ) : Type 0 where
  pub before_its_end : at < 4096 * page + 4096
  pub behind_its_front : 4096 * page < at + length

-- no byte outside the window has changed
pub record SameAround (window : GuestWindow) (old new : List ℕ) : Type 0 where
  pub size : length new ≡ length old
  pub before : take window.base new ≡ take window.base old
  pub after : drop (window.base + window.size) new ≡ drop (window.base + window.size) old
