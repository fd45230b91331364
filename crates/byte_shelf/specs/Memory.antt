-- What a shelf and a sink in memory tell.
use Rattle.std.specs.Prelude.{ℕ, List, [], map, drop, Bool, Option, Some, None, String, Vec, slice_get}
use Rattle.std.specs.Option.{option_and_then}
use Rattle.std.specs.List.{zip}
use Rattle.std.specs.String.{string_bytes}
use Rattle.byte_shelf.specs.Shelf.{Files}
use Rattle.fault_counts.specs.Numbered.{Numbered}

-- a shelf: its files, whether one is open, what is left of the last one that was, the count of faults, and its calls
pub record ShelfInMemory : Type 0 where
  pub files : Files
  pub is_open : Bool
  pub rest : List ℕ
  pub faults : ℕ
  pub calls : Numbered

-- a sink: the bytes that it has received, the count of faults, that of refusals for want of memory, and its calls
pub record SinkInMemory : Type 0 where
  pub written : List ℕ
  pub faults : ℕ
  pub refusals : ℕ
  pub calls : Numbered

-- the bytes of each file
abbrev pub contents : {A : Type 0} → List (Vec ℕ A) → List (List ℕ)
contents files = map (λ file. file.items) files

-- the names, each with the bytes of its file
abbrev pub files_of : {A B : Type 0} → List (String A) → List (Vec ℕ B) → Files
files_of names files = zip (map string_bytes names) (contents files)

-- the bytes of the file at an index
abbrev pub opened_of : {A : Type 0} → List (Vec ℕ A) → Option ℕ → Option (List ℕ)
opened_of files opened = option_and_then (λ index. slice_get (contents files) index) opened

-- the bytes of a file from a place on, and none where there is no file
abbrev pub left_of : Option (List ℕ) → ℕ → List ℕ
left_of None place = []
left_of (Some bytes) place = drop place bytes
