-- What a traced run keeps and prints: a copy of the guests' memories, which takes over what each event changes.
use Rattle.std.specs.Prelude.{◌≡◌, ◌<◌, ℕ, List, [], false, length, map, slice_get, slice_set, slice_index_or, Option, Some, None}
use Rattle.svm_model.specs.Formats.Text.{◌⧺◌}
use Rattle.svm_model.specs.Formats.Trace.{memory_lines, memory_of, ran_line}
use Rattle.svm_model.specs.Machine.Guest.{Guest}
use Rattle.svm_model.specs.Machine.Shapes.{world_shape, IsVcpu}
use Rattle.svm_model.specs.Machine.World.{World}
use Rattle.svm_model.specs.Memory.Bytes.{page_at}
use Rattle.svm_model.specs.declared.names.VcpuId.{VcpuId}
use Rattle.plain_machine.specs.Machines.{Machine}
use Rattle.plain_machine.specs.Marks.{is_written}

-- the memories of guests
abbrev pub memories_in : List Guest → List (List ℕ)
memories_in guests = map (λ (guest : Guest). guest.memory) guests

-- the copy of a guest's memory
abbrev pub copy_of : List (List ℕ) → ℕ → List ℕ
copy_of copies guest = slice_index_or copies guest []

-- the memory of a guest
abbrev pub memory_in : World → ℕ → List ℕ
memory_in w guest = memory_of (slice_get w.guests guest)

-- a guest of a machine has a copy of its size, and of each page that is not marked its bytes
pub record IsCopied (copies : List (List ℕ)) (machine : Machine) (guest : ℕ) : Type 0 where
  pub there : guest < length machine.world.guests
  pub copied : guest < length copies
  pub size : length (copy_of copies guest) ≡ length (memory_in machine.world guest)
  pub told : (page : ℕ) → is_written machine guest page ≡ false → page_at (memory_in machine.world guest) page ≡ page_at (copy_of copies guest) page

-- the vcpu that ran is there, and its guest has a copy
pub record HasRun (copies : List (List ℕ)) (machine : Machine) (id : VcpuId) : Type 0 where
  pub vcpu : IsVcpu (world_shape machine.world) id
  pub guest : IsCopied copies machine id.guest.0

abbrev pub MayHaveRun : List (List ℕ) → Machine → Option VcpuId → Type 0
MayHaveRun copies machine None = Unit {0}
MayHaveRun copies machine (Some id) = HasRun copies machine id

-- the lines of what changed in the memory of the guest of the vcpu that ran
abbrev pub changes_of : List (List ℕ) → World → Option VcpuId → List ℕ
changes_of copies w None = []
changes_of copies w (Some id) = memory_lines id.guest.0 (copy_of copies id.guest.0) (memory_in w id.guest.0)

-- the copies that take it over
abbrev pub copies_after : List (List ℕ) → World → Option VcpuId → List (List ℕ)
copies_after copies w None = copies
copies_after copies w (Some id) = slice_set copies id.guest.0 (memory_in w id.guest.0)

-- what is told of the vcpu that ran
abbrev pub ran_lines : List (List ℕ) → World → Option VcpuId → List ℕ
ran_lines copies w ran = ran_line w ran ⧺ changes_of copies w ran
