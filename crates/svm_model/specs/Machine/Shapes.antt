-- What events name: processors, vcpus and bytes of memory that are there.
use Rattle.std.specs.Prelude.{◌≡◌, ℕ, ◌+◌, ◌*◌, ◌%◌, ◌≤◌, List, Option, Some, length, map, slice_get, ◌<◌}
use Rattle.std.specs.List.{All}
use Rattle.svm_model.specs.Machine.Bus.{device_count}
use Rattle.svm_model.specs.Machine.Guest.{Guest}
use Rattle.svm_model.specs.Formats.Image.{Image}
use Rattle.svm_model.specs.declared.names.Event.{Event}
use Rattle.svm_model.specs.declared.names.Event.TheVariants.{Place, Run, Feed, Irq, Nmi, Unplug, Dump}
use Rattle.svm_model.specs.declared.names.GuestId.{GuestId}
use Rattle.svm_model.specs.declared.names.VcpuId.{VcpuId}
use Rattle.svm_model.specs.Machine.World.{World}

-- the number of processors; of each guest that of its vcpus, and that of the bytes of its memory
pub record Shape : Type 0 where
  pub cpus : ℕ
  pub vcpus : List ℕ
  pub sizes : List ℕ

abbrev pub image_shape : Image → Shape
image_shape image = record {
  cpus = image.cpus;
  vcpus = map (λ guest. length guest.vcpus) image.guests;
  sizes = map (λ guest. 4096 * guest.pages) image.guests;
}

abbrev pub world_shape : World → Shape
world_shape w = record {
  cpus = w.cpus;
  vcpus = map (λ guest. length guest.vcpus) w.guests;
  sizes = map (λ guest. length guest.memory) w.guests;
}

abbrev pub IsVcpu : Shape → VcpuId → Type 0
IsVcpu shape id = (count : ℕ) × (slice_get shape.vcpus id.guest.0 ≡ Some count) × (id.index < count)

-- the most bytes that a dump shows
abbrev pub dump_limit : ℕ
dump_limit = 256

-- the guest is there, and its memory has the bytes, of which there is one at least
pub record IsShown (shape : Shape) (guest : GuestId) (address length : ℕ) : Type 0 where
  pub size : ℕ
  pub there : slice_get shape.sizes guest.0 ≡ Some size
  pub some : 1 ≤ length
  pub most : length ≤ dump_limit
  pub within : address + length ≤ size

-- an event names processors, vcpus, devices and bytes that are there
abbrev pub IsNamed : Shape → Event → Type 0
IsNamed shape (Place cpu id) = (cpu.0 < shape.cpus) × IsVcpu shape id
IsNamed shape (Run cpu) = cpu.0 < shape.cpus
IsNamed shape (Feed device value) = device < device_count
IsNamed shape (Irq id vector) = IsVcpu shape id
IsNamed shape (Nmi id) = IsVcpu shape id
IsNamed shape (Unplug device) = device < device_count
IsNamed shape (Dump guest address length) = IsShown shape guest address length

-- What holds of each world.

-- no vcpu stands on two processors
abbrev pub IsOneToOne : List (Option VcpuId) → Type 0
IsOneToOne placing =
    (cpu other : ℕ) (id : VcpuId) → slice_get placing cpu ≡ Some (Some id) → slice_get placing other ≡ Some (Some id) → cpu ≡ other

-- each processor has a place, each placed vcpu is there and stands on one processor alone, and memory has whole pages
pub record IsWellFormed (w : World) : Type 0 where
  pub processors : length w.placing ≡ w.cpus
  pub there : (cpu : ℕ) (id : VcpuId) → slice_get w.placing cpu ≡ Some (Some id) → IsVcpu (world_shape w) id
  pub one_to_one : IsOneToOne w.placing
  pub pages : All (λ (guest : Guest). length guest.memory % 4096 ≡ 0) w.guests
