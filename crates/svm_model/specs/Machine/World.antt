-- The world of the plain machine: its guests, and the vcpu that is placed on each processor.
use Rattle.std.specs.Prelude.{ℕ, ◌+◌, ◌*◌, List, [], ◌∷◌, true, false, Option, None, map, replicate}
use Rattle.svm_model.specs.Machine.Apic.{Apic, first_apic}
use Rattle.svm_model.specs.Memory.Bytes.{put_at}
use Rattle.svm_model.specs.Machine.Guest.{Guest}
use Rattle.svm_model.specs.declared.vcpus.Vcpu.{Vcpu}
use Rattle.svm_model.specs.Formats.Image.{Image, ImageGuest, ImageSegment}
use Rattle.svm_model.specs.declared.names.VcpuId.{VcpuId}
use Rattle.svm_model.specs.declared.register_file.Registers.{Registers}

-- the image's version, features and processors; the guests; the vcpu that is placed on each processor; and how many
-- events there were
pub record World : Type 0 where
  pub version : ℕ
  pub features : ℕ
  pub cpus : ℕ
  pub guests : List Guest
  pub placing : List (Option VcpuId)
  pub event : ℕ

-- The world of an image: zeros, and over them the segments in order, so that the last one counts where several lie. No
-- vcpu is placed.
abbrev pub loaded : List ℕ → List ImageSegment → List ℕ
loaded memory [] = memory
loaded memory (segment ∷ segments) = loaded (put_at memory segment.address segment.bytes) segments

abbrev pub first_vcpu : Registers → Vcpu
first_vcpu registers = record {
  registers = registers;
  gif = true;
  nmi = false;
  nmi_blocked = false;
  held = None;
  halted = false;
  inside = None;
}

-- an APIC for each vcpu, whose identifier is the vcpu's number
unfoldable pub first_apics : ℕ → List Registers → List Apic
first_apics id [] = []
first_apics id (registers ∷ vcpus) = first_apic id ∷ first_apics (id + 1) vcpus

abbrev pub first_guest : ImageGuest → Guest
first_guest guest = record {
  memory = loaded (replicate (4096 * guest.pages) 0) guest.segments;
  ended = None;
  vcpus = map first_vcpu guest.vcpus;
  apics = first_apics 0 guest.vcpus;
}

unfoldable pub world_of : Image → World
world_of image = record {
  version = image.version;
  features = image.features;
  cpus = image.cpus;
  guests = map first_guest image.guests;
  placing = replicate image.cpus None;
  event = 0;
}
