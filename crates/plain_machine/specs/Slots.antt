-- A guest as the machine keeps it: its window of host memory in the place of its memory.
use Rattle.std.specs.Prelude.{◌≡◌, ℕ, ◌+◌, ◌%◌, ◌<◌, ◌≤◌, List, [], ◌∷◌, Option, Some, None, length, map, slice_get}
use Rattle.svm_model.specs.Machine.Apic.{Apic, expired}
use Rattle.svm_model.specs.Machine.Guest.{Guest}
use Rattle.svm_model.specs.Machine.Shapes.{IsOneToOne}
use Rattle.svm_model.specs.Memory.Bytes.{guest_of}
use Rattle.svm_model.specs.declared.names.Ended.{Ended}
use Rattle.svm_model.specs.declared.names.VcpuId.{VcpuId}
use Rattle.svm_model.specs.declared.vcpus.Vcpu.{Vcpu}
use Rattle.svm_model.specs.declared.windows.GuestWindow.{GuestWindow}

pub record Kept : Type 0 where
  pub window : GuestWindow
  pub ended : Option Ended
  pub vcpus : List Vcpu
  pub apics : List Apic

-- the guest that is kept, over these bytes of host memory
abbrev pub guest_at : List ℕ → Kept → Guest
guest_at bytes slot = record { memory = guest_of slot.window bytes; ended = slot.ended; vcpus = slot.vcpus; apics = slot.apics }

abbrev pub guests_at : List ℕ → List Kept → List Guest
guests_at bytes slots = map (guest_at bytes) slots

-- what no event changes of a guest: its window, and how many vcpus and APICs it has
pub record Layout : Type 0 where
  pub window : GuestWindow
  pub vcpus : ℕ
  pub apics : ℕ

abbrev pub layout : Kept → Layout
layout slot = record { window = slot.window; vcpus = length slot.vcpus; apics = length slot.apics }

abbrev pub layouts : List Kept → List Layout
layouts slots = map layout slots

-- a window of whole pages, of which there is one at least; an APIC for each vcpu, eight at most
pub record IsSlot (l : Layout) : Type 0 where
  pub pages : l.window.size % 4096 ≡ 0
  pub some : 4096 ≤ l.window.size
  pub apics : l.apics ≡ l.vcpus
  pub few : l.apics ≤ 8

-- The windows stand in a row from a place on, and all within so many bytes: no two have a byte in common.
abbrev pub AreInRow : ℕ → ℕ → List Layout → Type 0
AreInRow size from [] = from ≤ size
AreInRow size from (guest ∷ guests) =
    (guest.window.base ≡ from) × IsSlot guest × AreInRow size (from + guest.window.size) guests

-- the guests have a vcpu of that name
abbrev pub IsThere : List ℕ → VcpuId → Type 0
IsThere counts id = (count : ℕ) × (slice_get counts id.guest.0 ≡ Some count) × (id.index < count)

-- whoever is placed on a processor is there, and stands on no other
pub record AreThere (counts : List ℕ) (placing : List (Option VcpuId)) : Type 0 where
  pub there : (cpu : ℕ) (id : VcpuId) → slice_get placing cpu ≡ Some (Some id) → IsThere counts id
  pub one_to_one : IsOneToOne placing

-- how many vcpus each guest has
abbrev pub counts : List Layout → List ℕ
counts guests = map (λ (guest : Layout). guest.vcpus) guests

-- an APIC whose timer rings where it is due
abbrev pub rung : ℕ → Apic → Apic
rung event apic = expired apic event

-- the timers of a guest that is kept, unless it was ended
abbrev pub rung_if : ℕ → Kept → Option Ended → Kept
rung_if event slot (Some ended) = slot
rung_if event slot None = record slot { apics = map (rung event) slot.apics }

abbrev pub rung_slot : ℕ → Kept → Kept
rung_slot event slot = rung_if event slot slot.ended
