-- The machine in clauses, and its guests and vcpus by their names.
use Rattle.std.specs.Prelude.{ℕ, List, Bool, Option, Some, None, slice_get}
use Rattle.svm_model.specs.Machine.Apic.{Apic}
use Rattle.svm_model.specs.Machine.Guest.{Guest}
use Rattle.svm_model.specs.Machine.World.{World}
use Rattle.svm_model.specs.declared.names.GuestId.{GuestId}
use Rattle.svm_model.specs.declared.names.VcpuId.{VcpuId}
use Rattle.svm_model.specs.declared.vcpus.Vcpu.{Vcpu}

-- which pages of the guests' memories are marked as written: whether any is, the mark of each page of the memory of all, and
-- the number there of each guest's first page
pub record Marks : Type 0 where
  pub is_changed : Bool
  pub pages : List Bool
  pub firsts : List ℕ

-- the machine: its world, whether it is stopped, since the bus refused what an event handed it, and the marks of its pages
pub record Machine : Type 0 where
  pub world : World
  pub stopped : Bool
  pub marks : Marks

-- the guest of that name
abbrev pub guest_in : World → GuestId → Option Guest
guest_in w id = slice_get w.guests id.0

abbrev pub vcpu_of : Option Guest → ℕ → Option Vcpu
vcpu_of None index = None
vcpu_of (Some guest) index = slice_get guest.vcpus index

abbrev pub apic_of : Option Guest → ℕ → Option Apic
apic_of None index = None
apic_of (Some guest) index = slice_get guest.apics index

-- the APIC of the vcpu of that name
abbrev pub apic_in : World → VcpuId → Option Apic
apic_in w id = apic_of (guest_in w id.guest) id.index

-- the vcpu of that name
abbrev pub vcpu_in : World → VcpuId → Option Vcpu
vcpu_in w id = vcpu_of (guest_in w id.guest) id.index
