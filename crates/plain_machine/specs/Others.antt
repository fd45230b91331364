-- Whose memory an event leaves.
use Rattle.std.specs.Prelude.{◌≡◌, ℕ, List, Option, Some, None, slice_get}
use Rattle.svm_model.specs.Machine.Guest.{Guest}
use Rattle.svm_model.specs.Machine.World.{World}
use Rattle.svm_model.specs.declared.names.Event.{Event}
use Rattle.svm_model.specs.declared.names.Event.TheVariants.{Run}
use Rattle.svm_model.specs.declared.names.VcpuId.{VcpuId}

abbrev pub memory_of : Option Guest → Option (List ℕ)
memory_of None = None
memory_of (Some guest) = Some guest.memory

-- no vcpu of the guest is placed there
abbrev pub IsNotOf : ℕ → Option (Option VcpuId) → Type 0
IsNotOf guest None = Unit {0}
IsNotOf guest (Some None) = Unit {0}
IsNotOf guest (Some (Some id)) = id.guest.0 ≡ guest → ⊥

-- the event gives no vcpu of the guest a turn
abbrev pub HasNoTurn : World → Event → ℕ → Type 0
HasNoTurn w (Run cpu) guest = IsNotOf guest (slice_get w.placing cpu.0)
HasNoTurn w _ guest = Unit {0}

-- the memory of each guest of which no vcpu has a turn stays
abbrev pub OthersStay : World → Event → World → Type 0
OthersStay old event new =
    (guest : ℕ) → HasNoTurn old event guest → memory_of (slice_get new.guests guest) ≡ memory_of (slice_get old.guests guest)
