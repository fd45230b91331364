-- Why an event is cut off, and what it leaves of the bus.
use Rattle.std.specs.Prelude.{◌≡◌, ◌⊎◌, ℕ, Option, Some, None, slice_get}
use Rattle.fault_counts.specs.Causes.{Rose}
use Rattle.svm_model.specs.Machine.Bus.{Bus}
use Rattle.svm_model.specs.Machine.Events.{with_timers}
use Rattle.svm_model.specs.Machine.Runs.{HandsOver, HandsOverOf}
use Rattle.svm_model.specs.Machine.Turns.{turn_of}
use Rattle.svm_model.specs.Machine.World.{World}
use Rattle.svm_model.specs.declared.names.Event.{Event}
use Rattle.svm_model.specs.declared.names.Event.TheVariants.{Run}
use Rattle.svm_model.specs.declared.names.RunEnd.{RunEnd}
use Rattle.svm_model.specs.declared.names.RunEnd.TheVariants.{NoMemory}
use Rattle.svm_model.specs.declared.names.VcpuId.{VcpuId}

-- the bus that an event leaves which is cut off, since the outward call of this number was refused
abbrev pub run_bus : ℕ → World → Bus → Option (Option VcpuId) → Bus
run_bus call w bus None = bus
run_bus call w bus (Some None) = bus
run_bus call w bus (Some (Some id)) = (turn_of (Some call) w bus id).bus

unfoldable pub bus_reached_of : ℕ → World → Bus → Event → Bus
bus_reached_of call w bus (Run cpu) = run_bus call w bus (slice_get w.placing cpu.0)
bus_reached_of call w bus _ = bus

abbrev pub bus_reached : ℕ → World → Bus → Event → Bus
bus_reached call w bus event = bus_reached_of call (with_timers w) bus event

-- a vcpu has a turn
abbrev pub IsPlaced : Option (Option VcpuId) → Type 0
IsPlaced None = ⊥
IsPlaced (Some None) = ⊥
IsPlaced (Some (Some id)) = Unit {0}

unfoldable pub HasTurn : World → Event → Type 0
HasTurn w (Run cpu) = IsPlaced (slice_get w.placing cpu.0)
HasTurn w _ = ⊥

-- What is handed over was refused, and the bus is as it was; or in a turn a notice was refused for want of memory, by one whose
-- count of refusals rose.
abbrev pub IsCutBy : Type 0 → Type 0 → RunEnd → Bus → Bus → ℕ → ℕ → Type 0
IsCutBy HandedOver Turn end bus new refusals later = (HandedOver × (new ≡ bus)) ⊎ (Turn × (end ≡ NoMemory) × Rose refusals later)

abbrev pub IsCutOf : ℕ → World → Bus → Event → RunEnd → Bus → ℕ → ℕ → Type 0
IsCutOf call w bus event end new refusals later = IsCutBy (HandsOverOf call w bus event) (HasTurn w event) end bus new refusals later

abbrev pub IsCut : ℕ → World → Bus → Event → RunEnd → Bus → ℕ → ℕ → Type 0
IsCut call w bus event end new refusals later = IsCutBy (HandsOver call w bus event) (HasTurn w event) end bus new refusals later
