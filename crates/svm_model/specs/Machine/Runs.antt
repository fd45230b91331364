-- Runs of events, events that are cut off, and what their parts keep.
use Rattle.std.specs.Prelude.{◌≡◌, ℕ, ◌+◌, List, [], ◌∷◌, Option, Some, None, slice_get}
use Rattle.svm_model.specs.Machine.Bus.{Bus, bus_after_write}
use Rattle.svm_model.specs.Machine.Guest.{Guest}
use Rattle.svm_model.specs.declared.names.Ended.{Ended}
use Rattle.svm_model.specs.declared.names.Event.{Event}
use Rattle.svm_model.specs.declared.names.Event.TheVariants.{Run, Feed}
use Rattle.svm_model.specs.declared.names.VcpuId.{VcpuId}
use Rattle.svm_model.specs.declared.ports.PortWrite.{PortWrite}
use Rattle.svm_model.specs.Machine.World.{World}
use Rattle.svm_model.specs.Machine.Turns.{turn_of}
use Rattle.svm_model.specs.Machine.Events.{with_timers, plain_event}

-- An event that is cut off, since an outward call of its turn was refused, the one of this number, or its feed: what it has
-- reached. The event is not over.

abbrev pub run_reached : ℕ → World → Bus → Option (Option VcpuId) → World
run_reached call w bus None = w
run_reached call w bus (Some None) = w
run_reached call w bus (Some (Some id)) = (turn_of (Some call) w bus id).world

unfoldable pub reached_of : ℕ → World → Bus → Event → World
reached_of call w bus (Run cpu) = run_reached call w bus (slice_get w.placing cpu.0)
reached_of call w bus _ = w

abbrev pub reached : ℕ → World → Bus → Event → World
reached call w bus event = reached_of call (with_timers w) bus event

-- The outward call of this number is a write to a port: where it is refused the turn is denied that write, and where it is
-- granted the write is all that the turn does to the bus, by its last call.
pub record IsOut (call : ℕ) (w : World) (bus : Bus) (id : VcpuId) : Type 0 where
  pub write : PortWrite
  pub denied : (turn_of (Some call) w bus id).denied ≡ Some write
  pub granted : (turn_of None w bus id).bus ≡ bus_after_write bus write
  pub last : (turn_of None w bus id).calls ≡ call + 1

abbrev pub IsOutOf : ℕ → World → Bus → Option (Option VcpuId) → Type 0
IsOutOf call w bus None = ⊥
IsOutOf call w bus (Some None) = ⊥
IsOutOf call w bus (Some (Some id)) = IsOut call w bus id

-- the event hands something to a device or to the output: a feed, or a run whose turn writes to a port by this call
unfoldable pub HandsOverOf : ℕ → World → Bus → Event → Type 0
HandsOverOf call w bus (Run cpu) = IsOutOf call w bus (slice_get w.placing cpu.0)
HandsOverOf call w bus (Feed device value) = Unit {0}
HandsOverOf call w bus _ = ⊥

abbrev pub HandsOver : ℕ → World → Bus → Event → Type 0
HandsOver call w bus event = HandsOverOf call (with_timers w) bus event

-- the end of a guest, where it was ended
abbrev pub end_of_guest : Option Guest → Option Ended
end_of_guest None = None
end_of_guest (Some guest) = guest.ended

-- an end that was given stays
abbrev pub EndsStay : World → World → Type 0
EndsStay old new =
    (guest : ℕ) (e : Ended) → end_of_guest (slice_get old.guests guest) ≡ Some e → end_of_guest (slice_get new.guests guest) ≡ Some e

-- what a run leads to
pub record Led : Type 0 where
  pub world : World
  pub bus : Bus

-- the run of a list of events
abbrev pub plain_run : World → Bus → List Event → Led
plain_run w bus [] = record { world = w; bus = bus }
plain_run w bus (event ∷ events) = plain_run (plain_event w bus event).world (plain_event w bus event).bus events
