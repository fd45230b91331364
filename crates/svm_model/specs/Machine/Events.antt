-- What an event makes of a world and of the bus of its port devices.
use Rattle.std.specs.Prelude.{ℕ, ◌+◌, ◌&&◌, ◌==◌, List, [], Bool, true, if◌then◌else◌, Option, Some, None, length, map, slice_get, slice_set}
use Rattle.svm_model.specs.Machine.Apic.{accepted, expired}
use Rattle.svm_model.specs.Machine.Bus.{Bus, bus_after_feed, bus_after_unplug}
use Rattle.svm_model.specs.Turn.Course.{Told}
use Rattle.svm_model.specs.Machine.Guest.{Guest}
use Rattle.svm_model.specs.declared.names.CpuId.{CpuId}
use Rattle.svm_model.specs.declared.names.Effect.{Effect}
use Rattle.svm_model.specs.declared.names.Ended.{Ended}
use Rattle.svm_model.specs.declared.names.Event.{Event}
use Rattle.svm_model.specs.declared.names.Event.TheVariants.{Place, Run, Feed, Irq, Nmi, Unplug, Dump}
use Rattle.svm_model.specs.declared.names.VcpuId.{VcpuId}
use Rattle.svm_model.specs.Machine.World.{World}
use Rattle.svm_model.specs.Machine.Turns.{Turn, with_nmi, plain_turn}

-- what an event makes of the world and the bus, what it did, and what it tells
pub record Happened : Type 0 where
  pub world : World
  pub bus : Bus
  pub effect : Effect
  pub told : List Told

-- the event is over
abbrev pub next_event : World → World
next_event w = record w { event = w.event + 1 }

abbrev pub is_vcpu : VcpuId → VcpuId → Bool
is_vcpu a b = (a.guest.0 == b.guest.0) && (a.index == b.index)

-- the processor that the vcpu leaves is empty
abbrev pub without : VcpuId → Option VcpuId → Option VcpuId
without id None = None
without id (Some other) = if is_vcpu id other then None else Some other

abbrev pub placed : World → CpuId → VcpuId → World
placed w cpu id = record w { placing = slice_set (map (without id) w.placing) cpu.0 (Some id) }

abbrev pub nothing_ran : World → Bus → Happened
nothing_ran w bus = record { world = next_event w; bus = bus; effect = record { vcpu = None; ended = None }; told = [] }

abbrev pub ran : VcpuId → Turn → Happened
ran id turn = record {
  world = next_event turn.world;
  bus = turn.bus;
  effect = record { vcpu = Some id; ended = turn.ended };
  told = turn.told;
}

-- What comes from outside: a vector that an APIC accepts, and an NMI that becomes pending. An ended guest heeds neither.

abbrev pub at : {A : Type 0} → ℕ → (A → A) → Option A → List A → List A
at index change None items = items
at index change (Some item) items = slice_set items index (change item)

abbrev pub unless_ended : Option Ended → Guest → Guest → Guest
unless_ended None guest changed = changed
unless_ended (Some ended) guest changed = guest

abbrev pub guest_with_irq : ℕ → ℕ → Guest → Guest
guest_with_irq index vector guest =
    unless_ended guest.ended guest (record guest { apics = at index (λ apic. accepted apic vector) (slice_get guest.apics index) guest.apics })

abbrev pub guest_with_nmi : ℕ → Guest → Guest
guest_with_nmi index guest =
    unless_ended guest.ended guest (record guest { vcpus = at index (with_nmi true) (slice_get guest.vcpus index) guest.vcpus })

abbrev pub changed_guest : World → VcpuId → (Guest → Guest) → World
changed_guest w id change = record w { guests = at id.guest.0 change (slice_get w.guests id.guest.0) w.guests }

-- at the start of each event the due timers of guests that were not ended accept
abbrev pub guest_with_timers : ℕ → Guest → Guest
guest_with_timers event guest =
    unless_ended guest.ended guest (record guest { apics = map (λ apic. expired apic event) guest.apics })

unfoldable pub with_timers : World → World
with_timers w = record w { guests = map (guest_with_timers w.event) w.guests }

abbrev pub run_of : World → Bus → Option (Option VcpuId) → Happened
run_of w bus None = nothing_ran w bus
run_of w bus (Some None) = nothing_ran w bus
run_of w bus (Some (Some id)) = ran id (plain_turn w bus id)

-- the event, where the timers have accepted
unfoldable pub event_of : World → Bus → Event → Happened
event_of w bus (Place cpu id) = nothing_ran (placed w cpu id) bus
event_of w bus (Run cpu) = run_of w bus (slice_get w.placing cpu.0)
event_of w bus (Feed device value) = nothing_ran w (bus_after_feed bus device value)
event_of w bus (Irq id vector) = nothing_ran (changed_guest w id (guest_with_irq id.index vector)) bus
event_of w bus (Nmi id) = nothing_ran (changed_guest w id (guest_with_nmi id.index)) bus
event_of w bus (Unplug device) = nothing_ran w (bus_after_unplug bus device)
event_of w bus (Dump guest address length) = nothing_ran w bus

abbrev pub plain_event : World → Bus → Event → Happened
plain_event w bus event = event_of (with_timers w) bus event
