-- An event leaves the memory of each guest of which no vcpu has a turn.
use Rattle.std.proofs.Common.{◌≡◌, ◌∙◌, ℕ, zero, suc, List, [], ◌∷◌, Option, Some, None, ap, map, refl, slice_get, slice_set}
use Rattle.svm_model.specs.Machine.Bus.{Bus}
use Rattle.svm_model.specs.Machine.Events.{unless_ended, at, guest_with_irq, guest_with_nmi, guest_with_timers, with_timers, run_of, event_of, plain_event}
use Rattle.svm_model.specs.Machine.Guest.{Guest}
use Rattle.svm_model.specs.Machine.Runs.{run_reached, reached_of, reached}
use Rattle.svm_model.specs.Machine.Turns.{turn_of, with_guest}
use Rattle.svm_model.specs.Machine.World.{World}
use Rattle.svm_model.specs.declared.names.Ended.{Ended}
use Rattle.svm_model.specs.declared.names.Event.{Event}
use Rattle.svm_model.specs.declared.names.Event.TheVariants.{Place, Run, Feed, Irq, Nmi, Unplug, Dump}
use Rattle.svm_model.specs.declared.names.VcpuId.{VcpuId}
use Rattle.plain_machine.specs.Others.{memory_of, HasNoTurn, IsNotOf, OthersStay}
use Rattle.plain_machine.proofs.Worlds.{in_world}

set_other : (guests : List Guest) (i j : ℕ) (g : Guest) → (i ≡ j → ⊥) → slice_get (slice_set guests i g) j ≡ slice_get guests j
set_other [] i j g other = refl
set_other (x ∷ guests) zero zero g other = absurd (other refl)
set_other (x ∷ guests) zero (suc j) g other = refl
set_other (x ∷ guests) (suc i) zero g other = refl
set_other (x ∷ guests) (suc i) (suc j) g other = set_other guests i j g (λ e. other (ap suc e))

turn_others : (refused : Option ℕ) (w : World) (bus : Bus) (id : VcpuId) (guest : ℕ) (o : Option Guest) → slice_get w.guests id.guest.0 ≡ o → (id.guest.0 ≡ guest → ⊥) →
    slice_get (turn_of refused w bus id).world.guests guest ≡ slice_get w.guests guest
turn_others refused w bus id guest None there other = ap (λ (o : Option Guest). slice_get (with_guest refused w bus id o).world.guests guest) there
turn_others refused w bus id guest (Some g) there other =
    ap (λ (v : World). slice_get v.guests guest) (in_world refused w bus id g there).world_is ∙ set_other w.guests id.guest.0 guest _ other

run_others : (w : World) (bus : Bus) (guest : ℕ) (o : Option (Option VcpuId)) → IsNotOf guest o → slice_get (run_of w bus o).world.guests guest ≡ slice_get w.guests guest
run_others w bus guest None other = refl
run_others w bus guest (Some None) other = refl
run_others w bus guest (Some (Some id)) other = turn_others None w bus id guest (slice_get w.guests id.guest.0) refl other

cut_others : (call : ℕ) (w : World) (bus : Bus) (guest : ℕ) (o : Option (Option VcpuId)) → IsNotOf guest o → slice_get (run_reached call w bus o).guests guest ≡ slice_get w.guests guest
cut_others call w bus guest None other = refl
cut_others call w bus guest (Some None) other = refl
cut_others call w bus guest (Some (Some id)) other = turn_others (Some call) w bus id guest (slice_get w.guests id.guest.0) refl other

-- Changes that leave memory.

unless_memory : (o : Option Ended) (g h : Guest) → h.memory ≡ g.memory → (unless_ended o g h).memory ≡ g.memory
unless_memory None g h same = same
unless_memory (Some end) g h same = refl

behind_first : (x : Guest) (guests : List Guest) (i : ℕ) (change : Guest → Guest) (o : Option Guest) → memory_of (slice_get (at (suc i) change o (x ∷ guests)) zero) ≡ Some x.memory
behind_first x guests i change None = refl
behind_first x guests i change (Some g) = refl

behind_rest : (x : Guest) (guests : List Guest) (i j : ℕ) (change : Guest → Guest) (o : Option Guest) → memory_of (slice_get (at (suc i) change o (x ∷ guests)) (suc j)) ≡ memory_of (slice_get (at i change o guests) j)
behind_rest x guests i j change None = refl
behind_rest x guests i j change (Some g) = refl

at_memory : (guests : List Guest) (i j : ℕ) (change : Guest → Guest) → ((g : Guest) → (change g).memory ≡ g.memory) →
    memory_of (slice_get (at i change (slice_get guests i) guests) j) ≡ memory_of (slice_get guests j)
at_memory [] i j change same = refl
at_memory (x ∷ guests) zero zero change same = ap (λ (m : List ℕ). Some m) (same x)
at_memory (x ∷ guests) zero (suc j) change same = refl
at_memory (x ∷ guests) (suc i) zero change same = behind_first x guests i change (slice_get guests i)
at_memory (x ∷ guests) (suc i) (suc j) change same = behind_rest x guests i j change (slice_get guests i) ∙ at_memory guests i j change same

timers_memory : (event : ℕ) (guests : List Guest) (j : ℕ) → memory_of (slice_get (map (guest_with_timers event) guests) j) ≡ memory_of (slice_get guests j)
timers_memory event [] j = refl
timers_memory event (x ∷ guests) zero = ap (λ (m : List ℕ). Some m) (unless_memory x.ended x _ refl)
timers_memory event (x ∷ guests) (suc j) = timers_memory event guests j

event_others : (w : World) (bus : Bus) (event : Event) → OthersStay w event (event_of w bus event).world
unfolding event_of
event_others w bus (Place cpu id) = λ guest other. refl
event_others w bus (Run cpu) = λ guest other. ap memory_of (run_others w bus guest (slice_get w.placing cpu.0) other)
event_others w bus (Feed device value) = λ guest other. refl
event_others w bus (Irq id vector) = λ guest other. at_memory w.guests id.guest.0 guest (guest_with_irq id.index vector) (λ g. unless_memory g.ended g _ refl)
event_others w bus (Nmi id) = λ guest other. at_memory w.guests id.guest.0 guest (guest_with_nmi id.index) (λ g. unless_memory g.ended g _ refl)
event_others w bus (Unplug device) = λ guest other. refl
event_others w bus (Dump g address length) = λ guest other. refl

reached_others : (call : ℕ) (w : World) (bus : Bus) (event : Event) → OthersStay w event (reached_of call w bus event)
unfolding reached_of
reached_others call w bus (Place cpu id) = λ guest other. refl
reached_others call w bus (Run cpu) = λ guest other. ap memory_of (cut_others call w bus guest (slice_get w.placing cpu.0) other)
reached_others call w bus (Feed device value) = λ guest other. refl
reached_others call w bus (Irq id vector) = λ guest other. refl
reached_others call w bus (Nmi id) = λ guest other. refl
reached_others call w bus (Unplug device) = λ guest other. refl
reached_others call w bus (Dump g address length) = λ guest other. refl

same_turn : (w : World) (event : Event) (guest : ℕ) → HasNoTurn w event guest → HasNoTurn (with_timers w) event guest
unfolding with_timers
same_turn w (Place cpu id) guest other = other
same_turn w (Run cpu) guest other = other
same_turn w (Feed device value) guest other = other
same_turn w (Irq id vector) guest other = other
same_turn w (Nmi id) guest other = other
same_turn w (Unplug device) guest other = other
same_turn w (Dump g address length) guest other = other

timed_memory : (w : World) (guest : ℕ) → memory_of (slice_get (with_timers w).guests guest) ≡ memory_of (slice_get w.guests guest)
unfolding with_timers
timed_memory w guest = timers_memory w.event w.guests guest

pub event-others : (w : World) (bus : Bus) (event : Event) → OthersStay w event (plain_event w bus event).world
event-others w bus event = λ guest other. event_others (with_timers w) bus event guest (same_turn w event guest other) ∙ timed_memory w guest

pub reached-others : (call : ℕ) (w : World) (bus : Bus) (event : Event) → OthersStay w event (reached call w bus event)
reached-others call w bus event = λ guest other. reached_others call (with_timers w) bus event guest (same_turn w event guest other) ∙ timed_memory w guest
