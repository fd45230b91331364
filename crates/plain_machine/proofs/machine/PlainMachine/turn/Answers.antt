use Rattle.std.proofs.Common.{◌≡◌, ◌∙◌, ℕ, List, Option, Some, None, length, map, take, drop, ◌++◌, ap, sym, subst, refl, arith, slice_get, slice_set, IfSome}
use Rattle.svm_model.specs.Audit.WatchCalls.{notices}
use Rattle.svm_model.specs.Machine.Guest.{Guest}
use Rattle.svm_model.specs.Turn.Course.{Told}
use Rattle.watch.specs.Leads.{Leads}
use Rattle.plain_machine.specs.Cuts.{IsCutBy}
use Rattle.svm_model.specs.Machine.Shapes.{world_shape}
use Rattle.svm_model.specs.Machine.Runs.{IsOut}
use Rattle.svm_model.specs.Machine.Turns.{turn_of}
use Rattle.svm_model.specs.Machine.World.{World}
use Rattle.std.proofs.lemmas.List.{take_at}
use Rattle.plain_machine.specs.GuestTurns.{guest_turn}
use Rattle.plain_machine.specs.Machines.{Machine}
use Rattle.plain_machine.proofs.GuestTurnLemmas.{on_ok, if_ok, if_err}
use Rattle.plain_machine.specs.Slots.{Kept, guest_at, guests_at, layouts}
use Rattle.plain_machine.proofs.MarkLemmas.{marked-written}
use Rattle.plain_machine.proofs.Worlds.{guest_there, named_place, named_vcpu, shape-written, slot_there, in_world, moment_of, cut_in_world, InWorld}
use Rattle.plain_machine.proofs.machine.PlainMachine.turn.Given.{Over}
use Rattle.plain_machine.proofs.machine.PlainMachine.turn.Goals as goal

-- the world of slots over these bytes
abbrev world_over : (g : Over) → goal.After-self-1 g → List ℕ → List Kept → World
world_over g c bytes slots = record {
  version = c.self.inside.version;
  features = c.self.inside.features;
  cpus = length c.self.inside.placing.items;
  guests = guests_at bytes slots;
  placing = c.self.inside.placing.items;
  event = c.self.inside.event;
}

pub turn_in-requires-clause-vcpu : goal.turn_in-requires-clause-vcpu
turn_in-requires-clause-vcpu g c =
    named_vcpu c.self.inside.memory.bytes _ c.args.vcpu (world_shape c.args.self.now.world)
    (sym (ap (λ (m : Machine). (world_shape m.world).vcpus) c.self.view_is)
    ∙ ap (λ (slots : List Kept). map (λ (g : Guest). length g.vcpus) (guests_at c.self.inside.memory.bytes slots)) (sym c.deref_mut.ensures.value))
    c.requires

there : (g : Over) (c : goal.After-self-1 g) → (slot : Kept) × (slice_get c.deref_mut.result.now c.args.vcpu.guest.0 ≡ Some slot)
there g c =
    slot_there c.deref_mut.result.now c.args.vcpu.guest.0
    (named_place c.self.inside.memory.bytes c.deref_mut.result.now c.args.vcpu (world_shape c.args.self.now.world)
    (sym (ap (λ (m : Machine). (world_shape m.world).vcpus) c.self.view_is)
    ∙ ap (λ (slots : List Kept). map (λ (g : Guest). length g.vcpus) (guests_at c.self.inside.memory.bytes slots)) (sym c.deref_mut.ensures.value))
    c.requires)

-- what a clause says of the slot
said : (g : Over) (c : goal.After-self-1 g) (P : Kept → Type 0) → IfSome (slice_get c.deref_mut.result.now c.args.vcpu.guest.0) P → P (there g c).0
said g c P h = subst (λ (o : Option Kept). IfSome o P) (there g c).1 h

-- the world before the turn
before : (g : Over) (c : goal.After-self-1 g) → world_over g c c.self.inside.memory.bytes c.deref_mut.result.now ≡ c.args.self.now.world
before g c = ap (world_over g c c.self.inside.memory.bytes) c.deref_mut.ensures.value ∙ ap (λ (m : Machine). m.world) c.self.view_is

in_guest : (g : Over) (c : goal.After-self-1 g) (refused : Option ℕ) → InWorld (turn_of refused (world_over g c c.self.inside.memory.bytes c.deref_mut.result.now) (g.B.Ports.bus c.args.bus.now) c.args.vcpu) (world_over g c c.self.inside.memory.bytes c.deref_mut.result.now) c.args.vcpu.guest.0
    (guest_turn refused (moment_of (world_over g c c.self.inside.memory.bytes c.deref_mut.result.now) c.args.vcpu) (g.B.Ports.bus c.args.bus.now) (guest_at c.self.inside.memory.bytes (there g c).0))
in_guest g c refused =
    in_world refused (world_over g c c.self.inside.memory.bytes c.deref_mut.result.now) (g.B.Ports.bus c.args.bus.now) c.args.vcpu (guest_at c.self.inside.memory.bytes (there g c).0)
    (guest_there c.self.inside.memory.bytes c.deref_mut.result.now c.args.vcpu.guest.0 (there g c).0 (there g c).1)

-- the world behind it
behind : (g : Over) (c : goal.After-self-1 g) (refused : Option ℕ) →
    guests_at c.turn_in.new.memory.bytes c.turn_in.new.slots ≡ slice_set (guests_at c.self.inside.memory.bytes c.deref_mut.result.now) c.args.vcpu.guest.0 (guest_turn refused (moment_of (world_over g c c.self.inside.memory.bytes c.deref_mut.result.now) c.args.vcpu) (g.B.Ports.bus c.args.bus.now) (guest_at c.self.inside.memory.bytes (there g c).0)).guest →
    world_over g c c.turn_in.new.memory.bytes (take c.self.inside.guests.len (c.turn_in.new.slots ++ drop (length c.turn_in.new.slots) c.self.inside.guests.items)) ≡ (turn_of refused c.args.self.now.world (g.B.Ports.bus c.args.bus.now) c.args.vcpu).world
behind g c refused e =
    let new = c.turn_in.new.slots in
    let long : length new ≡ c.self.inside.guests.len = omega (arith, c.turn_in.auto.slots, c.deref_mut.ensures.len) in
    ap (λ (slots : List Kept). world_over g c c.turn_in.new.memory.bytes slots) (take_at new _ _ long)
    ∙ ap (λ (guests : List Guest). record (world_over g c c.self.inside.memory.bytes c.deref_mut.result.now) { guests = guests }) e
    ∙ sym (in_guest g c refused).world_is
    ∙ ap (λ (w : World). (turn_of refused w (g.B.Ports.bus c.args.bus.now) c.args.vcpu).world) (before g c)

pub returns-clause-world : goal.returns-clause-world
returns-clause-world g c = on_ok c.turn_in.result _ _ (λ h. behind g c None (said g c _ h)) c.turn_in.ensures.guests

pub returns-clause-bus : goal.returns-clause-bus
returns-clause-bus g c =
    on_ok c.turn_in.result _ _ (λ h. said g c _ h ∙ sym (in_guest g c None).bus_is ∙ ap (λ (w : World). (turn_of None w (g.B.Ports.bus c.args.bus.now) c.args.vcpu).bus) (before g c)) c.turn_in.ensures.bus

pub returns-clause-ended : goal.returns-clause-ended
returns-clause-ended g c =
    if_ok c.turn_in.result _ _ (λ end h. said g c _ h ∙ sym (in_guest g c None).ended_is ∙ ap (λ (w : World). (turn_of None w (g.B.Ports.bus c.args.bus.now) c.args.vcpu).ended) (before g c)) c.turn_in.ensures.ended

pub returns-clause-reached : goal.returns-clause-reached
returns-clause-reached g c = if_err c.turn_in.result _ _ (λ cut h. behind g c (Some cut.call) (said g c _ h)) c.turn_in.ensures.reached

pub returns-clause-heard : goal.returns-clause-heard
returns-clause-heard g c =
    on_ok c.turn_in.result _ _ (λ h.
    subst (λ (ts : List Told). Leads g.W.Watch.tells c.args.walking.now.watch.now (notices c.args.walking.now.turn ts) c.turn_in.new.walking.watch.now)
    (sym (in_guest g c None).told_is ∙ ap (λ (w : World). (turn_of None w (g.B.Ports.bus c.args.bus.now) c.args.vcpu).told) (before g c)) (said g c _ h)) c.turn_in.ensures.told

pub returns-clause-bus_reached : goal.returns-clause-bus_reached
returns-clause-bus_reached g c =
    if_err c.turn_in.result _ _ (λ cut h. said g c _ h ∙ sym (in_guest g c (Some cut.call)).bus_is ∙ ap (λ (w : World). (turn_of (Some cut.call) w (g.B.Ports.bus c.args.bus.now) c.args.vcpu).bus) (before g c)) c.turn_in.ensures.bus_reached

pub returns-clause-cut : goal.returns-clause-cut
returns-clause-cut g c =
    let bus = g.B.Ports.bus c.args.bus.now in
    let new = g.B.Ports.bus c.turn_in.new.bus in
    let refusals = g.W.Watch.refusals c.args.walking.now.watch.now in
    let later = g.W.Watch.refusals c.turn_in.new.walking.watch.now in
    if_err c.turn_in.result _ _ (λ cut h.
    subst (λ (w : World). IsCutBy (IsOut cut.call w bus c.args.vcpu) (Unit {0}) cut.end bus new refusals later) (before g c)
    (cut_in_world cut.call (world_over g c c.self.inside.memory.bytes c.deref_mut.result.now) cut.end bus new c.args.vcpu (guest_at c.self.inside.memory.bytes (there g c).0) refusals later
    (guest_there c.self.inside.memory.bytes c.deref_mut.result.now c.args.vcpu.guest.0 (there g c).0 (there g c).1) (said g c _ h))) c.turn_in.ensures.cut

pub returns-clause-shape : goal.returns-clause-shape
returns-clause-shape g c =
    let old = c.self.inside.guests.items in
    let new = c.turn_in.new.slots in
    let long : length new ≡ c.self.inside.guests.len = omega (arith, c.turn_in.auto.slots, c.deref_mut.ensures.len) in
    let same : layouts new ≡ layouts old = c.turn_in.ensures.layouts ∙ ap layouts c.deref_mut.ensures.value in
    shape-written (length c.self.inside.placing.items) c.self.inside.memory.bytes c.turn_in.new.memory.bytes old new _ long c.self.invariant.0 same c.turn_in.ensures.size
    ∙ ap (λ (m : Machine). world_shape m.world) c.self.view_is

pub returns-clause-marked : goal.returns-clause-marked
returns-clause-marked g c =
    let old = c.self.inside.guests.items in
    let new = c.turn_in.new.slots in
    let long : length new ≡ c.self.inside.guests.len = omega (arith, c.turn_in.auto.slots, c.deref_mut.ensures.len) in
    let same : layouts new ≡ layouts old = c.turn_in.ensures.layouts ∙ ap layouts c.deref_mut.ensures.value in
    marked-written c.self.inside.memory c.turn_in.new.memory old new _ _ _ long c.self.invariant.0 same c.turn_in.ensures.marked
    (ap (λ (m : Machine). m.world.guests) (sym c.self.view_is)) (ap (λ (m : Machine). m.marks) (sym c.self.view_is)) refl refl
