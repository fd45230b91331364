-- The turn of a guest's vcpu is what the executor's turn gives.
use Rattle.std.proofs.Common.{◌≡◌, ◌∙◌, ◌<◌, None, List, length, ap, sym, subst, refl, arith, is_some, true}
use Rattle.svm_model.specs.Audit.WatchCalls.{notices}
use Rattle.svm_model.specs.Memory.Bytes.{guest_of}
use Rattle.svm_model.specs.Turn.Course.{Told}
use Rattle.watch.specs.Leads.{Leads}
use Rattle.svm_model.specs.declared.turns.Facts.{Facts}
use Rattle.plain_machine.specs.GuestTurns.{GuestTurn}
use Rattle.plain_machine.specs.Slots.{Kept, guest_at, layout}
use Rattle.plain_machine.proofs.GuestTurnLemmas.{Comes, Given, after_turn, came_at, ended, layout-after, not_ended}
use Rattle.plain_machine.proofs.turns.turn_guest.Given.{Over}
use Rattle.plain_machine.proofs.turns.turn_guest.Goals as goal

-- a guest that was ended
still : (g : Over) (c : goal.Then-is_some g) → true ≡ is_some c.args.slot.now.ended
still g c = c.if-is_some.ensures ∙ ap (λ (s : Kept). is_some s.ended) c.slot.view_is

pub returns-then-is_some-clause-guest : goal.returns-then-is_some-clause-guest
returns-then-is_some-clause-guest g c =
    sym (ap (λ (t : GuestTurn). t.guest) (ended None c.args.moment.now (g.B.Ports.bus c.args.bus.now) (guest_at c.args.memory.now.bytes c.args.slot.now) (still g c)))

pub returns-then-is_some-clause-bus : goal.returns-then-is_some-clause-bus
returns-then-is_some-clause-bus g c =
    sym (ap (λ (t : GuestTurn). t.bus) (ended None c.args.moment.now (g.B.Ports.bus c.args.bus.now) (guest_at c.args.memory.now.bytes c.args.slot.now) (still g c)))

pub returns-then-is_some-clause-ended : goal.returns-then-is_some-clause-ended
returns-then-is_some-clause-ended g c =
    sym (ap (λ (t : GuestTurn). t.ended) (ended None c.args.moment.now (g.B.Ports.bus c.args.bus.now) (guest_at c.args.memory.now.bytes c.args.slot.now) (still g c)))

pub returns-then-is_some-clause-told : goal.returns-then-is_some-clause-told
returns-then-is_some-clause-told g c =
    subst (λ (ts : List Told). Leads g.W.Watch.tells c.args.walking.now.watch.now (notices c.args.walking.now.turn ts) c.args.walking.now.watch.now)
    (sym (ap (λ (t : GuestTurn). t.told) (ended None c.args.moment.now (g.B.Ports.bus c.args.bus.now) (guest_at c.args.memory.now.bytes c.args.slot.now) (still g c)))) refl

abbrev inside : (g : Over) → goal.After-outcome_of g → Kept
inside g c = record { window = c.slot.inside.window; ended = c.slot.inside.ended; vcpus = c.slot.inside.vcpus.items; apics = c.slot.inside.apics.items }

pub note_end-requires : goal.note_end-requires
note_end-requires g c = not_ended c.slot.inside.ended c.if-is_some.ensures

with_fields : (g : Over) (c : goal.After-outcome_of g) → Comes g.W.Watch.tells c.args.walking.now.turn c.args.moment.now (g.B.Ports.bus c.args.bus.now) (g.B.Ports.bus c.take_turn.new.bus) (g.B.Ports.faults c.args.bus.now) (g.B.Ports.faults c.take_turn.new.bus) c.args.walking.now.watch.now c.take_turn.new.walking.watch.now (g.W.Watch.refusals c.args.walking.now.watch.now) (g.W.Watch.refusals c.take_turn.new.walking.watch.now)
    (guest_at c.args.memory.now.bytes c.args.slot.now)
    (after_turn (guest_at c.args.memory.now.bytes (inside g c)) c.args.moment.now.vcpu.index c.from-index.result c.note_end.new.noted (guest_of c.slot.inside.window c.take_turn.new.memory.bytes) c.take_turn.new.vcpu c.take_turn.new.apic c.take_turn.new.outward.sent)
    c.outcome_of.result
with_fields g c =
    let m = c.args.moment.now in
    let i = c.from-index.result in
    let bytes = c.args.memory.now.bytes in
    let bus = g.B.Ports.bus c.args.bus.now in
    let new = g.B.Ports.bus c.take_turn.new.bus in
    let faults = g.B.Ports.faults c.args.bus.now in
    let later = g.B.Ports.faults c.take_turn.new.bus in
    let turn = c.take_turn.new.outward in
    let memory = guest_of c.slot.inside.window c.take_turn.new.memory.bytes in
    let in_vcpus : i < length c.slot.inside.vcpus.items
    = subst (λ (s : Kept). i < length s.vcpus) (sym c.slot.view_is) (omega (arith, c.requires.there, c.from-index.ensures)) in
    let in_apics : i < length c.slot.inside.apics.items
    = subst (λ (s : Kept). i < length s.apics) (sym c.slot.view_is) (omega (arith, c.requires.there, c.from-index.ensures, c.requires.slot.apics)) in
    let watch = c.args.walking.now.watch.now in
    let told = c.take_turn.new.walking.watch.now in
    let refusals = g.W.Watch.refusals watch in
    let later_refusals = g.W.Watch.refusals told in
    let given : (f : Facts) → Type 0 = λ f. Given g.W.Watch.tells c.args.walking.now.turn f bus new faults later watch told refusals later_refusals (guest_of c.slot.inside.window bytes) c.index_mut-vcpu.result.now c.take_turn.new.vcpu c.index_mut-apic.result.now c.take_turn.new.apic memory turn.calls turn.refused turn.denied c.take_turn.new.stepped turn.sent in
    let came = came_at g.W.Watch.tells c.args.walking.now.turn m i bus new faults later watch told refusals later_refusals (guest_at bytes (inside g c)) c.index_mut-vcpu.result.now c.take_turn.new.vcpu c.index_mut-apic.result.now c.take_turn.new.apic memory turn.calls turn.refused turn.denied c.take_turn.new.stepped turn.sent
    c.from-index.ensures (not_ended c.slot.inside.ended c.if-is_some.ensures) c.index_mut-vcpu.ensures.value in_vcpus c.index_mut-apic.ensures.value in_apics
    (subst given c.facts_of-facts.ensures (record {
      gives = c.take_turn.ensures.turned;
      heard = c.take_turn.ensures.told;
      cause = c.take_turn.ensures.cause;
      kept = c.take_turn.ensures.kept;
      last = c.take_turn.ensures.last;
      blamed = c.take_turn.ensures.blamed;
    })) in
    subst (λ (s : Kept). Comes g.W.Watch.tells c.args.walking.now.turn m bus new faults later watch told refusals later_refusals (guest_at bytes s) (after_turn (guest_at bytes (inside g c)) m.vcpu.index i c.note_end.new.noted memory c.take_turn.new.vcpu c.take_turn.new.apic turn.sent) c.outcome_of.result) c.slot.view_is
    (rw (c.outcome_of.ensures, c.note_end.ensures, c.end_by-ended.ensures) came)

comes : (g : Over) (c : goal.After-outcome_of g) → Comes g.W.Watch.tells c.args.walking.now.turn c.args.moment.now (g.B.Ports.bus c.args.bus.now) (g.B.Ports.bus c.take_turn.new.bus) (g.B.Ports.faults c.args.bus.now) (g.B.Ports.faults c.take_turn.new.bus)
    c.args.walking.now.watch.now c.take_turn.new.walking.watch.now (g.W.Watch.refusals c.args.walking.now.watch.now) (g.W.Watch.refusals c.take_turn.new.walking.watch.now)
    (guest_at c.args.memory.now.bytes c.args.slot.now) (guest_at c.take_turn.new.memory.bytes c.spread.new.slot) c.outcome_of.result
comes g c =
    subst (λ (s : Kept). Comes g.W.Watch.tells c.args.walking.now.turn c.args.moment.now (g.B.Ports.bus c.args.bus.now) (g.B.Ports.bus c.take_turn.new.bus) (g.B.Ports.faults c.args.bus.now) (g.B.Ports.faults c.take_turn.new.bus) c.args.walking.now.watch.now c.take_turn.new.walking.watch.now (g.W.Watch.refusals c.args.walking.now.watch.now) (g.W.Watch.refusals c.take_turn.new.walking.watch.now) (guest_at c.args.memory.now.bytes c.args.slot.now) (guest_at c.take_turn.new.memory.bytes s) c.outcome_of.result)
    (sym c.spread.ensures) (with_fields g c)

pub returns-clause-guest : goal.returns-clause-guest
returns-clause-guest g c = (comes g c).guest_is

pub returns-clause-bus : goal.returns-clause-bus
returns-clause-bus g c = (comes g c).bus_is

pub returns-clause-ended : goal.returns-clause-ended
returns-clause-ended g c = (comes g c).ended_is

pub returns-clause-reached : goal.returns-clause-reached
returns-clause-reached g c = (comes g c).reached

pub returns-clause-told : goal.returns-clause-told
returns-clause-told g c = (comes g c).heard

pub returns-clause-bus_reached : goal.returns-clause-bus_reached
returns-clause-bus_reached g c = (comes g c).bus_reached

pub returns-clause-cut : goal.returns-clause-cut
returns-clause-cut g c = (comes g c).cut

pub returns-clause-layout : goal.returns-clause-layout
returns-clause-layout g c =
    ap layout c.spread.ensures
    ∙ layout-after (inside g c) c.note_end.new.noted c.from-index.result c.args.moment.now.vcpu.index c.take_turn.new.vcpu c.take_turn.new.apic c.take_turn.new.outward.sent
    ∙ ap layout c.slot.view_is
