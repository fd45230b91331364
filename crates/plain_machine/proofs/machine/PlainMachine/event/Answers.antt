-- The timers ring, and then the event happens; one that is cut off leaves the ends that were given.
use Rattle.std.proofs.Common.{◌≡◌, ◌∙◌, ◌+◌, ℕ, Some, ap, sym, subst, arith, slice_get}
use Rattle.svm_model.specs.Audit.WatchCalls.{event_notices, told_notices, turn_in}
use Rattle.svm_model.specs.Machine.Events.{event_of, with_timers}
use Rattle.svm_model.specs.Machine.Runs.{end_of_guest, reached_of}
use Rattle.svm_model.specs.Machine.Shapes.{Shape, IsNamed, world_shape}
use Rattle.svm_model.specs.Machine.World.{World}
use Rattle.svm_model.proofs.EndLemmas.{event-ends_stay, reached-ends_stay}
use Rattle.watch.specs.Leads.{Leads}
use Rattle.plain_machine.specs.Cuts.{IsCutOf, bus_reached_of}
use Rattle.plain_machine.specs.Machines.{Machine}
use Rattle.plain_machine.proofs.CutLemmas.{cut-timed}
use Rattle.plain_machine.specs.Others.{OthersStay}
use Rattle.plain_machine.proofs.OtherLemmas.{event-others, reached-others}
use Rattle.plain_machine.proofs.machine.PlainMachine.event.Goals as goal

pub happen-requires-clause-named : goal.happen-requires-clause-named
happen-requires-clause-named g c = subst (λ (s : Shape). IsNamed s c.args.event) (sym c.ring_timers.ensures.shape) c.requires.named

pub happen-requires-clause-few : goal.happen-requires-clause-few
happen-requires-clause-few g c = omega (arith, c.ring_timers.ensures.number, c.requires.few)

pub returns-in-Ok-clause-ends_stay : goal.returns-in-Ok-clause-ends_stay
returns-in-Ok-clause-ends_stay g c = λ guest e s.
    let bus = g.B.Ports.bus c.args.bus.now in
    let P : World → Type 0 = λ w. end_of_guest (slice_get w.guests guest) ≡ Some e in
    subst P (sym (c.in-Ok.ensures.world ∙ ap (λ (w : World). (event_of w bus c.args.event).world) c.ring_timers.ensures.timers))
    (event-ends_stay c.args.self.now.world bus c.args.event guest e s)

pub returns-in-Ok-clause-others : goal.returns-in-Ok-clause-others
returns-in-Ok-clause-others g c =
    let bus = g.B.Ports.bus c.args.bus.now in
    subst (OthersStay c.args.self.now.world c.args.event) (sym (c.in-Ok.ensures.world ∙ ap (λ (w : World). (event_of w bus c.args.event).world) c.ring_timers.ensures.timers))
    (event-others c.args.self.now.world bus c.args.event)

pub returns-in-Ok-clause-shape : goal.returns-in-Ok-clause-shape
returns-in-Ok-clause-shape g c = c.happen.ensures.shape ∙ c.ring_timers.ensures.shape

pub returns-in-Ok-clause-number : goal.returns-in-Ok-clause-number
returns-in-Ok-clause-number g c = c.in-Ok.ensures.number ∙ ap (λ (n : ℕ). n + 1) c.ring_timers.ensures.number

pub returns-in-Err-clause-ends_stay : goal.returns-in-Err-clause-ends_stay
returns-in-Err-clause-ends_stay g c = λ guest e s.
    let bus = g.B.Ports.bus c.args.bus.now in
    let call = c.in-Err.cut.call in
    let P : World → Type 0 = λ w. end_of_guest (slice_get w.guests guest) ≡ Some e in
    subst P
    (sym (ap (λ (m : Machine). m.world) c.self.view_is ∙ (c.in-Err.ensures.reached ∙ ap (λ (w : World). reached_of call w bus c.args.event) c.ring_timers.ensures.timers)))
    (reached-ends_stay call c.args.self.now.world bus c.args.event guest e s)

pub returns-in-Err-clause-others : goal.returns-in-Err-clause-others
returns-in-Err-clause-others g c =
    let bus = g.B.Ports.bus c.args.bus.now in
    let call = c.in-Err.cut.call in
    subst (OthersStay c.args.self.now.world c.args.event)
    (sym (ap (λ (m : Machine). m.world) c.self.view_is ∙ (c.in-Err.ensures.reached ∙ ap (λ (w : World). reached_of call w bus c.args.event) c.ring_timers.ensures.timers)))
    (reached-others call c.args.self.now.world bus c.args.event)

pub returns-in-Err-clause-shape : goal.returns-in-Err-clause-shape
returns-in-Err-clause-shape g c = ap (λ (m : Machine). world_shape m.world) c.self.view_is ∙ (c.happen.ensures.shape ∙ c.ring_timers.ensures.shape)

pub returns-in-Ok-clause-told : goal.returns-in-Ok-clause-told
unfolding event_notices with_timers
returns-in-Ok-clause-told g c =
    let bus = g.B.Ports.bus c.args.bus.now in
    subst (λ (w : World). Leads g.W.Watch.tells c.args.watch.now (told_notices (turn_in w c.args.event (event_of w bus c.args.event).effect.vcpu) (event_of w bus c.args.event).told) c.happen.new.watch) c.ring_timers.ensures.timers c.in-Ok.ensures.told

pub returns-in-Err-clause-cut : goal.returns-in-Err-clause-cut
returns-in-Err-clause-cut g c =
    let bus = g.B.Ports.bus c.args.bus.now in
    let call = c.in-Err.cut.call in
    let timers = c.ring_timers.ensures.timers in (
      call,
      ap (λ (m : Machine). m.world) c.self.view_is ∙ (c.in-Err.ensures.reached ∙ ap (λ (w : World). reached_of call w bus c.args.event) timers),
      c.in-Err.ensures.bus_reached ∙ ap (λ (w : World). bus_reached_of call w bus c.args.event) timers,
      cut-timed call c.args.self.now.world c.in-Err.cut.end bus (g.B.Ports.bus c.happen.new.bus) c.args.event _ _
          (subst (λ (w : World). IsCutOf call w bus c.args.event c.in-Err.cut.end (g.B.Ports.bus c.happen.new.bus) (g.W.Watch.refusals c.args.watch.now) (g.W.Watch.refusals c.happen.new.watch)) timers c.in-Err.ensures.cut),
    )
