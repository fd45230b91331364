-- One more event leads on from those so far.
use Rattle.std.proofs.Common.{◌∙◌, ◌+◌, ℕ, sym, ap, arith}
use Rattle.svm_model.specs.Formats.Script.{events_of}
use Rattle.port_bus.proofs.Counts.{none_fell-then}
use Rattle.svm_run.proofs.Events.{led_next, led_same, received_next}
use Rattle.svm_run.proofs.Stops.{ends-here, read_next}
use Rattle.svm_run.proofs.running.run_events.Goals as goal

pub loop-number-preserved : goal.loop-number-preserved
loop-number-preserved g c =
    let before = c.loop-number.invariant in
    let came = c.in-Ok.ensures in
    let there = sym c.event_near.ensures.event ∙ c.in-Some.is in
    record {
      so_far =
          led_next _ _ (events_of c.args.cpus c.args.script.now) c.loop-number.number c.in-Some.event _ before.so_far there
          ∙ led_same _ _ _ _ (sym came.world) (sym came.bus);
      printed = received_next _ _ _ (events_of c.args.cpus c.args.script.now) c.loop-number.number c.in-Some.event _ _ _ _ before.so_far there before.printed came.printed;
      shape = came.shape ∙ before.shape;
      going = came.going;
      done = came.number ∙ ap (λ (n : ℕ). n + 1) before.done;
      counts = none_fell-then _ _ _ before.counts came.none_fell;
      cost = read_next _ _ _ _ _ before.cost c.tell.ensures.steps;
      ready = came.ready;
      later_faults = omega (arith, before.later_faults, came.later_faults);
      later_refusals = omega (arith, before.later_refusals, came.later_refusals);
    }

pub returns-in-Err-clause-ended : goal.returns-in-Err-clause-ended
returns-in-Err-clause-ended g c =
    let before = c.loop-number.invariant in
    ends-here _ c.in-Err.fault _ _ _ _ _ (events_of c.args.cpus c.args.script.now) c.loop-number.number c.in-Some.event _ _ _ before.so_far (sym c.event_near.ensures.event ∙ c.in-Some.is) before.printed c.in-Err.ensures.ended
