-- One more event leads on from those so far, or ends the audit.
use Rattle.std.proofs.Common.{◌≡◌, ◌∙◌, ◌+◌, ℕ, length, ap, arith, refl}
use Rattle.svm_model.specs.Formats.Script.{Script, events_of}
use Rattle.svm_model.specs.declared.audits.Verdict.TheVariants.{Keeps}
use Rattle.port_bus.proofs.Counts.{none_fell-itself, none_fell-then}
use Rattle.auditor.specs.Steps.{known_at}
use Rattle.auditor.proofs.AuditLemmas.{broken_bus, broken_verdict, cut_here, kept_bus, kept_count, kept_next, kept_verdict, next_counts, none_kept}
use Rattle.auditor.proofs.verdicts.audit_events.Goals as goal

pub loop-number-init : goal.loop-number-init
loop-number-init g c = record {
  known = _;
  stands = c.new-memory.ensures.stands;
  kept = none_kept c.args.machine.now.world (g.B.Ports.bus c.args.bus.now);
  shape = refl;
  going = c.requires.going;
  done = c.requires.first;
  counts = none_fell-itself (g.B.Ports.faults c.args.bus.now);
  cost = omega arith;
  later = omega arith;
}

pub loop-number-preserved : goal.loop-number-preserved
loop-number-preserved g c =
    let before = c.loop-number.invariant in
    let came = c.in-Ok-None.ensures in
    record {
      known = known_at before.known c.loop-number.machine.world (g.B.Ports.bus c.loop-number.bus) c.in-Some.event;
      stands = came.breach.stands before.known before.stands c.in-Ok-None.field-0-is;
      kept =
          kept_next _ _ (events_of c.args.cpus c.args.script.now) c.loop-number.number before.known c.loop-number.machine.world (g.B.Ports.bus c.loop-number.bus) before.kept c.in-Some.event _ c.event_near.ensures.event c.in-Some.is c.in-Ok-None.field-0 _ _
          (came.breach.breach before.known before.stands) c.in-Ok-None.field-0-is came.world came.bus;
      shape = came.shape ∙ before.shape;
      going = came.going;
      done = came.number ∙ ap (λ (n : ℕ). n + 1) before.done;
      counts = none_fell-then _ _ _ before.counts came.none_fell;
      cost = omega (arith, before.cost, came.steps);
      later = omega (arith, before.later, came.later);
    }

pub returns-in-Ok-Some-clause-verdict : goal.returns-in-Ok-Some-clause-verdict
returns-in-Ok-Some-clause-verdict g c =
    let before = c.loop-number.invariant in
    broken_verdict _ _ (events_of c.args.cpus c.args.script.now) c.loop-number.number before.known c.loop-number.machine.world (g.B.Ports.bus c.loop-number.bus) before.kept c.in-Some.event _ c.event_near.ensures.event c.in-Some.is
    c.in-Ok-Some.field-0 c.in-Ok-Some.breach (c.in-Ok-Some.ensures.breach.breach before.known before.stands) c.in-Ok-Some.field-0-is c.args.script.now.events

pub returns-in-Ok-Some-clause-bus : goal.returns-in-Ok-Some-clause-bus
returns-in-Ok-Some-clause-bus g c =
    let before = c.loop-number.invariant in
    broken_bus _ _ (events_of c.args.cpus c.args.script.now) c.loop-number.number before.known c.loop-number.machine.world (g.B.Ports.bus c.loop-number.bus) before.kept c.in-Some.event _ c.event_near.ensures.event c.in-Some.is
    c.in-Ok-Some.field-0 c.in-Ok-Some.breach (c.in-Ok-Some.ensures.breach.breach before.known before.stands) c.in-Ok-Some.field-0-is _ c.in-Ok-Some.ensures.bus

pub returns-in-Err-clause-cut : goal.returns-in-Err-clause-cut
returns-in-Err-clause-cut g c =
    let before = c.loop-number.invariant in
    cut_here _ _ (events_of c.args.cpus c.args.script.now) c.loop-number.number before.known c.loop-number.machine.world (g.B.Ports.bus c.loop-number.bus) before.kept c.in-Some.event _ c.event_near.ensures.event c.in-Some.is _ _ c.in-Err.ensures.cut

pub returns-in-Ok-Some-clause-steps : goal.returns-in-Ok-Some-clause-steps
returns-in-Ok-Some-clause-steps g c =
    let before = c.loop-number.invariant in
    let cost = before.cost in
    let more =
    next_counts _ _ (events_of c.args.cpus c.args.script.now) c.loop-number.number before.known c.loop-number.machine.world (g.B.Ports.bus c.loop-number.bus) before.kept c.in-Some.event _ c.event_near.ensures.event c.in-Some.is
    c.requires.first in
    omega (arith, cost, more, c.in-Ok-Some.ensures.steps)

pub returns-in-Err-clause-steps : goal.returns-in-Err-clause-steps
returns-in-Err-clause-steps g c =
    let before = c.loop-number.invariant in
    let cost = before.cost in
    let more =
    next_counts _ _ (events_of c.args.cpus c.args.script.now) c.loop-number.number before.known c.loop-number.machine.world (g.B.Ports.bus c.loop-number.bus) before.kept c.in-Some.event _ c.event_near.ensures.event c.in-Some.is
    c.requires.first in
    omega (arith, cost, more, c.in-Err.ensures.steps)

pub returns-clause-verdict : goal.returns-clause-verdict
returns-clause-verdict g c =
    let before = c.loop-number.invariant in
    let count : c.script.inside.events ≡ c.args.script.now.events = ap (λ (s : Script). s.events) c.script.view_is in
    ap (λ n. Keeps n) count
    ∙ kept_verdict _ _ (events_of c.args.cpus c.args.script.now) c.loop-number.number before.known c.loop-number.machine.world (g.B.Ports.bus c.loop-number.bus) before.kept c.args.script.now.events
    (omega (arith, c.requires.count, c.loop-number-test.false, c.loop-number.auto.number-end, count))

pub returns-clause-bus : goal.returns-clause-bus
returns-clause-bus g c =
    let before = c.loop-number.invariant in
    let count : c.script.inside.events ≡ c.args.script.now.events = ap (λ (s : Script). s.events) c.script.view_is in
    kept_bus _ _ (events_of c.args.cpus c.args.script.now) c.loop-number.number before.known c.loop-number.machine.world (g.B.Ports.bus c.loop-number.bus) before.kept
    (omega (arith, c.requires.count, c.loop-number-test.false, c.loop-number.auto.number-end, count))

pub returns-clause-steps : goal.returns-clause-steps
returns-clause-steps g c =
    let before = c.loop-number.invariant in
    let cost = before.cost in
    let count : c.script.inside.events ≡ c.args.script.now.events = ap (λ (s : Script). s.events) c.script.view_is in
    let whole : length (events_of c.args.cpus c.args.script.now) ≡ c.loop-number.number = omega (arith, c.requires.count, c.loop-number-test.false, c.loop-number.auto.number-end, count) in
    let all = kept_count _ _ (events_of c.args.cpus c.args.script.now) c.loop-number.number before.known c.loop-number.machine.world (g.B.Ports.bus c.loop-number.bus) before.kept whole before.done in
    omega (arith, cost, all)
