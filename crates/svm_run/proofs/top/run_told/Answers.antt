-- What was run and printed is what the run of the script gives.
use Rattle.std.proofs.Common.{◌≡◌, ◌∙◌, ℕ, ap, subst}
use Rattle.svm_run.proofs.Endings.{answered, cause_later, cause_of, caused, ends-early, ends-finished, ends-unstarted, of_status, printed_by, started, undetermined}
use Rattle.svm_run.proofs.Received.{rose-later}
use Rattle.svm_model.specs.Formats.Image.{Image}
use Rattle.svm_model.specs.Formats.Script.{events_of}
use Rattle.svm_model.specs.Machine.Runs.{plain_run}
use Rattle.byte_shelf.specs.Sink.{appended}
use Rattle.svm_run.specs.Answers.{IsBeforeRun, IsDetermined}
use Rattle.svm_run.specs.Outcome.{texts_of}
use Rattle.svm_run.specs.Stops.{EndsEvents}
use Rattle.svm_run.specs.Statuses.{meaning_of}
use Rattle.svm_run.proofs.Runs.{reads-completed, status-completed}
use Rattle.svm_run.proofs.top.run_told.Goals as goal

pub returns-in_default-clause-ends : goal.returns-in_default-clause-ends
returns-in_default-clause-ends g c = answered _ _ _ _ _ _ _ _ c.refuse.ensures.same (ends-unstarted _ _ _ _ _ _ _ _ c.refuse.ensures.line)

pub returns-in-Ok-run_events-clause-exact : goal.returns-in-Ok-run_events-clause-exact
returns-in-Ok-run_events-clause-exact g c = λ answer.
    let same : c.image.inside.cpus ≡ c.args.image.now.cpus = ap (λ (i : Image). i.cpus) c.image.view_is in
    c.finish.ensures.exact answer
    ∙ status-completed _ c.requires.report _ _ _ _ c.args.image.now c.args.script.now c.in-Ok.ensures.world
    (c.in-Ok-run_events.ensures.world ∙ ap (λ n. (plain_run c.in-Ok.machine.world (g.B.Ports.bus c.args.bus.now) (events_of n c.args.script.now)).world) same)
    (c.in-Ok-run_events.ensures.bus ∙ ap (λ n. (plain_run c.in-Ok.machine.world (g.B.Ports.bus c.args.bus.now) (events_of n c.args.script.now)).bus) same)

pub returns-in-Ok-run_events-clause-ends : goal.returns-in-Ok-run_events-clause-ends
returns-in-Ok-run_events-clause-ends g c =
    let same : c.image.inside.cpus ≡ c.args.image.now.cpus = ap (λ (i : Image). i.cpus) c.image.view_is in
    ends-finished _ c.requires.report _ _ _ _ _ c.args.image.now c.args.script.now _ _ _ _ _ _ _ c.in-Ok.ensures.world
    (c.in-Ok-run_events.ensures.world ∙ ap (λ n. (plain_run c.in-Ok.machine.world (g.B.Ports.bus c.args.bus.now) (events_of n c.args.script.now)).world) same)
    (c.in-Ok-run_events.ensures.bus ∙ ap (λ n. (plain_run c.in-Ok.machine.world (g.B.Ports.bus c.args.bus.now) (events_of n c.args.script.now)).bus) same)
    (c.in-Ok-run_events.ensures.printed
    ∙ ap (λ n. appended (g.K.Sink.written c.args.sink.now) (texts_of g.T.Teller.work c.in-Ok.machine.world (g.B.Ports.bus c.args.bus.now) (events_of n c.args.script.now))) same)
    (rose-later _ _ _ _ _ _ c.run_events.ensures.later_faults c.run_events.ensures.later_refusals) c.finish.ensures

pub returns-in-Ok-run_events-clause-cause : goal.returns-in-Ok-run_events-clause-cause
returns-in-Ok-run_events-clause-cause g c = λ s t. cause_later (meaning_of c.finish.result).blame s t _ _ _ _ _ c.run_events.ensures.later_faults (c.finish.ensures.cause s t _ _)

pub returns-in-Ok-run_events-clause-steps : goal.returns-in-Ok-run_events-clause-steps
returns-in-Ok-run_events-clause-steps g c = reads-completed _ c.requires.report _ _ _ c.args.image.now c.args.script.now c.requires.count c.run_events.ensures.steps

pub returns-clause-ends : goal.returns-clause-ends
returns-clause-ends g c =
    let same : c.image.inside.cpus ≡ c.args.image.now.cpus = ap (λ (i : Image). i.cpus) c.image.view_is in
    let P : ℕ → Type 0 = λ n. EndsEvents g.T.Teller.work c.in-Err.fault c.in-Ok.machine.world (events_of n c.args.script.now) (g.B.Ports.bus c.args.bus.now) (g.B.Ports.bus c.run_events.new.bus)
    (g.K.Sink.written c.args.sink.now)
    (g.K.Sink.written c.run_events.new.sink) in
    answered _ _ _ _ _ _ _ _ (c.refuse-in-Err.ensures.same ∙ c.status_of.ensures)
    (ends-early _ c.requires.report c.in-Err.fault _ _ _ c.args.image.now c.args.script.now _ _ _ _ _ c.in-Ok.ensures.world (subst P same c.in-Err.ensures.ended)
    (rose-later _ _ _ _ _ _ c.run_events.ensures.later_faults c.run_events.ensures.later_refusals)
    (printed_by _ _ _ _ _ c.status_of.ensures c.refuse-in-Err.ensures.line))

pub returns-clause-exact : goal.returns-clause-exact
returns-clause-exact g c = λ answer. absurd (undetermined c.in-Err.fault (of_status IsDetermined _ _ (c.refuse-in-Err.ensures.same ∙ c.status_of.ensures) answer))

pub returns-clause-run : goal.returns-clause-run
returns-clause-run g c = λ answer. started c.in-Err.fault (of_status IsBeforeRun _ _ (c.refuse-in-Err.ensures.same ∙ c.status_of.ensures) answer)

pub returns-clause-cause : goal.returns-clause-cause
returns-clause-cause g c = λ s t.
    cause_of _ _ _ _ _ _ _ _ (c.refuse-in-Err.ensures.same ∙ c.status_of.ensures) (caused c.in-Err.fault s t _ _ _ _ _ c.refuse-in-Err.ensures.later c.in-Err.ensures.cause)

pub returns-clause-steps : goal.returns-clause-steps
returns-clause-steps g c = reads-completed _ c.requires.report _ _ _ c.args.image.now c.args.script.now c.requires.count c.run_events.ensures.steps
