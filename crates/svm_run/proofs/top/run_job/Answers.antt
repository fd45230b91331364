-- The verdict was printed, the audit was cut off, or there was no memory for the copy that a traced run keeps.
use Rattle.std.proofs.Common.{◌≡◌, ◌∙◌, ◌⊎◌, ap, refl, subst, sym, arith}
use Rattle.fault_counts.specs.Causes.{Rose}
use Rattle.svm_model.specs.Formats.VerdictText.{verdict_text as verdict_line}
use Rattle.svm_run.specs.Answers.{EndsRun}
use Rattle.svm_run.specs.Jobs.{job}
use Rattle.svm_run.specs.Outcome.{completed, status_by}
use Rattle.svm_run.specs.StatusLine.{status_line}
use Rattle.svm_run.specs.Statuses.{meaning_of}
use Rattle.svm_run.specs.Stops.{AreRead}
use Rattle.svm_run.specs.declared.running.RunFault.TheVariants as fault
use Rattle.svm_run.specs.declared.words.Work.{Work}
use Rattle.svm_run.proofs.Audits.{ends-audited, ends-unaudited, reads-at-most, reads-audited, status-audited}
use Rattle.svm_run.proofs.Endings.{answered, ends-unstarted, printed_by}
use Rattle.svm_run.proofs.Printed.{printed_as}
use Rattle.svm_run.proofs.top.run_job.Goals as goal

pub returns-in_default-clause-ends : goal.returns-in_default-clause-ends
returns-in_default-clause-ends g c = answered _ _ _ _ _ _ _ _ c.refuse.ensures.same (ends-unstarted _ _ _ _ _ _ _ _ c.refuse.ensures.line)

pub returns-in-Ok-audit-clause-exact : goal.returns-in-Ok-audit-clause-exact
returns-in-Ok-audit-clause-exact g c = λ answer.
    let P : Work → Type 0 = λ work. c.print_verdict.result ≡ (completed (g.B.Ports.bus c.args.bus.now) (job work c.args.image.now c.args.script.now)).status in
    subst P (sym c.in-Audit.is)
    (c.print_verdict.ensures.exact answer ∙ ap status_by c.in-Ok-audit.ensures.verdict
    ∙ status-audited (g.B.Ports.bus c.args.bus.now) c.args.image.now c.args.script.now c.args.script.now.events c.requires.count)

pub returns-in-Ok-audit-clause-ends : goal.returns-in-Ok-audit-clause-ends
returns-in-Ok-audit-clause-ends g c =
    let P : Work → Type 0 = λ work. EndsRun (meaning_of c.print_verdict.result) (status_line c.print_verdict.result) (job work c.args.image.now c.args.script.now) (g.B.Ports.bus c.args.bus.now) (g.B.Ports.bus c.audit.new.bus)
    (g.K.Sink.written c.args.sink.now) (g.K.Sink.written c.print_verdict.new.sink)
    (Rose (g.K.Sink.faults c.args.sink.now) (g.K.Sink.faults c.print_verdict.new.sink) ⊎ Rose (g.K.Sink.refusals c.args.sink.now) (g.K.Sink.refusals c.print_verdict.new.sink)) in
    subst P (sym c.in-Audit.is)
    (ends-audited (g.B.Ports.bus c.args.bus.now) c.args.image.now c.args.script.now _ _ _ _ _ _ _ _ c.args.script.now.events c.requires.count c.in-Ok-audit.ensures.bus
    (printed_as _ _ _ _ _ _ _ _ _ _ refl (ap verdict_line c.in-Ok-audit.ensures.verdict) c.print_verdict.ensures))

pub returns-in-Ok-audit-clause-steps : goal.returns-in-Ok-audit-clause-steps
returns-in-Ok-audit-clause-steps g c =
    let P : Work → Type 0 = λ work. AreRead work c.args.steps.now c.audit.new.steps (completed (g.B.Ports.bus c.args.bus.now) (job work c.args.image.now c.args.script.now)).events in
    subst P (sym c.in-Audit.is) (reads-audited (g.B.Ports.bus c.args.bus.now) c.args.image.now c.args.script.now _ _ c.audit.ensures.later c.audit.ensures.steps)

pub returns-in-Ok-audit-clause-most_steps : goal.returns-in-Ok-audit-clause-most_steps
returns-in-Ok-audit-clause-most_steps g c =
    let P : Work → Type 0 = λ work. AreRead work c.args.steps.now c.audit.new.steps 1048576 in
    let count = c.requires.count in
    let few = c.requires.script.few in
    subst P (sym c.in-Audit.is) (reads-at-most (g.B.Ports.bus c.args.bus.now) c.args.image.now c.args.script.now _ _ 1048576 (omega (arith, count, few)) c.audit.ensures.later c.audit.ensures.steps)

pub returns-in-Err-clause-ends : goal.returns-in-Err-clause-ends
returns-in-Err-clause-ends g c =
    let P : Work → Type 0 = λ work. EndsRun (meaning_of c.refuse-in-Err.result) (status_line c.refuse-in-Err.result) (job work c.args.image.now c.args.script.now) (g.B.Ports.bus c.args.bus.now) (g.B.Ports.bus c.audit.new.bus)
    (g.K.Sink.written c.args.sink.now) (g.K.Sink.written c.refuse-in-Err.new.sink)
    (Rose (g.K.Sink.faults c.args.sink.now) (g.K.Sink.faults c.refuse-in-Err.new.sink) ⊎ Rose (g.K.Sink.refusals c.args.sink.now) (g.K.Sink.refusals c.refuse-in-Err.new.sink)) in
    subst P (sym c.in-Audit.is)
    (answered _ _ _ _ _ _ _ _ (c.refuse-in-Err.ensures.same ∙ c.status_of.ensures)
    (ends-unaudited (g.B.Ports.bus c.args.bus.now) c.args.image.now c.args.script.now c.in-Err.end _ _ _ _ c.in-Err.ensures.refused
    (printed_by _ (fault.Bus c.in-Err.end) _ _ _ c.status_of.ensures c.refuse-in-Err.ensures.line)))

pub returns-in-Err-clause-steps : goal.returns-in-Err-clause-steps
returns-in-Err-clause-steps g c =
    let P : Work → Type 0 = λ work. AreRead work c.args.steps.now c.audit.new.steps (completed (g.B.Ports.bus c.args.bus.now) (job work c.args.image.now c.args.script.now)).events in
    subst P (sym c.in-Audit.is) (reads-audited (g.B.Ports.bus c.args.bus.now) c.args.image.now c.args.script.now _ _ c.audit.ensures.later c.audit.ensures.steps)

pub returns-in-Err-clause-most_steps : goal.returns-in-Err-clause-most_steps
returns-in-Err-clause-most_steps g c =
    let P : Work → Type 0 = λ work. AreRead work c.args.steps.now c.audit.new.steps 1048576 in
    let count = c.requires.count in
    let few = c.requires.script.few in
    subst P (sym c.in-Audit.is) (reads-at-most (g.B.Ports.bus c.args.bus.now) c.args.image.now c.args.script.now _ _ 1048576 (omega (arith, count, few)) c.audit.ensures.later c.audit.ensures.steps)
