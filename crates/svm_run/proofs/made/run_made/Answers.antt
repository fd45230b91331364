-- The summary was printed, or there was no memory for it.
use Rattle.std.proofs.Common.{◌≡◌, ◌∙◌, ap, refl}
use Rattle.svm_model.specs.Formats.Image.{Image}
use Rattle.svm_run.specs.Outcome.{no_devices}
use Rattle.svm_run.specs.Statuses.{meaning_of}
use Rattle.svm_run.proofs.Endings.{cause_later}
use Rattle.svm_run.proofs.Generated.{bus-made, ends-summed, ends-wanting, quiet-run, reads-both, reads-most, reads-run, starts-bare, status-completed, verdict-made, world-made}
use Rattle.svm_run.proofs.Received.{rose-later}
use Rattle.svm_run.proofs.made.run_made.Goals as goal

pub returns-in_default-clause-ends : goal.returns-in_default-clause-ends
returns-in_default-clause-ends g c = λ bus. ends-wanting c.args.numbers bus c.args.image.now c.args.script.now _ _ _ _ _ _ c.refuse.ensures.same refl (λ rose. rose) c.refuse.ensures.line

pub returns-in_default-run_events-clause-ends : goal.returns-in_default-run_events-clause-ends
returns-in_default-run_events-clause-ends g c = λ bus.
    ends-wanting c.args.numbers bus c.args.image.now c.args.script.now _ _ _ _ _ _ c.refuse-in_default-run_events.ensures.same
    (quiet-run c.run_events.result _ _ _ _ _ _ c.run_events.ensures.printed c.run_events.ensures.ended)
    (rose-later _ _ _ _ _ _ c.run_events.ensures.later_faults c.run_events.ensures.later_refusals)
    c.refuse-in_default-run_events.ensures.line

pub returns-in_default-run_events-clause-steps : goal.returns-in_default-run_events-clause-steps
returns-in_default-run_events-clause-steps g c = λ bus. reads-run c.args.numbers bus c.args.image.now c.args.script.now _ _ c.requires.count c.run_events.ensures.steps

pub returns-in_default-audit-clause-ends : goal.returns-in_default-audit-clause-ends
returns-in_default-audit-clause-ends g c = λ bus.
    ends-wanting c.args.numbers bus c.args.image.now c.args.script.now _ _ _ _ _ _ c.refuse-in_default-audit.ensures.same
    (quiet-run c.run_events.result _ _ _ _ _ _ c.run_events.ensures.printed c.run_events.ensures.ended)
    (rose-later _ _ _ _ _ _ c.run_events.ensures.later_faults c.run_events.ensures.later_refusals)
    c.refuse-in_default-audit.ensures.line

pub returns-in_default-audit-clause-steps : goal.returns-in_default-audit-clause-steps
returns-in_default-audit-clause-steps g c = λ bus.
    reads-both c.args.numbers bus c.args.image.now c.args.script.now _ _ _ _ c.requires.count c.run_events.ensures.steps c.audit.ensures.later c.audit.ensures.steps

pub returns-in_default-audit-clause-most_steps : goal.returns-in_default-audit-clause-most_steps
returns-in_default-audit-clause-most_steps g c =
    reads-most c.args.numbers no_devices c.args.image.now c.args.script.now _ _ _ 1048576 _ c.requires.count c.requires.script.few c.run_events.ensures.steps c.audit.ensures.later c.audit.ensures.steps

pub returns-clause-exact : goal.returns-clause-exact
returns-clause-exact g c = λ bus answer.
    let same : c.image.inside.cpus ≡ c.args.image.now.cpus = ap (λ (i : Image). i.cpus) c.image.view_is in
    let empty = starts-bare _ c.new-bus.ensures in
    c.print_summary.ensures.exact answer
    ∙ status-completed c.args.numbers bus c.args.image.now c.args.script.now _ _
    (world-made c.args.numbers bus c.args.image.now c.args.script.now _ _ _ _ c.in-Ok.ensures.world empty same c.in-Ok-run_events.ensures.world)
    (verdict-made c.args.numbers bus c.args.image.now c.args.script.now _ _ _ c.requires.count
    (bus-made c.args.numbers bus c.args.image.now c.args.script.now _ _ _ _ c.in-Ok.ensures.world empty same c.in-Ok-run_events.ensures.bus) c.in-Ok-audit.ensures.verdict)

pub returns-clause-ends : goal.returns-clause-ends
returns-clause-ends g c = λ bus.
    let same : c.image.inside.cpus ≡ c.args.image.now.cpus = ap (λ (i : Image). i.cpus) c.image.view_is in
    let empty = starts-bare _ c.new-bus.ensures in
    ends-summed c.args.numbers bus c.args.image.now c.args.script.now _ _ _ _ _ _ _ _ _ _
    (quiet-run c.run_events.result _ _ _ _ _ _ c.run_events.ensures.printed c.run_events.ensures.ended)
    (rose-later _ _ _ _ _ _ c.run_events.ensures.later_faults c.run_events.ensures.later_refusals)
    (world-made c.args.numbers bus c.args.image.now c.args.script.now _ _ _ _ c.in-Ok.ensures.world empty same c.in-Ok-run_events.ensures.world)
    (verdict-made c.args.numbers bus c.args.image.now c.args.script.now _ _ _ c.requires.count
    (bus-made c.args.numbers bus c.args.image.now c.args.script.now _ _ _ _ c.in-Ok.ensures.world empty same c.in-Ok-run_events.ensures.bus) c.in-Ok-audit.ensures.verdict)
    c.print_summary.ensures

pub returns-clause-cause : goal.returns-clause-cause
returns-clause-cause g c = λ s t d e. cause_later (meaning_of c.print_summary.result).blame s t _ _ _ d e c.run_events.ensures.later_faults (c.print_summary.ensures.cause s t d e)

pub returns-clause-steps : goal.returns-clause-steps
returns-clause-steps g c = λ bus.
    reads-both c.args.numbers bus c.args.image.now c.args.script.now _ _ _ _ c.requires.count c.run_events.ensures.steps c.audit.ensures.later c.audit.ensures.steps

pub returns-clause-most_steps : goal.returns-clause-most_steps
returns-clause-most_steps g c =
    reads-most c.args.numbers no_devices c.args.image.now c.args.script.now _ _ _ 1048576 _ c.requires.count c.requires.script.few c.run_events.ensures.steps c.audit.ensures.later c.audit.ensures.steps
