-- What is printed is the report, and the status says whether a guest was ended.
use Rattle.std.proofs.Common.{◌≡◌, ◌∙◌, []}
use Rattle.svm_run.specs.Outcome.{outcome_after}
use Rattle.svm_run.proofs.Printed.{printed_as, printed_nothing}
use Rattle.svm_run.proofs.Reports.{report_of_bus, status_led}
use Rattle.svm_run.proofs.top.finish.Goals as goal

pub returns-in_default : goal.returns-in_default
returns-in_default g c = printed_nothing _ _ _ _ _ _ _ _ c.refuse.ensures.same c.refuse.ensures.line

pub returns : goal.returns
returns g c =
    let whole : c.deref.result.now ≡ (outcome_after [] (record { world = c.args.machine.now.world; bus = g.B.Ports.bus c.args.bus.now })).text =
    c.deref.ensures.value ∙ report_of_bus c.args.machine.now.world (g.B.Ports.bus c.args.bus.now) c.writes.result.now c.in-Ok.text.items c.writes.ensures c.in-Ok.ensures in
    printed_as _ _ _ _ _ _ _ _ _ _ (c.end_status.ensures ∙ status_led c.args.machine.now.world (g.B.Ports.bus c.args.bus.now)) whole c.print_last.ensures.ends
