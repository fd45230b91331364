-- There was no memory for the text.
use Rattle.svm_run.proofs.Printed.{printed_nothing}
use Rattle.svm_run.proofs.made.print_summary.Goals as goal

pub returns-in_default : goal.returns-in_default
returns-in_default g c = printed_nothing _ _ _ _ _ _ _ _ c.refuse.ensures.same c.refuse.ensures.line
