-- One who is not there refuses nothing.
use Rattle.plain_machine.proofs.CutLemmas.{err-then, handed-over, kept-so}
use Rattle.svm_run.proofs.unwatched.do_event.Goals as goal

pub returns-clause-hands_over : goal.returns-clause-hands_over
returns-clause-hands_over g c = err-then c.event.result _ _ (λ end cut. (cut.0, handed-over cut.3)) c.event.ensures.cut

pub returns-clause-kept : goal.returns-clause-kept
returns-clause-kept g c = err-then c.event.result _ _ (λ end cut. kept-so cut.3) c.event.ensures.cut
