use Rattle.svm_switch.proofs.SavedLemmas.{saved-then}
use Rattle.svm_switch.proofs.saves.save_segment.Goals as goal

pub returns-clause-saved : goal.returns-clause-saved
returns-clause-saved c = saved-then (saved-then (saved-then c.save.ensures.saved c.save-2.ensures.saved) c.save-3.ensures.saved) c.save-4.ensures.saved
