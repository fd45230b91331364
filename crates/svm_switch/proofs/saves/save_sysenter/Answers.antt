use Rattle.svm_switch.proofs.SavedLemmas.{saved-then}
use Rattle.svm_switch.proofs.saves.save_sysenter.Goals as goal

pub returns-clause-saved : goal.returns-clause-saved
returns-clause-saved c = saved-then (saved-then c.save_word.ensures.saved c.save_word-2.ensures.saved) c.save_word-3.ensures.saved
