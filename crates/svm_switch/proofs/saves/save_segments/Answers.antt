use Rattle.svm_switch.proofs.SavedLemmas.{saved-then}
use Rattle.svm_switch.proofs.saves.save_segments.Goals as goal

pub returns-clause-saved : goal.returns-clause-saved
returns-clause-saved c = saved-then (saved-then (saved-then c.save_segment.ensures.saved c.save_segment-2.ensures.saved) c.save_segment-3.ensures.saved) c.save_segment-4.ensures.saved
