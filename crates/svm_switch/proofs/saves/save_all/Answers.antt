use Rattle.svm_model.specs.Svm.VmloadVmsave.{vmsaved}
use Rattle.svm_switch.proofs.SavedLemmas.{saved-then}
use Rattle.svm_switch.proofs.saves.save_all.Goals as goal

pub returns : goal.returns
unfolding vmsaved
returns c = saved-then (saved-then c.save_syscall.ensures.saved c.save_sysenter.ensures.saved) c.save_segments.ensures.saved
