-- How far the run came where the input could not be read or made, and what is to blame where it could.
use Rattle.std.proofs.Common.{◌∙◌, Some, ap, sym}
use Rattle.svm_run.proofs.Endings.{ends-unread}
use Rattle.svm_run.proofs.Works.{asked-as, ends-unstarted-work, ends-work}
use Rattle.svm_run.specs.Words.{Files, told}
use Rattle.svm_run.specs.declared.words.Asked.{Asked as AskedWords}
use Rattle.svm_run.proofs.top.svm_run.Goals as goal

pub returns-in-Err-clause-ends : goal.returns-in-Err-clause-ends
returns-in-Err-clause-ends g c =
    ends-unread _ _ _ _ _ _ _ _ _ _ c.refuse-in-Err.ensures.same c.in-Err.ensures.cause c.refuse-in-Err.ensures.line

pub returns-in-Err-open_script-clause-ends : goal.returns-in-Err-open_script-clause-ends
returns-in-Err-open_script-clause-ends g c =
    ends-unread _ _ _ _ _ _ _ _ _ _ c.refuse-in-Err-open_script.ensures.same c.in-Err-open_script.ensures.cause c.refuse-in-Err-open_script.ensures.line

pub returns-in_default-made_image-clause-ends : goal.returns-in_default-made_image-clause-ends
returns-in_default-made_image-clause-ends g c =
    ends-unread _ _ _ _ 0 0 _ _ _ _ c.refuse-in_default-made_image.ensures.same tt c.refuse-in_default-made_image.ensures.line

pub returns-in_default-made_script-clause-ends : goal.returns-in_default-made_script-clause-ends
returns-in_default-made_script-clause-ends g c =
    ends-unread _ _ _ _ 0 0 _ _ _ _ c.refuse-in_default-made_script.ensures.same tt c.refuse-in_default-made_script.ensures.line

pub returns-in-Ok-open_script-clause-cause : goal.returns-in-Ok-open_script-clause-cause
returns-in-Ok-open_script-clause-cause g c = c.run_job.ensures.cause _ _

pub returns-in-Ok-made_script-clause-cause : goal.returns-in-Ok-made_script-clause-cause
returns-in-Ok-made_script-clause-cause g c = c.run_job-in-Made.ensures.cause _ _

pub returns-in-Err-clause-works : goal.returns-in-Err-clause-works
returns-in-Err-clause-works g c = ends-unstarted-work _ _ _ _ _ c.refuse-in-Err.ensures.same c.in-Err.ensures.cause

pub returns-in-Err-open_script-clause-works : goal.returns-in-Err-open_script-clause-works
returns-in-Err-open_script-clause-works g c = ends-unstarted-work _ _ _ _ _ c.refuse-in-Err-open_script.ensures.same c.in-Err-open_script.ensures.cause

pub returns-in-Ok-open_script-clause-works : goal.returns-in-Ok-open_script-clause-works
returns-in-Ok-open_script-clause-works g c =
    asked-as _ (Files c.in-Files.work c.in-Files.image.now c.in-Files.script.now) _ (ap (λ (asked : AskedWords). Some (told asked)) (sym c.in-Files.is) ∙ c.in-Some.ensures.exact)
    (ends-work _ _ _ _ _ c.run_job.ensures.exact)
