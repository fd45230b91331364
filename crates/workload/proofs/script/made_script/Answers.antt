use Rattle.std.proofs.Common.{subst, sym}
use Rattle.svm_model.specs.Formats.Script.{IsLawful}
use Rattle.svm_model.specs.Machine.Shapes.{image_shape}
use Rattle.script_format.proofs.Order.{all_counted}
use Rattle.workload.specs.Generated.{made_image}
use Rattle.workload.proofs.LawfulScripts.{made_script-lawful}
use Rattle.workload.proofs.script.made_script.Goals as goal

pub returns-clause-lawful : goal.returns-clause-lawful
returns-clause-lawful c seed = subst (IsLawful (image_shape (made_image seed c.args.size))) (sym c.in-Ok.ensures) (made_script-lawful seed c.args.size c.requires)

pub returns-clause-count : goal.returns-clause-count
returns-clause-count c seed = all_counted (image_shape (made_image seed c.args.size)) c.in-Ok.script (returns-clause-lawful c seed)
