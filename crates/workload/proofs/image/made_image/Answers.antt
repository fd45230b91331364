use Rattle.std.proofs.Common.{subst, sym}
use Rattle.svm_model.specs.Formats.LawfulImages.{IsLawfulImage}
use Rattle.workload.proofs.LawfulImages.{made_image-lawful}
use Rattle.workload.proofs.image.made_image.Goals as goal

pub returns-clause-lawful : goal.returns-clause-lawful
returns-clause-lawful c = subst IsLawfulImage (sym c.in-Ok.ensures) (made_image-lawful c.args.seed c.args.size c.requires)
