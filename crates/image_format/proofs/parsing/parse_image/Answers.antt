use Rattle.image_format.proofs.Lawful.{GivesImage-lawful}
use Rattle.image_format.proofs.parsing.parse_image.Goals as goal

pub returns-clause-lawful : goal.returns-clause-lawful
returns-clause-lawful c = GivesImage-lawful c.args.bytes.now c.image_of.result c.image_of.ensures
