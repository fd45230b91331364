use Rattle.script_format.proofs.Lawful.{GivesScript-lawful, GivesScript-counted}
use Rattle.script_format.proofs.parsing.parse_script.Goals as goal

pub returns-clause-lawful : goal.returns-clause-lawful
returns-clause-lawful c = GivesScript-lawful c.args.bytes.now c.args.image.now c.script_of.result c.requires.lawful.some_cpus c.script_of.ensures

pub returns-clause-count : goal.returns-clause-count
returns-clause-count c = GivesScript-counted c.args.bytes.now c.args.image.now c.script_of.result c.requires.lawful.some_cpus c.script_of.ensures
