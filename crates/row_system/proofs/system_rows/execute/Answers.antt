use Rattle.svm_model.specs.Instructions.SystemRows.{system_op}
use Rattle.row_system.proofs.system_rows.execute.Goals as goal

pub returns-in-Cli-clause-result : goal.returns-in-Cli-clause-result
unfolding system_op
returns-in-Cli-clause-result c = rw c.in-Cli.is (c.clear_interrupts.ensures.answer c.args.results.now)

pub returns-in-Sti-clause-result : goal.returns-in-Sti-clause-result
unfolding system_op
returns-in-Sti-clause-result c = rw c.in-Sti.is (c.set_interrupts.ensures.answer c.args.results.now)

pub returns-in-In-clause-result : goal.returns-in-In-clause-result
unfolding system_op
returns-in-In-clause-result c = rw c.in-In.is (c.read_port.ensures.answer c.args.results.now)

pub returns-in-Out-clause-result : goal.returns-in-Out-clause-result
unfolding system_op
returns-in-Out-clause-result c = rw c.in-Out.is (c.write_port.ensures.answer c.args.results.now)

pub returns-in-Invlpg-clause-result : goal.returns-in-Invlpg-clause-result
unfolding system_op
returns-in-Invlpg-clause-result c = rw c.in-Invlpg.is (c.drop_page.ensures.answer c.args.results.now)
