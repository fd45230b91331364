-- The instruction's course ends the turn.
use Rattle.std.proofs.Common.{rules}
use Rattle.svm_model.specs.Turn.Work.{course_of, done}
use Rattle.turn_exec.proofs.works.turn.Goals as goal

pub returns-in-Instruction-clause-goes : goal.returns-in-Instruction-clause-goes
unfolding course_of
returns-in-Instruction-clause-goes g c =
    let goes = c.execute.ensures.goes done in
    search rules
