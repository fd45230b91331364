use Rattle.std.proofs.Common.{Ok, subst}
use Rattle.svm_model.specs.Turn.Accesses.{accessed, data_part, on_part, with_part, with_piece}
use Rattle.svm_model.specs.declared.traps.Trap.{Trap}
use Rattle.svm_model.specs.declared.turns.Part.{Part}
use Rattle.turn_exec.proofs.accesses.one_word.Goals as goal

-- what is read in the part is handed on as a word
pub returns-in-Ok-clause-goes : goal.returns-in-Ok-clause-goes
unfolding with_piece
returns-in-Ok-clause-goes g c = λ next last vcpu stepped plays.
    let access = c.args.access.now in
    let then = on_part access access.address access.length (λ piece. next (accessed piece)) in
    subst (λ (refusal : Trap). g.M.Reach.plays c.args.reach.now (with_part (data_part c.args.user access access.address) refusal then) last vcpu stepped) c.refusal_of.ensures
    (subst (λ (part : Part). g.M.Reach.plays c.args.reach.now (with_part part c.refusal_of.result then) last vcpu stepped) c.data_part.ensures
    (c.in-Ok.ensures.goes then last vcpu stepped (c.read_word.ensures.goes (λ word. next (Ok word)) last vcpu stepped plays)))
