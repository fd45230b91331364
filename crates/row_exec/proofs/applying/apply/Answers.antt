use Rattle.std.proofs.Common.{ap, sym, ◌∙◌}
use Rattle.svm_model.specs.Instructions.Operands.{State, state}
use Rattle.svm_model.proofs.LeadsLemmas.{applied-moves_on}
use Rattle.row_exec.proofs.applying.apply.Goals as goal

pub returns-clause-moves_on : goal.returns-clause-moves_on
returns-clause-moves_on c = λ done.
    let old = state c.args.registers.now c.args.results.now in
    ap (λ (s : State). s.registers.rip) c.apply_row.ensures.state
    ∙ applied-moves_on c.args.row.now c.args.next_rip c.args.values.now old c.requires (sym c.apply_row.ensures.answer ∙ done)
