use Rattle.std.proofs.Common.{◌≡◌, rules, subst}
use Rattle.svm_model.specs.Audit.HeldFields.{stale_below}
use Rattle.rule_memory.proofs.held.stale_of.Goals as goal

pub returns : goal.returns
returns c =
    let last : c.loop-group.group ≡ 11 = search rules in
    subst (λ n. c.loop-group.first ≡ stale_below c.args.entering c.args.vmcb c.args.found.now c.args.held.now n) last c.loop-group.invariant
