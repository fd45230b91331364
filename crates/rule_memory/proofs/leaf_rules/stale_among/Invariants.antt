use Rattle.std.proofs.Common.{◌≡◌, None, drop}
use Rattle.std.specs.List.{fold}
use Rattle.svm_model.specs.Audit.Records.{stale_with}
use Rattle.svm_model.specs.Audit.WatchCalls.{making_of}
use Rattle.rule_memory.proofs.leaf_rules.stale_among.Given as goal

abbrev pub invariant-loop-leaf : goal.invariant-loop-leaf
invariant-loop-leaf l =
    fold (λ older newer. stale_with (making_of l.made) newer older) l.best (drop l.leaf-index l.leaves)
    ≡ fold (λ older newer. stale_with (making_of l.made) newer older) None l.leaves
