use Rattle.std.proofs.Common.{◌≡◌, drop}
use Rattle.std.specs.List.{list_any}
use Rattle.rule_memory.specs.Leaves.{same_leaf}
use Rattle.rule_memory.proofs.leaf_rules.has_leaf.Given as goal

abbrev pub invariant-loop-other : goal.invariant-loop-other
invariant-loop-other l = list_any (same_leaf l.leaf) (drop l.other-index l.leaves) ≡ list_any (same_leaf l.leaf) l.leaves
