use Rattle.std.proofs.Common.{◌≤◌, ◌+◌, ◌-◌}
use Rattle.rule_memory.specs.Kept.{kept_of, uncovered_in}
use Rattle.rule_memory.proofs.FlushLemmas.{AsFar}
use Rattle.rule_memory.proofs.flushes.flush_between.Given as goal

abbrev pub invariant-loop-page : goal.invariant-loop-page
invariant-loop-page l = (l.first ≤ l.from) × (l.from ≤ l.last) × AsFar (kept_of l.fn.pages) (uncovered_in l.space l.flush) (kept_of l.pages) l.first l.from

abbrev pub decreases-loop-page : goal.decreases-loop-page
decreases-loop-page l = l.last + 1 - l.from
