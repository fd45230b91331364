use Rattle.std.proofs.Common.{◌≡◌, None, replicate}
use Rattle.plain_machine.proofs.placing.none_placed.Given as goal

-- the processors so far
abbrev pub invariant-loop-cpu : goal.invariant-loop-cpu
invariant-loop-cpu l = record {
  so_far : l.placing.items ≡ replicate l._cpu None;
}
