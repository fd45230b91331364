use Rattle.std.proofs.Common.{◌≡◌}
use Rattle.std.specs.List.{flat_map, range_with_len}
use Rattle.workload.specs.Generated.{leaf_bytes}
use Rattle.workload.proofs.image.leaves.Given as goal

-- the leaves so far
abbrev pub invariant-loop-place : goal.invariant-loop-place
invariant-loop-place l = l.bytes.items ≡ flat_map leaf_bytes (range_with_len 0 l.place)
