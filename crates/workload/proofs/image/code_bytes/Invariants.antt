use Rattle.std.proofs.Common.{◌≡◌}
use Rattle.std.specs.List.{flat_map, range_with_len}
use Rattle.workload.specs.Generated.{add_bytes}
use Rattle.workload.proofs.image.code_bytes.Given as goal

-- the instructions of the numbers so far
abbrev pub invariant-loop-place : goal.invariant-loop-place
invariant-loop-place l = l.bytes.items ≡ flat_map (add_bytes l.seed l.vcpu) (range_with_len 0 l.place)
