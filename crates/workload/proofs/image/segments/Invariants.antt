use Rattle.std.proofs.Common.{◌≡◌, ◌++◌, map}
use Rattle.std.specs.List.{range_with_len}
use Rattle.workload.specs.Generated.{tables, code_segment}
use Rattle.workload.proofs.image.segments.Given as goal

-- the tables, and the code of the vcpus so far
abbrev pub invariant-loop-vcpu : goal.invariant-loop-vcpu
invariant-loop-vcpu l = l.segments.items ≡ tables ++ map (code_segment l.seed l.size) (range_with_len 0 l.vcpu)
