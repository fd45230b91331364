use Rattle.std.proofs.Common.{◌≡◌, map}
use Rattle.std.specs.List.{range_with_len}
use Rattle.workload.specs.Generated.{start_of}
use Rattle.workload.proofs.image.vcpus.Given as goal

-- the vcpus so far
abbrev pub invariant-loop-vcpu : goal.invariant-loop-vcpu
invariant-loop-vcpu l = l.vcpus.items ≡ map start_of (range_with_len 0 l.vcpu)
