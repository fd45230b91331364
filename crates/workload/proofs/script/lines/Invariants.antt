use Rattle.std.proofs.Common.{◌≡◌}
use Rattle.std.specs.List.{flat_map, range_with_len}
use Rattle.workload.specs.Generated.{vcpu_lines}
use Rattle.workload.proofs.script.lines.Given as goal

-- the lines of the vcpus so far
abbrev pub invariant-loop-vcpu : goal.invariant-loop-vcpu
invariant-loop-vcpu l = l.lines.items ≡ flat_map (vcpu_lines l.size) (range_with_len 0 l.vcpu)
