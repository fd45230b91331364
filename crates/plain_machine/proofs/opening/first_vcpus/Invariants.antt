use Rattle.std.proofs.Common.{◌≡◌, map, take}
use Rattle.svm_model.specs.Machine.World.{first_vcpu}
use Rattle.plain_machine.proofs.opening.first_vcpus.Given as goal

-- the vcpus so far
abbrev pub invariant-loop-registers : goal.invariant-loop-registers
invariant-loop-registers l = record {
  so_far : l.vcpus.items ≡ map first_vcpu (take l.registers-index l.starts);
}
