use Rattle.std.proofs.Common.{◌≡◌, ◌++◌, drop}
use Rattle.std.specs.Option.{option_map}
use Rattle.svm_model.specs.Formats.Text.{vcpu_lines}
use Rattle.plain_machine.specs.Machines.{guest_in}
use Rattle.svm_run.proofs.report.push_vcpus.Given as goal

-- the text so far and the lines of the vcpus that are left are the whole
abbrev pub invariant-loop-index : goal.invariant-loop-index
invariant-loop-index l =
    option_map (λ g. l.text.items ++ vcpu_lines l.guest.0 l.index (drop l.index g.vcpus)) (guest_in l.machine.world l.guest)
    ≡ option_map (λ g. l.initial.text.items ++ vcpu_lines l.guest.0 0 g.vcpus) (guest_in l.machine.world l.guest)
