use Rattle.std.proofs.Common.{◌≡◌, ◌++◌, drop}
use Rattle.std.specs.Option.{option_map}
use Rattle.plain_machine.specs.Machines.{guest_in}
use Rattle.svm_run.specs.Summary.{rax_lines}
use Rattle.svm_run.proofs.summary.push_guest.Given as goal

-- the text so far and the lines of the vcpus that are left are the whole
abbrev pub invariant-loop-index : goal.invariant-loop-index
invariant-loop-index l =
    option_map (λ g. l.text.items ++ rax_lines l.index (drop l.index g.vcpus)) (guest_in l.machine.world (record { 0 = 0 }))
    ≡ option_map (λ g. l.initial.text.items ++ rax_lines 0 g.vcpus) (guest_in l.machine.world (record { 0 = 0 }))
