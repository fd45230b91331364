-- The next vcpu's line comes behind those so far.
use Rattle.std.proofs.Common.{◌≡◌, ◌∙◌, sym, arith}
use Rattle.plain_machine.specs.Machines.{guest_in}
use Rattle.svm_run.proofs.Reports.{vcpus_all, vcpus_next}
use Rattle.svm_run.proofs.report.push_vcpus.Goals as goal

pub loop-index-preserved : goal.loop-index-preserved
loop-index-preserved c =
    vcpus_next (guest_in c.args.machine.now.world c.args.guest) c.args.guest.0 c.loop-index.index c.loop-index.text.items c.push_vcpu.new.text.items c.in_ok-push_vcpu.ensures
    ∙ c.loop-index.invariant

pub returns : goal.returns
returns c =
    let last : c.loop-index.index ≡ c.args.count = omega arith in
    sym c.loop-index.invariant ∙ rw last (vcpus_all c.args.machine.now.world.guests c.args.guest.0 c.args.count c.loop-index.text.items c.requires)
