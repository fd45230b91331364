-- The next vcpu's line comes behind those so far.
use Rattle.std.proofs.Common.{◌≡◌, ◌∙◌, sym, arith}
use Rattle.plain_machine.specs.Machines.{guest_in}
use Rattle.svm_run.proofs.SummaryLemmas.{raxes_all, raxes_next}
use Rattle.svm_run.proofs.summary.push_guest.Goals as goal

pub loop-index-preserved : goal.loop-index-preserved
loop-index-preserved c =
    raxes_next (guest_in c.args.machine.now.world (record { 0 = 0 })) c.loop-index.index c.loop-index.text.items c.push_rax.new.text.items c.in_ok-push_rax.ensures
    ∙ c.loop-index.invariant

pub returns : goal.returns
returns c =
    let last : c.loop-index.index ≡ c.args.count = omega arith in
    sym c.loop-index.invariant ∙ rw last (raxes_all c.args.machine.now.world.guests 0 c.args.count c.loop-index.text.items c.requires)
