-- The vcpu's line, and what changed behind it.
use Rattle.std.proofs.Common.{◌≡◌, ◌++◌, Option, OnOk, sym, subst}
use Rattle.svm_model.specs.declared.names.VcpuId.{VcpuId}
use Rattle.plain_machine.proofs.GuestTurnLemmas.{on_ok}
use Rattle.svm_run.specs.Blocks.{copies_after, ran_lines}
use Rattle.svm_run.proofs.TracedLemmas.{ran_told}
use Rattle.svm_run.proofs.tracing.push_ran.Goals as goal

pub returns-clause-text : goal.returns-clause-text
returns-clause-text g c =
    let P : Option VcpuId → Type 0 = λ o. OnOk c.push_changes.result (c.push_changes.new.text.items ≡ c.args.text.now.items ++ ran_lines c.args.blocks.now c.args.machine.now.world o) in
    subst P (sym c.in-Some.is)
    (on_ok c.push_changes.result _ _ (λ e. ran_told c.args.text.now.items c.push_vcpu.new.text.items _ c.args.blocks.now c.args.machine.now.world c.in-Some.vcpu c.in_ok-push_vcpu.ensures e) c.push_changes.ensures.text)

pub returns-clause-copies : goal.returns-clause-copies
returns-clause-copies g c =
    let P : Option VcpuId → Type 0 = λ o. OnOk c.push_changes.result (c.push_changes.new.blocks ≡ copies_after c.args.blocks.now c.args.machine.now.world o) in
    subst P (sym c.in-Some.is) c.push_changes.ensures.copies
