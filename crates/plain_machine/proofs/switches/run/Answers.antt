-- The fields of a VMCB that VMRUN finds are told before its work.
use Rattle.std.proofs.Common.{◌∙◌, List, [], ◌∷◌, ℕ, true, false, ap, refl, subst, sym, slice_index}
use Rattle.svm_model.specs.Machine.MovedVmcbs.{offered_to_l1, on_broken, vmrun}
use Rattle.svm_model.specs.Machine.Notices.{over}
use Rattle.svm_model.specs.Memory.Bytes.{guest_of}
use Rattle.svm_model.specs.Svm.VmcbRules.{broken}
use Rattle.svm_model.specs.Turn.Course.{Board, Found, Turned}
use Rattle.svm_model.specs.Turn.Play.{called}
use Rattle.svm_model.specs.declared.audits.TurnId.{TurnId}
use Rattle.svm_model.specs.declared.turns.Stepped.TheVariants.{Went}
use Rattle.plain_machine.specs.Turning.{Adds, Gives, heard_board, way_by}
use Rattle.plain_machine.proofs.NoticeLemmas.{adds-first}
use Rattle.plain_machine.proofs.Noticed.{adds-is, gives-is, gives-heard, noticed-by, noticed_as}
use Rattle.plain_machine.proofs.Turning.{later-then}
use Rattle.plain_machine.proofs.switches.run.Goals as goal

pub returns-then-not-tell_found-clause-gives : goal.returns-then-not-tell_found-clause-gives
returns-then-not-tell_found-clause-gives g c = λ space board before told last later.
    let memory : List ℕ = guest_of c.args.window c.args.memory.now.bytes in
    let vmcb : ℕ = slice_index c.args.vcpu.now.registers.general 0 in
    let way = way_by space last in
    let t : Turned = over memory (heard_board board c.args.outward.now) c.args.vcpu.now before told in
    let v = c.in-Ok.fields in
    let next : Turned → Turned = λ t. on_broken way t vmcb c.args.next_rip v (broken v (offered_to_l1 c.args.facts.now)) in
    gives-is _ (noticed_as true (Found vmcb true v) t next) _ _ _ _
    (sym (ap (vmrun way c.args.facts.now t vmcb c.args.next_rip) c.in-Ok.ensures.fields) ∙ noticed-by way (Found vmcb true v) t next true (c.if-not-tell_found.ensures.granted last later))
    refl (sym (c.if-not-tell_found.ensures.board board)) refl refl

pub returns-else-not-tell_found-clause-gives : goal.returns-else-not-tell_found-clause-gives
returns-else-not-tell_found-clause-gives g c = λ space board before told last later.
    let memory : List ℕ = guest_of c.args.window c.args.memory.now.bytes in
    let vmcb : ℕ = slice_index c.args.vcpu.now.registers.general 0 in
    let way = way_by space last in
    let start : Board = heard_board board c.args.outward.now in
    let t : Turned = over memory start c.args.vcpu.now before told in
    let v = c.in-Ok.fields in
    let next : Turned → Turned = λ t. on_broken way t vmcb c.args.next_rip v (broken v (offered_to_l1 c.args.facts.now)) in
    let of : Board → Turned = λ b. next (over memory b c.args.vcpu.now Went []) in
    gives-heard _ (of (called false start)) (Found vmcb true v) _ _ _ _
    (sym (ap (vmrun way c.args.facts.now t vmcb c.args.next_rip) c.in-Ok.ensures.fields)
    ∙ noticed-by way (Found vmcb true v) t next false (c.if-not-tell_found.ensures.granted last (later-then c.tell_found.new.outward c.run_found.new.outward last c.run_found.ensures.passed later)))
    (subst (λ (b : Board). Gives (of b) (guest_of c.args.window c.run_found.new.memory.bytes) (heard_board board c.run_found.new.outward) c.run_found.new.vcpu c.run_found.result) (c.if-not-tell_found.ensures.board board)
    (c.run_found.ensures.gives space board Went [] last later))

pub returns-else-not-tell_found-clause-told : goal.returns-else-not-tell_found-clause-told
returns-else-not-tell_found-clause-told g c = λ space board before told last later.
    let tells = g.W.Watch.tells in
    let turn = c.args.walking.now.turn in
    let memory : List ℕ = guest_of c.args.window c.args.memory.now.bytes in
    let vmcb : ℕ = slice_index c.args.vcpu.now.registers.general 0 in
    let way = way_by space last in
    let start : Board = heard_board board c.args.outward.now in
    let t : Turned = over memory start c.args.vcpu.now before told in
    let v = c.in-Ok.fields in
    let next : Turned → Turned = λ t. on_broken way t vmcb c.args.next_rip v (broken v (offered_to_l1 c.args.facts.now)) in
    let of : Board → Turned = λ b. next (over memory b c.args.vcpu.now Went []) in
    let rest : Adds tells turn last.refused (of (called false start)).told c.tell_found.new.self.watch.now c.run_found.new.walking.watch.now =
    subst (λ (b : Board). Adds tells turn last.refused (of b).told c.tell_found.new.self.watch.now c.run_found.new.walking.watch.now) (c.if-not-tell_found.ensures.board board)
    (subst (λ (u : TurnId). Adds tells u last.refused (of (heard_board board c.tell_found.new.outward)).told c.tell_found.new.self.watch.now c.run_found.new.walking.watch.now) c.if-not-tell_found.ensures.turn
    (c.run_found.ensures.told space board Went [] last later)) in
    adds-is tells turn last.refused _ (Found vmcb true v ∷ (of (called false start)).told) _ _
    (ap (λ (x : Turned). x.told)
    (sym (ap (vmrun way c.args.facts.now t vmcb c.args.next_rip) c.in-Ok.ensures.fields)
    ∙ noticed-by way (Found vmcb true v) t next false (c.if-not-tell_found.ensures.granted last (later-then c.tell_found.new.outward c.run_found.new.outward last c.run_found.ensures.passed later))))
    (adds-first tells turn last.refused (Found vmcb true v) _ _ c.tell_found.new.self.watch.now _ (c.tell_found.new.self.watch.now, c.if-not-tell_found.ensures.told refl, refl) rest)
