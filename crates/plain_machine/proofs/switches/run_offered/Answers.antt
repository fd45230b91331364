-- The flush that is asked for is told, and then the guest is entered.
use Rattle.std.proofs.Common.{true, false, refl, sym}
use Rattle.svm_model.specs.Machine.MovedVmcbs.{entered_turn}
use Rattle.svm_model.specs.Machine.Notices.{over}
use Rattle.svm_model.specs.Turn.Course.{Flushed, Turned}
use Rattle.plain_machine.specs.Turning.{heard_board, way_by}
use Rattle.plain_machine.proofs.Noticed.{flushed-by, gives-is, noticed_as}
use Rattle.plain_machine.proofs.switches.run_offered.Goals as goal

pub returns-then-tell_flushed-clause-gives : goal.returns-then-tell_flushed-clause-gives
returns-then-tell_flushed-clause-gives g c = λ space board memory before told last later.
    let t : Turned = over memory (heard_board board c.args.outward.now) c.args.vcpu.now before told in
    let next = entered_turn c.args.vmcb c.args.next_rip c.args.fields.now in
    gives-is _ (noticed_as false (Flushed c.in-Some.flush) t next) _ _ _ _
    (flushed-by (way_by space last) c.in-Some.flush _ t next false c.in-Some.ensures (c.if-tell_flushed.ensures.granted last later))
    refl (sym (c.if-tell_flushed.ensures.board board)) (sym c.enter_guest-then-tell_flushed.ensures) refl

pub returns-else-tell_flushed-clause-gives : goal.returns-else-tell_flushed-clause-gives
returns-else-tell_flushed-clause-gives g c = λ space board memory before told last later.
    let t : Turned = over memory (heard_board board c.args.outward.now) c.args.vcpu.now before told in
    let next = entered_turn c.args.vmcb c.args.next_rip c.args.fields.now in
    gives-is _ (noticed_as true (Flushed c.in-Some.flush) t next) _ _ _ _
    (flushed-by (way_by space last) c.in-Some.flush _ t next true c.in-Some.ensures (c.if-tell_flushed.ensures.granted last later))
    refl (sym (c.if-tell_flushed.ensures.board board)) refl refl
