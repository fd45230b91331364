-- The exit that was granted is stored, and what was kept comes back.
use Rattle.std.proofs.Common.{List, ℕ, false, refl, sym}
use Rattle.svm_model.specs.Machine.Notices.{brought, finished, over}
use Rattle.svm_model.specs.Memory.Bytes.{guest_of}
use Rattle.svm_model.specs.Svm.Vmcb.{FieldValue, values_of}
use Rattle.svm_model.specs.Turn.Course.{Board, Left, Turned}
use Rattle.svm_model.specs.declared.turns.Stepped.TheVariants.{Leaves}
use Rattle.svm_switch.specs.Left.{left_fields}
use Rattle.plain_machine.specs.Turning.{heard_board, way_by}
use Rattle.plain_machine.proofs.Noticed.{exited-by, gives-is, noticed_as}
use Rattle.plain_machine.proofs.Turning.{later-itself}
use Rattle.plain_machine.proofs.walking.exit.Goals as goal

pub returns-then-tell_left-clause-gives : goal.returns-then-tell_left-clause-gives
returns-then-tell_left-clause-gives g c = λ space control board told asked.
    let i = c.in-Some.inside in
    let nested = c.args.leaving.now.nested in
    let memory : List ℕ = guest_of c.args.window c.args.memory.now.bytes in
    let stored : List FieldValue = values_of c.values_to_leave-values.result (left_fields nested) in
    let start : Board = heard_board board c.args.outward.now in
    let t : Turned = over memory start c.args.vcpu.now (Leaves c.args.leaving.now.exit c.args.leaving.now.delivering) told in
    gives-is _ (finished t (noticed_as false (Left i.kept.vmcb stored) t (brought nested i stored))) _ _ _ _
    (exited-by (way_by space c.tell_left.new.outward) control t c.args.leaving.now.exit c.args.leaving.now.delivering i nested stored false
    c.in-Some.is asked c.values_to_leave-values.ensures.stored (c.if-tell_left.ensures.granted c.tell_left.new.outward (later-itself c.tell_left.new.outward)))
    (sym c.leave_guest.ensures.memory) (sym (c.if-tell_left.ensures.board board)) (sym c.leave_guest.ensures.vcpu) refl
