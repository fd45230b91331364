-- The exit of an illegal VMRUN is told, and stored.
use Rattle.std.proofs.Common.{◌∙◌, List, ℕ, None, true, false, ap, refl, sym, slice_index}
use Rattle.svm_model.specs.Machine.MovedVmcbs.{refused_vmrun}
use Rattle.svm_model.specs.Machine.Notices.{over}
use Rattle.svm_model.specs.Memory.Bytes.{guest_of}
use Rattle.svm_model.specs.Svm.Intercepts.{invalid_exit}
use Rattle.svm_model.specs.Svm.Vmcb.{FieldValue, with_fields}
use Rattle.svm_model.specs.Svm.Vmexit.{left_vcpu, stored_exit}
use Rattle.svm_model.specs.Turn.Course.{Left, Turned}
use Rattle.svm_model.specs.declared.register_file.Registers.{Registers}
use Rattle.plain_machine.specs.Turning.{heard_board, way_by}
use Rattle.plain_machine.proofs.Noticed.{gives-is, noticed-by, noticed_as}
use Rattle.plain_machine.proofs.switches.refuse_guest.Goals as goal

pub returns-then-tell_left-clause-gives : goal.returns-then-tell_left-clause-gives
returns-then-tell_left-clause-gives g c = λ space board before told last later.
    let memory : List ℕ = guest_of c.args.window c.args.memory.now.bytes in
    let vmcb : ℕ = slice_index c.args.vcpu.now.registers.general 0 in
    let stored : List FieldValue = stored_exit invalid_exit None c.args.fields.now in
    let t : Turned = over memory (heard_board board c.args.outward.now) c.args.vcpu.now before told in
    let next = refused_vmrun vmcb c.args.next_rip stored in
    gives-is _ (noticed_as false (Left vmcb stored) t next) _ _ _ _
    (noticed-by (way_by space last) (Left vmcb stored) t next false (c.if-tell_left.ensures.granted last later))
    (sym (c.refuse_in_memory.ensures.stored ∙ ap (λ (l : List FieldValue). with_fields vmcb l memory) c.store_refusal.ensures))
    (sym (c.if-tell_left.ensures.board board))
    (sym (c.leave.ensures ∙ ap (λ (r : Registers). left_vcpu r c.args.vcpu.now) c.refuse_in_memory.ensures.registers))
    refl

pub returns-else-tell_left-clause-gives : goal.returns-else-tell_left-clause-gives
returns-else-tell_left-clause-gives g c = λ space board before told last later.
    let memory : List ℕ = guest_of c.args.window c.args.memory.now.bytes in
    let vmcb : ℕ = slice_index c.args.vcpu.now.registers.general 0 in
    let stored : List FieldValue = stored_exit invalid_exit None c.args.fields.now in
    let t : Turned = over memory (heard_board board c.args.outward.now) c.args.vcpu.now before told in
    let next = refused_vmrun vmcb c.args.next_rip stored in
    gives-is _ (noticed_as true (Left vmcb stored) t next) _ _ _ _
    (noticed-by (way_by space last) (Left vmcb stored) t next true (c.if-tell_left.ensures.granted last later))
    refl (sym (c.if-tell_left.ensures.board board)) refl refl
