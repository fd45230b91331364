-- A VMCB is legal where it breaks no rule.
use Rattle.std.proofs.Common.{◌≡◌, ◌∙◌, List, ℕ, Option, Some, None, ap, refl, subst, sym, slice_index}
use Rattle.svm_model.specs.Machine.MovedVmcbs.{offered_to_l1, on_broken}
use Rattle.svm_model.specs.Machine.Notices.{over}
use Rattle.svm_model.specs.Memory.Bytes.{guest_of}
use Rattle.svm_model.specs.Svm.VmcbRules.{broken}
use Rattle.svm_model.specs.Turn.Course.{Turned}
use Rattle.svm_model.specs.declared.turns.Stepped.TheVariants.{Went}
use Rattle.svm_model.specs.declared.vmcbs.Checked.TheVariants.{Legal, Illegal}
use Rattle.svm_model.specs.declared.vmcbs.Offered.{Offered}
use Rattle.vmcb_checks.specs.Answers.{checked}
use Rattle.plain_machine.specs.Turning.{Adds, Gives, heard_board, way_by}
use Rattle.plain_machine.proofs.switches.run_found.Given.{Over}
use Rattle.plain_machine.proofs.switches.run_found.Goals as goal

legal-is : (o : Option ℕ) → Legal ≡ checked o → o ≡ None
legal-is None e = refl
legal-is (Some rule) e = absurd (cc)

illegal-is : (o : Option ℕ) (rule : ℕ) → Illegal rule ≡ checked o → o ≡ Some rule
illegal-is None rule e = absurd (cc)
illegal-is (Some other) rule e = cc

keeps : (g : Over) (c : goal.After-run_legal g) → broken c.args.fields.now (offered_to_l1 c.args.facts.now) ≡ None
keeps g c = sym (ap (λ (o : Offered). broken c.args.fields.now o) c.offered.ensures) ∙ legal-is _ c.in-Legal.ensures

breaks : (g : Over) (c : goal.After-refuse_guest g) → broken c.args.fields.now (offered_to_l1 c.args.facts.now) ≡ Some c.in_default.field-0
breaks g c = sym (ap (λ (o : Offered). broken c.args.fields.now o) c.offered.ensures) ∙ illegal-is _ c.in_default.field-0 c.in_default.ensures

pub returns-in-Legal-clause-gives : goal.returns-in-Legal-clause-gives
returns-in-Legal-clause-gives g c = λ space board before told last later.
    let memory : List ℕ = guest_of c.args.window c.args.memory.now.bytes in
    let t : Turned = over memory (heard_board board c.args.outward.now) c.args.vcpu.now before told in
    let of : Option ℕ → Turned = on_broken (way_by space last) t (slice_index c.args.vcpu.now.registers.general 0) c.args.next_rip c.args.fields.now in
    subst (λ (o : Option ℕ). Gives (of o) memory (heard_board board c.run_legal.new.outward) c.run_legal.new.vcpu c.run_legal.result) (sym (keeps g c))
    (c.run_legal.ensures.gives space board memory before told last later)

pub returns-in-Legal-clause-told : goal.returns-in-Legal-clause-told
returns-in-Legal-clause-told g c = λ space board before told last later.
    let memory : List ℕ = guest_of c.args.window c.args.memory.now.bytes in
    let t : Turned = over memory (heard_board board c.args.outward.now) c.args.vcpu.now before told in
    let of : Option ℕ → Turned = on_broken (way_by space last) t (slice_index c.args.vcpu.now.registers.general 0) c.args.next_rip c.args.fields.now in
    subst (λ (o : Option ℕ). Adds g.W.Watch.tells c.args.walking.now.turn last.refused (of o).told c.args.walking.now.watch.now c.run_legal.new.walking.watch.now) (sym (keeps g c))
    (c.run_legal.ensures.told space board memory before told last later)

pub returns-clause-gives : goal.returns-clause-gives
returns-clause-gives g c = λ space board before told last later.
    let memory : List ℕ = guest_of c.args.window c.args.memory.now.bytes in
    let t : Turned = over memory (heard_board board c.args.outward.now) c.args.vcpu.now before told in
    let of : Option ℕ → Turned = on_broken (way_by space last) t (slice_index c.args.vcpu.now.registers.general 0) c.args.next_rip c.args.fields.now in
    subst (λ (o : Option ℕ). Gives (of o) (guest_of c.args.window c.refuse_guest.new.memory.bytes) (heard_board board c.refuse_guest.new.outward) c.refuse_guest.new.vcpu Went) (sym (breaks g c))
    (c.refuse_guest.ensures.gives space board before told last later)

pub returns-clause-told : goal.returns-clause-told
returns-clause-told g c = λ space board before told last later.
    let memory : List ℕ = guest_of c.args.window c.args.memory.now.bytes in
    let t : Turned = over memory (heard_board board c.args.outward.now) c.args.vcpu.now before told in
    let of : Option ℕ → Turned = on_broken (way_by space last) t (slice_index c.args.vcpu.now.registers.general 0) c.args.next_rip c.args.fields.now in
    subst (λ (o : Option ℕ). Adds g.W.Watch.tells c.args.walking.now.turn last.refused (of o).told c.args.walking.now.watch.now c.refuse_guest.new.walking.watch.now) (sym (breaks g c))
    (c.refuse_guest.ensures.told space board before told last later)
