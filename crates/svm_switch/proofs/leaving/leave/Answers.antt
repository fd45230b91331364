use Rattle.std.proofs.Common.{sym, ap, ◌∙◌, ◌≡◌, Bool}
use Rattle.svm_model.specs.Svm.Vmcb.{Fields, has_nested_paging, with_values}
use Rattle.svm_model.specs.Svm.Vmexit.{stored_exit, stored_on_exit, stored_state}
use Rattle.svm_switch.proofs.StoredLemmas.{AreStored, stored-then}
use Rattle.svm_switch.proofs.leaving.leave.Goals as goal

pub returns-clause-fields : goal.returns-clause-fields
unfolding stored_on_exit
returns-clause-fields c =
    let v : Fields = c.args.fields.now in
    let same : c.has_nested_paging-nested.result ≡ has_nested_paging v = c.has_nested_paging-nested.ensures in
    let state : AreStored (stored_state (has_nested_paging v) c.args.registers.now v) v c.store_state.new.fields =
    record { is = c.store_state.ensures ∙ ap (λ (n : Bool). with_values (stored_state n c.args.registers.now v) v) same } in
    let exit : AreStored (stored_exit c.args.exit.now c.args.delivering v) c.store_state.new.fields c.store_exit.new.fields =
    record { is = c.store_exit.ensures v (sym c.value-event.ensures.value) } in
    (stored-then state exit).is
