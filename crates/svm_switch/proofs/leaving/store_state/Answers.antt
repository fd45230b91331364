use Rattle.std.proofs.Common.{sym}
use Rattle.svm_model.specs.Svm.Vmcb.{Fields}
use Rattle.svm_model.specs.Svm.Vmexit.{stored_controls, stored_flow, stored_pat, stored_segments, stored_state}
use Rattle.svm_model.specs.declared.register_file.Registers.{Registers}
use Rattle.svm_switch.proofs.StoredLemmas.{AreStored, stored-then}
use Rattle.svm_switch.proofs.leaving.store_state.Goals as goal

pub returns : goal.returns
unfolding stored_state
returns c =
    let v : Fields = c.args.fields.now in
    let r : Registers = c.args.registers.now in
    let controls : AreStored (stored_controls r) v c.store_controls.new.fields = record { is = c.store_controls.ensures } in
    let flow : AreStored (stored_flow r v) c.store_controls.new.fields c.store_flow.new.fields = record { is = c.store_flow.ensures v (sym c.value-shadow.ensures.value) } in
    let segments : AreStored (stored_segments r) c.store_flow.new.fields c.store_segments.new.fields = record { is = c.store_segments.ensures } in
    let pat : AreStored (stored_pat c.args.nested r) c.store_segments.new.fields c.store_pat.new.fields = record { is = c.store_pat.ensures } in
    (stored-then (stored-then (stored-then controls flow) segments) pat).is
