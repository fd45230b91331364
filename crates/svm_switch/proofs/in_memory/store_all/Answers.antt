use Rattle.std.proofs.Common.{sym}
use Rattle.svm_model.specs.Svm.Vmcb.{Fields}
use Rattle.svm_model.specs.Svm.Vmexit.{stored_exit, stored_live, stored_state}
use Rattle.svm_switch.proofs.StoredLemmas.{AreStored, stored-then}
use Rattle.svm_switch.proofs.in_memory.store_all.Goals as goal

pub returns : goal.returns
returns c =
    let v : Fields = c.args.fields.now in
    let left = c.args.leaving.now in
    let state : AreStored (stored_state left.nested c.args.registers.now v) v c.store_state.new.fields = record { is = c.store_state.ensures } in
    let live : AreStored (stored_live c.args.inside.now v) c.store_state.new.fields c.store_live.new.fields = record { is = c.store_live.ensures v (sym c.value-word.ensures.value) } in
    let exit : AreStored (stored_exit left.exit left.delivering v) c.store_live.new.fields c.store_exit.new.fields = record { is = c.store_exit.ensures v (sym c.value-event.ensures.value) } in
    (stored-then (stored-then state live) exit).is
