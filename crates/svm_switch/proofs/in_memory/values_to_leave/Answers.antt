use Rattle.std.proofs.Common.{ap, refl, ◌∙◌, ◌≡◌, List, ℕ}
use Rattle.svm_model.specs.Memory.Bytes.{guest_of}
use Rattle.svm_model.specs.Svm.Vmcb.{Fields, fields_in, values_of, with_values}
use Rattle.svm_switch.proofs.LeftLemmas.{size-found, values-left}
use Rattle.svm_switch.specs.Left.{left_fields, stored_in_all}
use Rattle.svm_switch.proofs.in_memory.values_to_leave.Goals as goal

pub returns-clause-stored : goal.returns-clause-stored
returns-clause-stored g c =
    let i = c.args.inside.now in
    let left = c.args.leaving.now in
    let guest : List ℕ = guest_of c.args.window c.args.memory.now.bytes in
    let v : Fields = fields_in guest i.kept.vmcb in
    let found : c.read_inside-values.result ≡ v = c.read_inside-values.ensures.fields in
    let stored : c.store_all.new.fields ≡ with_values (stored_in_all c.args.registers.now i left v) v =
    c.store_all.ensures ∙ ap (λ (w : Fields). with_values (stored_in_all c.args.registers.now i left w) w) found in
    ap (λ (w : Fields). values_of w (left_fields left.nested)) stored
    ∙ values-left left.nested c.args.registers.now i left v refl (size-found guest i.kept.vmcb)
