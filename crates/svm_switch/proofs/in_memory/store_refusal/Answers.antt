use Rattle.std.proofs.Common.{ap, sym, ◌∙◌, None}
use Rattle.svm_model.specs.Svm.Intercepts.{invalid_exit}
use Rattle.svm_model.specs.Svm.Vmcb.{Fields, values_of}
use Rattle.svm_switch.proofs.LeftLemmas.{values-exit}
use Rattle.svm_switch.specs.declared.in_memory.TheConstants.{EXIT_FIELDS}
use Rattle.svm_switch.proofs.in_memory.store_refusal.Goals as goal

pub returns : goal.returns
returns c =
    let v : Fields = c.args.fields.now in
    ap (λ (w : Fields). values_of w EXIT_FIELDS) (c.store_exit.ensures v (sym c.value-event.ensures.value))
    ∙ values-exit invalid_exit None v c.requires
