use Rattle.std.proofs.Common.{◌∙◌, ◌++◌, ◌∷◌, [], List, take, ap, sym}
use Rattle.svm_model.specs.Machine.Apic.{Apic}
use Rattle.svm_model.specs.Machine.World.{first_apics}
use Rattle.plain_machine.proofs.OpeningLemmas.{first_apics-next}
use Rattle.plain_machine.proofs.opening.first_apics.Goals as goal

pub loop-id-init : goal.loop-id-init
unfolding first_apics
loop-id-init c = record { so_far = c.new-apics.ensures.items }

pub loop-id-preserved : goal.loop-id-preserved
loop-id-preserved c = record {
  so_far =
      c.in-Ok.ensures.items
      ∙ ap (λ (apics : List Apic). apics ++ c.new.result ∷ []) c.loop-id.invariant.so_far
      ∙ ap (λ (apic : Apic). first_apics 0 (take c.loop-id.id c.args.starts.now) ++ apic ∷ []) c.new.ensures
      ∙ sym (first_apics-next c.args.starts.now c.loop-id.id c.loop-id-test.true);
}
