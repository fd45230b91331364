use Rattle.std.proofs.Common.{◌≡◌, ◌∙◌, ap, refl, subst, IsTrue, not}
use Rattle.svm_model.specs.Audit.Breaches.{after_exit}
use Rattle.svm_model.specs.Audit.HeldFields.{held_at_exit}
use Rattle.svm_model.specs.Svm.Vmcb.{values_of}
use Rattle.rule_memory.specs.HeldMap.{fields_at, held_place, same_held}
use Rattle.rule_memory.specs.declared.held.HeldPlace.{HeldPlace}
use Rattle.rule_memory.proofs.HeldLemmas.{held_fields}
use Rattle.rule_memory.proofs.StandLemmas.{same_translations}
use Rattle.rule_memory.proofs.memory.RuleMemoryWatch.left.Goals as goal

pub returns-clause-told : goal.returns-clause-told
returns-clause-told c = λ rules s.
    let vcpu = c.args.vcpu in
    let vmcb = c.args.vmcb in
    let stored = values_of c.args.values.now c.args.stored.now in
    let old = c.args.self.now.held in
    let new = c.hold_exit.new.held in
    let here = subst (λ q. fields_at new q ≡ held_at_exit stored (fields_at old q)) c.held_place.ensures c.hold_exit.ensures.here in
    let others = subst (λ q. (other : HeldPlace) → IsTrue (not (same_held other q)) → fields_at new other ≡ fields_at old other) c.held_place.ensures c.hold_exit.ensures.others in
    record {
      translations = same_translations c.args.self.now.translations rules.known vcpu (after_exit vmcb stored (rules.known vcpu)) refl s.translations;
      huge = s.huge;
      held = held_fields old new rules.known vcpu vmcb (held_at_exit stored ((rules.known vcpu).held vmcb)) s.held (here ∙ ap (held_at_exit stored) (s.held (held_place vcpu vmcb))) others;
      first = s.first;
      recent = s.recent;
    }
