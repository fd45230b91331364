use Rattle.std.proofs.Common.{◌≡◌, ◌∙◌, ap, subst, sym, if◌then◌else◌, IsTrue, not}
use Rattle.std.specs.Option.{option_map}
use Rattle.svm_model.specs.Audit.HeldFields.{held_at_entry, stale_fields}
use Rattle.svm_model.specs.Audit.WatchCalls.{breach_in, joined}
use Rattle.rule_memory.specs.HeldMap.{fields_at, held_place, same_held}
use Rattle.rule_memory.specs.declared.held.HeldPlace.{HeldPlace}
use Rattle.rule_memory.proofs.HeldLemmas.{found_fields, found_translations}
use Rattle.rule_memory.proofs.StandLemmas.{on_ok}
use Rattle.rule_memory.proofs.memory.RuleMemoryWatch.fields.Goals as goal

pub returns-clause-told : goal.returns-clause-told
returns-clause-told c = λ rules s.
    let turn = c.args.turn in
    let vcpu = c.args.turn.vcpu in
    let vmcb = c.args.vmcb in
    let found = c.args.found.now in
    let entering = c.args.entering in
    let old = c.args.self.now.held in
    let new = c.hold_found.new.held in
    let done = sym c.is_err.ensures.value ∙ c.if-is_err.false in
    let here = subst (λ q. fields_at new q ≡ (if entering then held_at_entry found (fields_at old q) else fields_at old q)) c.held_place-place.ensures (on_ok c.hold_found.result _ done c.hold_found.ensures.here) in
    let others = subst (λ q. (other : HeldPlace) → IsTrue (not (same_held other q)) → fields_at new other ≡ fields_at old other) c.held_place-place.ensures (on_ok c.hold_found.result _ done c.hold_found.ensures.others) in
    let stale = subst (λ q. c.stale_held-stale.result ≡ stale_fields entering q.vmcb found (fields_at old q)) c.held_place-place.ensures c.stale_held-stale.ensures in
    record {
      translations = found_translations entering c.args.self.now.translations rules.known vcpu vmcb found s.translations;
      huge = s.huge;
      recent = s.recent;
      held = found_fields entering old new rules.known vcpu vmcb found s.held here others;
      first = c.joined-self.ensures ∙ ap (λ b. joined c.args.self.now.first b) (c.breach_at.ensures ∙ ap (option_map (breach_in turn)) (stale ∙ ap (stale_fields entering vmcb found) (s.held (held_place vcpu vmcb))))
          ∙ ap (λ f. joined f (option_map (breach_in turn) (stale_fields entering vmcb found ((rules.known vcpu).held vmcb)))) s.first;
    }
