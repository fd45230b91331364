use Rattle.std.proofs.Common.{None, Option, ◌≡◌, ◌∙◌, ap, refl, subst, sym, slice_set, if◌then◌else◌, ◌||◌}
use Rattle.std.specs.Option.{option_map}
use Rattle.std.specs.List.{fold}
use Rattle.svm_model.specs.Audit.Breaches.{stale_translation}
use Rattle.svm_model.specs.Audit.Records.{record_of, stale_with}
use Rattle.svm_model.specs.Audit.WatchCalls.{breach_in, joined, making_of}
use Rattle.svm_model.specs.declared.audits.Stale.TheVariants.{Translation}
use Rattle.svm_model.specs.declared.page_tables.Leaf.{Leaf}
use Rattle.rule_memory.specs.Kept.{IsHugeKnownAt, kept_at}
use Rattle.rule_memory.specs.Leaves.{added_option}
use Rattle.rule_memory.specs.Places.{same_place}
use Rattle.rule_memory.specs.Recents.{AreSettled, recent_of, slot_of}
use Rattle.rule_memory.specs.declared.places.Place.{Place}
use Rattle.rule_memory.proofs.HeldLemmas.{same_held_fields}
use Rattle.rule_memory.proofs.RecentLemmas.{joined_none, kept_settled, known_at, known_same, known_stale}
use Rattle.rule_memory.proofs.StandLemmas.{made_huge, made_stale, made_translations, on_ok}
use Rattle.rule_memory.proofs.memory.RuleMemoryWatch.made.Goals as goal

pub returns-clause-told : goal.returns-clause-told
returns-clause-told c = λ rules s.
    let made = c.args.made.now in
    let place = c.place_of-place.result in
    let old = c.args.self.now.translations in
    let new = c.add_found.new.translations in
    let added = on_ok c.add_found.result _ (sym c.is_err.ensures.value ∙ c.if-is_err.false) c.add_found.ensures in
    let now = subst (λ q. (p : Place) → kept_at new p ≡ (if same_place p q then added_option made.leaf (kept_at old q) else kept_at old p)) c.place_of-place.ensures added in
    let stale = c.stale_among-stale.ensures ∙ ap (λ leaves. fold (λ older newer. stale_with (making_of made) newer older) None leaves) (c.leaves_at.ensures ∙ ap (kept_at old) c.place_of-place.ensures) ∙ made_stale old rules.known made s.translations in
    record {
      translations = made_translations old new rules.known made s.translations now;
      huge = subst (λ b. IsHugeKnownAt (c.args.self.now.huge || b) new) (sym c.found_huge.ensures) (made_huge c.args.self.now.huge old new place made.leaf s.huge added);
      recent = subst (λ r. AreSettled new r) (sym (c.keep_recent.ensures ∙ ap (λ leaves. slice_set c.args.self.now.recent (slot_of place) (recent_of place made.leaf leaves)) c.leaves_at-2.ensures)) (kept_settled old new c.args.self.now.recent place made.leaf s.recent added);
      held = same_held_fields c.args.self.now.held rules.known made.turn.vcpu _ refl s.held;
      first = c.joined-self.ensures ∙ ap (λ b. joined c.args.self.now.first b) (c.breach_of.ensures ∙ ap (λ (leaf : _). option_map (breach_in made.turn) (option_map (λ (l : Leaf). Translation (record_of (making_of made) l) made.outcome) leaf)) stale)
          ∙ ap (λ f. joined f (option_map (breach_in made.turn) (stale_translation (making_of made) (rules.known made.turn.vcpu).records))) s.first;
    }

pub returns-then-is_known-clause-told : goal.returns-then-is_known-clause-told
returns-then-is_known-clause-told c = λ rules s.
    let made = c.args.made.now in
    let old = c.args.self.now.translations in
    let known = known_at old c.args.self.now.recent made s.recent (sym c.is_known.ensures ∙ c.if-is_known.true) in
    let stale = sym (made_stale old rules.known made s.translations) ∙ known_stale old made known in
    record {
      translations = made_translations old old rules.known made s.translations (known_same old made known);
      huge = s.huge;
      recent = s.recent;
      held = same_held_fields c.args.self.now.held rules.known made.turn.vcpu _ refl s.held;
      first = s.first ∙ sym (joined_none rules.first) ∙ ap (λ (leaf : Option Leaf). joined rules.first (option_map (breach_in made.turn) (option_map (λ (l : Leaf). Translation (record_of (making_of made) l) made.outcome) leaf))) (sym stale);
    }
