use Rattle.std.proofs.Common.{◌≡◌, ◌∙◌, ap, false, refl, rules, subst, sym, true}
use Rattle.svm_model.specs.declared.system.Flush.{Flush}
use Rattle.svm_model.specs.declared.system.Flush.TheVariants.{Whole}
use Rattle.rule_memory.specs.Kept.{kept_at, kept_in, spaces, uncovered}
use Rattle.rule_memory.specs.Places.{space_of}
use Rattle.rule_memory.specs.declared.places.Place.{Place}
use Rattle.rule_memory.specs.declared.places.Space.{Space}
use Rattle.rule_memory.proofs.Orders.{exact_spaces}
use Rattle.rule_memory.proofs.Retained.{kept_by_retain}
use Rattle.rule_memory.proofs.SpaceLemmas.{IsLinear, apart_all, apart_none, huge_behind, is_linear, kept_apart, left_of, linear_all, whole_all}
use Rattle.rule_memory.proofs.flushes.drop_covered.Goals as goal

pub returns-in-All : goal.returns-in-All
returns-in-All c = λ known place.
    kept_by_retain spaces exact_spaces (λ o. kept_in o place.page) refl _ _ (kept_apart c.args.vcpu) (λ k v b w f' t. search rules)
    (apart_none c.args.vcpu) _ _ c.retain.ensures.was_ordered c.retain.ensures.filtered place.space
    ∙ apart_all c.args.vcpu place (kept_at c.args.translations.now place) ∙ search rules

pub returns-in-Local : goal.returns-in-Local
returns-in-Local c = λ known place.
    let leaves = kept_at c.args.translations.now place in
    let flush = c.in-Local.flush in
    subst (λ (s : Space). kept_at c.flush_space-in-Local.new.translations place ≡ left_of s flush place leaves) c.space_of-in-Local.ensures (c.flush_space-in-Local.ensures known place)
    ∙ linear_all c.args.vcpu c.in-Local.asid flush (subst (IsLinear c.in-Local.asid) (sym c.in-Local.flush-is) (is_linear c.args.flush c.in-Local.asid c.in-Local.is)) place leaves
    ∙ ap (λ (f : Flush). uncovered c.args.vcpu f place leaves) c.in-Local.flush-is

pub returns-in-Whole : goal.returns-in-Whole
returns-in-Whole c = λ known place.
    let old = c.args.translations.now in
    let between = c.flush_space.new.translations in
    let flush = Whole c.in-Whole.asid in
    let linear = space_of c.args.vcpu c.in-Whole.asid false in
    let nested = space_of c.args.vcpu c.in-Whole.asid true in
    let first = subst (λ (s : Space). (p : Place) → kept_at between p ≡ left_of s flush p (kept_at old p)) c.space_of.ensures (c.flush_space.ensures known) in
    let second = subst (λ (s : Space). (p : Place) → kept_at c.flush_space-in-Whole.new.translations p ≡ left_of s flush p (kept_at between p)) c.space_of-in-Whole.ensures
    (c.flush_space-in-Whole.ensures (huge_behind c.args.huge old between linear flush first known)) in
    second place ∙ ap (left_of nested flush place) (first place) ∙ whole_all c.args.vcpu c.in-Whole.asid place (kept_at old place)
    ∙ ap (λ (f : Flush). uncovered c.args.vcpu f place (kept_at old place)) (sym c.in-Whole.is)
