use Rattle.std.proofs.Common.{◌≡◌, ◌∙◌, ◌==◌, ◌++◌, ◌∷◌, [], ap, if◌then◌else◌, rules, sym, Some, None, ℕ}
use Rattle.std.specs.BTreeMap.{get}
use Rattle.rule_memory.specs.Kept.{kept_in, kept_of, spaces}
use Rattle.rule_memory.proofs.SpaceLemmas.{appended, on_ok_from}
use Rattle.rule_memory.proofs.translations.append_at.Goals as goal

pub returns-in-Some : goal.returns-in-Some
returns-in-Some c =
    let old = c.args.translations.now in
    let place = c.args.place in
    let after = c.append_to.new.pages in
    let there : get spaces old place.space ≡ Some c.in-Some.pages.now = search rules in
    let writes = c.get_mut.follows.holds after in
    on_ok_from c.append_to.result _ _ (λ (done : (page : ℕ) → kept_of after page ≡ (if page == place.page then kept_of c.in-Some.pages.now place.page ++ c.args.leaf ∷ [] else kept_of c.in-Some.pages.now page)).
    appended old (c.get_mut.follows.lender after) place after c.args.leaf (writes.3 (search rules)).0
    (λ page. done page ∙ ap (λ o. if page == place.page then kept_in o place.page ++ c.args.leaf ∷ [] else kept_in o page) (sym there))) c.append_to.ensures

pub returns-in-Ok : goal.returns-in-Ok
returns-in-Ok c =
    let old = c.args.translations.now in
    let place = c.args.place in
    let after = c.append_to-2.new.pages in
    let there : get spaces old place.space ≡ None = search rules in
    appended old c.insert.new.self place after c.args.leaf (search rules)
    (λ page. search (rules, there))
