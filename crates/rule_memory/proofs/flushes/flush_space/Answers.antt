use Rattle.std.proofs.Common.{◌≡◌, ◌∙◌, ap, rules, sym, Some}
use Rattle.std.specs.BTreeMap.{get}
use Rattle.std.specs.List.{list_any}
use Rattle.rule_memory.specs.Leaves.{is_huge}
use Rattle.rule_memory.specs.Kept.{kept_in, spaces, uncovered_in}
use Rattle.rule_memory.proofs.SpaceLemmas.{space_flushed}
use Rattle.rule_memory.proofs.flushes.flush_space.Goals as goal

pub returns-in-Some : goal.returns-in-Some
returns-in-Some c = λ known place.
    let old = c.args.translations.now in
    let space = c.args.space in
    let after = c.flush_these.new.pages in
    let there : get spaces old space ≡ Some c.in-Some.pages.now = search rules in
    let writes = c.get_mut.follows.holds after in
    space_flushed old (c.get_mut.follows.lender after) space after c.args.flush (writes.3 (search rules)).0
    (λ page. c.flush_these.ensures (λ none p. ap (λ o. list_any is_huge (kept_in o p)) (sym there) ∙ known none (record { space = space; page = p })) page
    ∙ ap (λ o. uncovered_in space c.args.flush page (kept_in o page)) (sym there)) place
