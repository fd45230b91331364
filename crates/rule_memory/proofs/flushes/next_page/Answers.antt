use Rattle.std.proofs.Common.{◌≤◌, rules}
use Rattle.rule_memory.proofs.FlushLemmas.{first_least, in_between, less_most, none_before}
use Rattle.rule_memory.proofs.flushes.next_page.Goals as goal

pub returns-in-Some-clause-next : goal.returns-in-Some-clause-next
returns-in-Some-clause-next c = λ other low high.
    let most : c.in-Some.page.now ≤ c.args.last = search rules in
    none_before c.args.pages.now other c.in-Some.page.now
    (λ some. first_least c.range.result c.next.new.self c.in-Some.page.now other c.in-Some.field-0-1.now c.in-Some.ensures.steps
    ((c.range.ensures.in_range (search rules)).2 other (in_between _ _ c.args.first c.args.last other (search rules) (search rules) low (less_most other c.in-Some.page.now c.args.last high most)) some)) high
