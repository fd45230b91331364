use Rattle.rule_memory.specs.Kept.{kept_of}
use Rattle.rule_memory.proofs.FlushLemmas.{kept_about}
use Rattle.rule_memory.proofs.flushes.flush_about.Goals as goal

pub returns : goal.returns
returns c = λ known page.
    kept_about c.args.huge c.args.space.now c.args.asid c.args.address (kept_of c.args.pages.now) (kept_of c.flush_between.new.pages) c.span-span.result c.span-span.ensures.value
    (λ p low high. c.flush_between.ensures.within p low high) (λ p less. c.flush_between.ensures.below p less) (λ p more. c.flush_between.ensures.above p more) page (λ none. known none page)
