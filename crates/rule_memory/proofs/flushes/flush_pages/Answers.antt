use Rattle.std.proofs.Common.{refl, rules}
use Rattle.std.specs.Ordering.{nat_cmp}
use Rattle.rule_memory.specs.Kept.{leaves_in, uncovered_in}
use Rattle.rule_memory.proofs.Orders.{exact_numbers}
use Rattle.rule_memory.proofs.Retained.{kept_by_retain}
use Rattle.rule_memory.proofs.flushes.flush_pages.Goals as goal

pub returns : goal.returns
returns c =
    kept_by_retain nat_cmp exact_numbers leaves_in refl _ _ (λ page leaves. uncovered_in c.args.space.now c.args.flush page leaves) (λ k v b w f' t. search rules)
    (λ page. refl) _ _ c.retain.ensures.was_ordered c.retain.ensures.filtered
