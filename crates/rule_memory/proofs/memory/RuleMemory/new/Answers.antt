use Rattle.std.proofs.Common.{ap, refl}
use Rattle.std.specs.List.{list_any}
use Rattle.rule_memory.specs.Leaves.{is_huge}
use Rattle.rule_memory.proofs.RecentLemmas.{none_settled}
use Rattle.rule_memory.proofs.StandLemmas.{nothing_held, nothing_kept}
use Rattle.rule_memory.proofs.memory.RuleMemory.new.Goals as goal

pub returns : goal.returns
returns c = record {
  stands = record {
    translations = λ p. nothing_kept c.new.result c.new.ensures.empty p;
    huge = λ e p. ap (list_any is_huge) (nothing_kept c.new.result c.new.ensures.empty p);
    held = λ p. nothing_held c.new-2.result c.new-2.ensures.empty p;
    first = refl;
    recent = none_settled c.new.result 64;
  };
}
