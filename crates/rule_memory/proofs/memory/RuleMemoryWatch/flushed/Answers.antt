use Rattle.std.proofs.Common.{refl}
use Rattle.rule_memory.proofs.HeldLemmas.{same_held_fields}
use Rattle.rule_memory.proofs.RecentLemmas.{none_settled}
use Rattle.rule_memory.proofs.SpaceLemmas.{huge_uncovered}
use Rattle.rule_memory.proofs.StandLemmas.{flushed_translations}
use Rattle.rule_memory.proofs.memory.RuleMemoryWatch.flushed.Goals as goal

pub returns-clause-told : goal.returns-clause-told
returns-clause-told c = λ rules s.
    let old = c.args.self.now.translations in
    let new = c.drop_covered.new.translations in
    record {
      translations = flushed_translations old new rules.known c.args.vcpu c.args.flush s.translations (c.drop_covered.ensures s.huge);
      huge = huge_uncovered c.args.self.now.huge old new c.args.vcpu c.args.flush (c.drop_covered.ensures s.huge) s.huge;
      held = same_held_fields c.args.self.now.held rules.known c.args.vcpu _ refl s.held;
      first = s.first;
      recent = none_settled new 64;
    }
