use Rattle.std.proofs.Common.{rules}
use Rattle.std.proofs.lemmas.List.Edits.{map_over_more}
use Rattle.plain_machine.specs.Slots.{rung}
use Rattle.plain_machine.proofs.timers.ring_apics.Goals as goal

pub loop-i-preserved : goal.loop-i-preserved
loop-i-preserved c = search (rules, map_over_more (rung c.args.event))
