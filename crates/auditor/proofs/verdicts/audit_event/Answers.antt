use Rattle.std.proofs.Common.{◌∙◌}
use Rattle.auditor.proofs.RuleLemmas.{is_audited}
use Rattle.auditor.proofs.verdicts.audit_event.Goals as goal

-- the memory tells the first breach of what it was told of the event
pub returns-in-Ok-clause-breach : goal.returns-in-Ok-clause-breach
returns-in-Ok-clause-breach g c =
    is_audited c.args.memory.now c.event.new.watch c.args.machine.now.world (g.B.Ports.bus c.args.bus.now) c.args.event c.in-Ok.ensures.told c.copied.result
    (λ rules stands. c.copied.ensures ∙ c.first.ensures rules stands)
