use Rattle.std.proofs.Common.{length}
use Rattle.plain_machine.proofs.watching.+tell_passes.Given as goal

-- the passes that are left
abbrev pub decreases-tell_passes : goal.decreases-tell_passes
decreases-tell_passes g l = length l.passes.now
