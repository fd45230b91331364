use Rattle.std.proofs.Common.{length}
use Rattle.plain_machine.proofs.opening.+pages_in.Given as goal

-- the guests that are left
abbrev pub decreases-pages_in : goal.decreases-pages_in
decreases-pages_in l = length l.guests.now
