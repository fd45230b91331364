use Rattle.std.proofs.Common.{length}
use Rattle.nested_walk.proofs.marks.+mark.Given as goal

abbrev pub decreases-mark : goal.decreases-mark
decreases-mark g l = length l.path.now
