use Rattle.std.proofs.Common.{length}
use Rattle.page_walk.proofs.walks.+mark.Given as goal

abbrev pub decreases-mark : goal.decreases-mark
decreases-mark l = length l.path.now
