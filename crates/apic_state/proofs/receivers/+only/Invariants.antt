use Rattle.std.proofs.Common.{length}
use Rattle.apic_state.proofs.receivers.+only.Given as goal

abbrev pub decreases-only : goal.decreases-only
decreases-only l = length l.apics.now
