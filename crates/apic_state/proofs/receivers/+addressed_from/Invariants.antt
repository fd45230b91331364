use Rattle.std.proofs.Common.{length}
use Rattle.apic_state.proofs.receivers.+addressed_from.Given as goal

abbrev pub decreases-addressed_from : goal.decreases-addressed_from
decreases-addressed_from l = length l.apics.now
