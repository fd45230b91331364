use Rattle.std.proofs.Common.{length}
use Rattle.apic_state.proofs.registers.+place_on.Given as goal

abbrev pub decreases-place_on : goal.decreases-place_on
decreases-place_on l = length l.lines.now
