use Rattle.plain_machine.proofs.OpeningLemmas.{Opened}
use Rattle.plain_machine.proofs.opening.open_guests.Given as goal

-- the guests so far are there, and zeros behind them
abbrev pub invariant-loop-guest : goal.invariant-loop-guest
invariant-loop-guest l = record {
  opened : Opened l.guests l.guest-index l.slots.items l.base l.memory.bytes;
}
