use Rattle.std.proofs.Common.{◌≡◌, ◌++◌, map, take, drop}
use Rattle.plain_machine.specs.Slots.{rung}
use Rattle.plain_machine.proofs.timers.ring_apics.Given as goal

-- the timers so far have rung
abbrev pub invariant-loop-i : goal.invariant-loop-i
invariant-loop-i l = record {
  so_far : l.apics ≡ map (rung l.event) (take l.i l.initial.apics) ++ drop l.i l.initial.apics;
}
