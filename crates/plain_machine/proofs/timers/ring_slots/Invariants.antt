use Rattle.std.proofs.Common.{◌≡◌, ◌++◌, map, take, drop}
use Rattle.plain_machine.specs.Slots.{rung_slot}
use Rattle.plain_machine.proofs.timers.ring_slots.Given as goal

-- the timers so far have rung
abbrev pub invariant-loop-i : goal.invariant-loop-i
invariant-loop-i l = record {
  so_far : l.slots ≡ map (rung_slot l.event) (take l.i l.initial.slots) ++ drop l.i l.initial.slots;
}
