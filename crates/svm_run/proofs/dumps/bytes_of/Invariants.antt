use Rattle.std.proofs.Common.{◌≡◌, ◌≤◌, ◌+◌, take, drop, slice_get}
use Rattle.svm_model.specs.Formats.Trace.{memory_of}
use Rattle.svm_run.proofs.dumps.bytes_of.Given as goal

-- the bytes so far, and the address of the next one
abbrev pub invariant-loop-place : goal.invariant-loop-place
invariant-loop-place g l = record {
  so_far : l.bytes.items ≡ take l._place (drop l.address (memory_of (slice_get l.machine.world.guests l.guest.0)));
  next : l.at ≡ l.address + l._place;
  cost : l.steps ≤ l.initial.steps + l._place;
  later : l.initial.steps ≤ l.steps;
}
