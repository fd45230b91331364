use Rattle.std.proofs.Common.{◌≡◌, ◌≤◌, ◌-◌, length, take}
use Rattle.svm_model.specs.Memory.Bytes.{IsWithin, SameOutside, guest_of, put_at}
use Rattle.plain_machine.proofs.loading.load_bytes.Given as goal

-- the bytes so far are put
abbrev pub invariant-loop-done : goal.invariant-loop-done
invariant-loop-done l = record {
  within : l.done ≤ length l.bytes;
  window : IsWithin l.window l.memory.bytes;
  loaded : guest_of l.window l.memory.bytes ≡ put_at (guest_of l.window l.initial.memory.bytes) l.address (take l.done l.bytes);
  others : SameOutside l.window l.initial.memory l.memory;
}

abbrev pub decreases-loop-done : goal.decreases-loop-done
decreases-loop-done l = length l.bytes - l.done
