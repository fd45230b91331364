use Rattle.std.proofs.Common.{◌≡◌, drop}
use Rattle.svm_model.specs.Memory.Bytes.{IsWithin, SameOutside, guest_of}
use Rattle.svm_model.specs.Machine.World.{loaded}
use Rattle.plain_machine.proofs.loading.load_segments.Given as goal

-- loading what is left leads where loading all leads
abbrev pub invariant-loop-segment : goal.invariant-loop-segment
invariant-loop-segment l = record {
  window : IsWithin l.window l.memory.bytes;
  rest : loaded (guest_of l.window l.memory.bytes) (drop l.segment-index l.segments) ≡ loaded (guest_of l.window l.initial.memory.bytes) l.segments;
  others : SameOutside l.window l.initial.memory l.memory;
}
