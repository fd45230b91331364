use Rattle.std.proofs.Common.{◌≡◌, drop, length}
use Rattle.svm_model.specs.Machine.World.{loaded}
use Rattle.report_text.proofs.tracer.load_segments.Given as goal

-- loading what is left leads where loading all leads
abbrev pub invariant-loop-segment : goal.invariant-loop-segment
invariant-loop-segment l = record {
  size : length l.memory ≡ length l.initial.memory;
  rest : loaded l.memory (drop l.segment-index l.segments) ≡ loaded l.initial.memory l.segments;
}
