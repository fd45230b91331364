use Rattle.std.proofs.Common.{◌≡◌, map, take}
use Rattle.svm_model.specs.Machine.World.{first_guest}
use Rattle.report_text.proofs.tracer.first_memories.Given as goal

-- the memories of the guests so far
abbrev pub invariant-loop-guest : goal.invariant-loop-guest
invariant-loop-guest l = l.memories.items ≡ map (λ g. (first_guest g).memory) (take l.guest-index l.guests)
