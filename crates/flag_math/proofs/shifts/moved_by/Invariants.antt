use Rattle.std.proofs.Common.{◌≡◌, ◌<◌, ◌^◌}
use Rattle.svm_model.specs.Instructions.Widths.{bits}
use Rattle.svm_model.specs.Instructions.Shifts.{moved_by}
use Rattle.flag_math.proofs.shifts.moved_by.Given as goal

abbrev pub invariant-loop-turn : goal.invariant-loop-turn
invariant-loop-turn l = (l.now ≡ moved_by l.width l.kind l.value l._turn) × (l.now < 2 ^ bits l.width)
