use Rattle.std.proofs.Common.{◌≡◌, ◌≤◌, ◌+◌, drop, map}
use Rattle.svm_model.specs.Formats.Script.{script_from}
use Rattle.svm_model.specs.Machine.Shapes.{image_shape}
use Rattle.script_format.proofs.Whole.{with_front}
use Rattle.script_format.proofs.parsing.script_from.Given as goal

-- the lines so far, and those of what is left; the number of the last one; and their events
abbrev pub invariant-loop-line : goal.invariant-loop-line
invariant-loop-line l = record {
  so_far : with_front l.found.items (script_from (image_shape l.image) (l.number + 1) l.events (map (λ line. line.now) (drop l.line-index l.lines))) ≡ script_from (image_shape l.image) 1 0 (map (λ line. line.now) l.lines);
  last : l.number ≡ l.line-index;
  few : l.events ≤ 1048576;
}
