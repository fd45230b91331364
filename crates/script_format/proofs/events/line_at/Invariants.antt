use Rattle.std.proofs.Common.{◌≤◌, ◌<◌, ◌-◌, length}
use Rattle.std.specs.List.{slice_get}
use Rattle.std.specs.Option.{IfSome}
use Rattle.script_format.proofs.events.line_at.Given as goal

-- line low begins at the number or before it, and line high, where there is one, behind it
abbrev pub invariant-loop-low : goal.invariant-loop-low
invariant-loop-low l = record {
  some : l.low < l.high;
  within : l.high ≤ length l.lines;
  from : IfSome (slice_get l.lines l.low) (λ line. line.first ≤ l.number);
  to : IfSome (slice_get l.lines l.high) (λ line. l.number < line.first);
}

abbrev pub decreases-loop-low : goal.decreases-loop-low
decreases-loop-low l = l.high - l.low
