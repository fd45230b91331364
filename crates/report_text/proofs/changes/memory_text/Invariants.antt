use Rattle.std.proofs.Common.{◌≡◌, ◌≤◌, ◌+◌, ◌++◌, [], drop, length}
use Rattle.svm_model.specs.Formats.Trace.{changed_lines}
use Rattle.report_text.proofs.changes.memory_text.Given as goal

-- the lines so far, and those of what is left behind the stretch so far, are those of all
abbrev pub invariant-loop-place : goal.invariant-loop-place
invariant-loop-place l = record {
  short : length l.stretch.items ≤ l.place;
  lines : l.text.items ++ changed_lines l.guest.0 (l.address + l.place) l.stretch.items (drop l.place l.old) (drop l.place l.new)
      ≡ changed_lines l.guest.0 l.address [] l.old l.new;
}
