use Rattle.std.proofs.Common.{◌≡◌, ◌++◌, drop}
use Rattle.svm_model.specs.Formats.Text.{guest_lines}
use Rattle.svm_run.proofs.report.push_guests.Given as goal

-- the text so far and what is told of the guests that are left are the whole
abbrev pub invariant-loop-number : goal.invariant-loop-number
invariant-loop-number l =
    l.text.items ++ guest_lines l.output l.number (drop l.number l.machine.world.guests)
    ≡ l.initial.text.items ++ guest_lines l.output 0 l.machine.world.guests
