use Rattle.std.proofs.Common.{◌≡◌, ◌≤◌, ◌++◌, slice_set}
use Rattle.svm_model.specs.Formats.Trace.{pages_lines}
use Rattle.svm_run.specs.Blocks.{copy_of, memory_in}
use Rattle.svm_run.proofs.BlockLemmas.{merged}
use Rattle.svm_run.proofs.tracing.push_changes.Given as goal

-- the pages so far are printed and copied
abbrev pub invariant-loop-page : goal.invariant-loop-page
invariant-loop-page g l = record {
  text : l.text.items ≡ l.initial.text.items ++ pages_lines l.guest.0 (copy_of l.initial.blocks l.guest.0) (memory_in l.machine.world l.guest.0) l.page;
  copies : l.blocks ≡ slice_set l.initial.blocks l.guest.0 (merged (memory_in l.machine.world l.guest.0) (copy_of l.initial.blocks l.guest.0) l.page);
  later : l.initial.steps ≤ l.steps;
}
