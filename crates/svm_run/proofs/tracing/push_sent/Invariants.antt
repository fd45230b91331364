use Rattle.std.proofs.Common.{◌≡◌, ◌++◌, take}
use Rattle.std.specs.List.{flat_map}
use Rattle.svm_model.specs.Formats.Text.{out_line}
use Rattle.svm_run.proofs.tracing.push_sent.Given as goal

-- the lines of the writes so far
abbrev pub invariant-loop-write : goal.invariant-loop-write
invariant-loop-write l = record {
  so_far : l.text.items ≡ l.initial.text.items ++ flat_map out_line (take l.write-index l.writes);
}
