use Rattle.std.proofs.Common.{◌≡◌, take}
use Rattle.std.specs.List.{flat_map}
use Rattle.svm_model.specs.Formats.Text.{guest_out_line}
use Rattle.report_text.proofs.outputs.outs_text.Given as goal

-- the lines of the writes so far
abbrev pub invariant-loop-write : goal.invariant-loop-write
invariant-loop-write l = l.text.items ≡ flat_map (guest_out_line l.guest.0) (take l.write-index l.writes)
