use Rattle.std.proofs.Common.{◌≡◌, ◌+◌, drop}
use Rattle.svm_model.specs.Svm.VmcbLayout.{layout}
use Rattle.svm_model.specs.Memory.Bytes.{guest_of}
use Rattle.vmcb_layout.specs.Reading.{AreRead, IsPiece, reads_from}
use Rattle.vmcb_layout.proofs.reads.read_inside.Given as goal

abbrev pub invariant-loop-number : goal.invariant-loop-number
invariant-loop-number g l =
    AreRead (guest_of l.window l.memory.bytes) l.vmcb l.number l.fields.values
    × IsPiece (guest_of l.window l.memory.bytes) l.vmcb l.piece
    × (l.steps + reads_from (drop l.number layout) l.piece.offset ≡ l.fn.steps + 34)
