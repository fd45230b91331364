use Rattle.std.proofs.Common.{◌≡◌, length}
use Rattle.svm_model.specs.Instructions.Prefixes.{no_prefix, prefixes_of}
use Rattle.row_table.proofs.prefixes.read_prefixes.Given as goal

abbrev pub invariant-loop-byte : goal.invariant-loop-byte
invariant-loop-byte l = prefixes_of no_prefix l.fn.input.rest.now ≡ prefixes_of l.prefixes l.left

abbrev pub decreases-loop-byte : goal.decreases-loop-byte
decreases-loop-byte l = length l.left
