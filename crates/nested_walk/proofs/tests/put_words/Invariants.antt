use Rattle.svm_model.specs.Memory.Bytes.{IsWithin}
use Rattle.nested_walk.specs.declared.tests.TheConstants.{WINDOW}
use Rattle.nested_walk.proofs.tests.put_words.Given as goal

abbrev pub invariant-loop-place : goal.invariant-loop-place
invariant-loop-place l = IsWithin WINDOW l.memory.bytes
