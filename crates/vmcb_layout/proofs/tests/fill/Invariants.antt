use Rattle.svm_model.specs.Memory.Bytes.{IsWithin}
use Rattle.vmcb_layout.specs.declared.tests.TheConstants.{WINDOW}
use Rattle.vmcb_layout.proofs.tests.fill.Given as goal

abbrev pub invariant-loop-address : goal.invariant-loop-address
invariant-loop-address l = IsWithin WINDOW l.memory.bytes
