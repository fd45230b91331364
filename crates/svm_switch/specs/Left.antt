-- What a #VMEXIT stores, and in which fields (volume 2, '#VMEXIT').
use Rattle.std.specs.Prelude.{Bool, true, false, List, ◌++◌}
use Rattle.svm_model.specs.Svm.Vmcb.{Fields, FieldValue}
use Rattle.svm_model.specs.Svm.Vmexit.{stored_exit, stored_live, stored_state}
use Rattle.svm_model.specs.declared.register_file.Registers.{Registers}
use Rattle.svm_model.specs.declared.vcpus.Inside.{Inside}
use Rattle.svm_model.specs.declared.vmcbs.Field.{Field}
use Rattle.svm_switch.specs.declared.in_memory.Leaving.{Leaving}
use Rattle.svm_switch.specs.declared.in_memory.TheConstants.{LEFT_FIELDS, LEFT_NESTED_FIELDS}

abbrev pub stored_in_all : Registers → Inside → Leaving → Fields → List FieldValue
stored_in_all r i left v = stored_state left.nested r v ++ stored_live i v ++ stored_exit left.exit left.delivering v

abbrev pub left_fields : Bool → List Field
left_fields true = LEFT_NESTED_FIELDS
left_fields false = LEFT_FIELDS
