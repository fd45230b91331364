-- The fields of a virtual machine control block: their values in memory, and what they say (volume 2, 'VMCB Layout').
use Rattle.std.specs.Prelude.{ℕ, ◌+◌, ◌%◌, nat_le, List, [], ◌∷◌, Bool, if◌then◌else◌, Result, Ok, Err, length, map, max, slice_index, slice_set}
use Rattle.svm_model.specs.Memory.Bits.{bit, bits_from}
use Rattle.svm_model.specs.Memory.Bytes.{number_at, with_number}
use Rattle.svm_model.specs.declared.register_file.Segment.{Segment}
use Rattle.svm_model.specs.declared.vmcbs.Field.{Field}
use Rattle.svm_model.specs.declared.vmcbs.Field.TheVariants as f
use Rattle.svm_model.specs.declared.vmcbs.FieldPlace.{FieldPlace}
use Rattle.svm_model.specs.declared.windows.OutsideMemory.{OutsideMemory}
use Rattle.svm_model.specs.Svm.VmcbLayout.{layout, number_of, place_of}

-- The values.

-- one for each field, in the order of the layout
pub record Fields : Type 0 where
  pub values : List ℕ

unfoldable pub value : Fields → Field → ℕ
value fields field = slice_index fields.values (number_of field)

unfoldable pub with_value : Fields → Field → ℕ → Fields
with_value fields field value = record { values = slice_set fields.values (number_of field) value }

-- the bit of a field
abbrev pub field_bit : Field → ℕ → Fields → Bool
field_bit field number fields = bit number (value fields field)

-- what memory has at a VMCB
unfoldable pub fields_in : List ℕ → ℕ → Fields
fields_in memory vmcb = record { values = map (λ (p : FieldPlace). number_at memory (vmcb + p.offset) p.width) layout }

-- where it is there: the page of a VMCB, or the first address outside
unfoldable pub fields_at : List ℕ → ℕ → Result Fields OutsideMemory
fields_at memory vmcb =
    if nat_le (vmcb + 4096) (length memory) then Ok (fields_in memory vmcb) else Err (record { address = max vmcb (length memory) })

-- memory with another value of a field
unfoldable pub with_field : ℕ → Field → ℕ → List ℕ → List ℕ
with_field vmcb field value memory = with_number memory (vmcb + (place_of field).offset) (place_of field).width value

-- Several fields with their values.
pub record FieldValue : Type 0 where
  pub field : Field
  pub value : ℕ

abbrev pub value_of : Fields → Field → FieldValue
value_of fields field = record { field = field; value = value fields field }

abbrev pub values_of : Fields → List Field → List FieldValue
values_of fields list = map (value_of fields) list

-- the fields with these values
unfoldable pub with_values : List FieldValue → Fields → Fields
with_values [] fields = fields
with_values (s ∷ stored) fields = with_values stored (with_value fields s.field s.value)

-- memory with these values at a VMCB
unfoldable pub with_fields : ℕ → List FieldValue → List ℕ → List ℕ
with_fields vmcb [] memory = memory
with_fields vmcb (s ∷ stored) memory = with_fields vmcb stored (with_field vmcb s.field s.value memory)

-- What the fields say.

-- the virtual-interrupt word
abbrev pub v_tpr : Fields → ℕ
v_tpr fields = value fields f.VirtualInterrupt % 256

abbrev pub v_irq : Fields → Bool
v_irq = field_bit f.VirtualInterrupt 8

abbrev pub v_gif : Fields → Bool
v_gif = field_bit f.VirtualInterrupt 9

abbrev pub v_intr_prio : Fields → ℕ
v_intr_prio fields = bits_from 16 4 (value fields f.VirtualInterrupt)

abbrev pub v_ign_tpr : Fields → Bool
v_ign_tpr = field_bit f.VirtualInterrupt 20

abbrev pub v_intr_masking : Fields → Bool
v_intr_masking = field_bit f.VirtualInterrupt 24

abbrev pub has_v_gif : Fields → Bool
has_v_gif = field_bit f.VirtualInterrupt 25

abbrev pub has_avic : Fields → Bool
has_avic = field_bit f.VirtualInterrupt 31

abbrev pub v_intr_vector : Fields → ℕ
v_intr_vector fields = bits_from 32 8 (value fields f.VirtualInterrupt)

abbrev pub has_nested_paging : Fields → Bool
has_nested_paging = field_bit f.NpEnable 0

-- a segment or table register, by the number of its selector
abbrev pub segment_from : ℕ → Fields → Segment
segment_from number fields = record {
  selector = slice_index fields.values number;
  attributes = slice_index fields.values (number + 1);
  limit = slice_index fields.values (number + 2);
  base = slice_index fields.values (number + 3);
}

abbrev pub segment_in : Field → Fields → Segment
segment_in selector fields = segment_from (number_of selector) fields
