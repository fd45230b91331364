-- Held fields: what a vcpu's processor may have kept of a VMCB (volume 2, 'VMCB Clean Bits').
use Rattle.std.specs.Prelude.{ℕ, zero, suc, ◌==◌, nat_lt, List, [], ◌∷◌, Bool, Option, Some, None, if◌then◌else◌}
use Rattle.std.specs.Option.{option_map, option_or}
use Rattle.svm_model.specs.Memory.Bits.{bit}
use Rattle.svm_model.specs.Svm.Vmcb.{Fields, FieldValue, value, values_of, with_values}
use Rattle.svm_model.specs.Svm.VmcbLayout.{group_fields}
use Rattle.svm_model.specs.declared.audits.Stale.{Stale}
use Rattle.svm_model.specs.declared.audits.Stale.TheVariants as stale
use Rattle.svm_model.specs.declared.vmcbs.Field.{Field}
use Rattle.svm_model.specs.declared.vmcbs.Field.TheVariants as f

-- A processor may keep the fields of a VMCB that it has entered, by the VMCB's address, in groups with a clean bit each. The
-- first VMRUN holds all groups, and none is let go again, so that a value for each field is held, or nothing. Group 11, the
-- AVIC's, has no fields of a VMCB that L1 may use.
abbrev pub Held : Type 0
Held = Option Fields

abbrev pub held_groups : ℕ
held_groups = 11

-- Who has them read again: L1, which clears the clean bit of a group of which it has changed a field. VMRUN then reads the group
-- from memory. Of a group that is marked clean the values that are held stay.

-- the clean bit of a group
abbrev pub is_clean : Fields → ℕ → Bool
is_clean found group = bit group (value found f.Clean)

abbrev pub with_group : Fields → ℕ → Fields → Fields
with_group found group held = if is_clean found group then held else with_values (values_of found (group_fields group)) held

-- the groups below a number are held as VMRUN holds them
unfoldable pub with_groups : Fields → ℕ → Fields → Fields
with_groups found zero held = held
with_groups found (suc group) held = with_group found group (with_groups found group held)

abbrev pub held_at_entry : Fields → Held → Held
held_at_entry found None = Some found
held_at_entry found (Some held) = Some (with_groups found held_groups held)

-- What #VMEXIT stores in a VMCB is what is held of it from then on.
abbrev pub held_at_exit : List FieldValue → Held → Held
held_at_exit stored held = option_map (with_values stored) held

-- Which are stale: a group that is marked clean at VMRUN and of which a held value is not the one in memory. While L2 runs, the
-- processor may go by what it holds of groups 0 to 4, which say how L2 runs; they may not change in memory then, whatever is
-- marked. The others are the processor's own until #VMEXIT.

abbrev pub counts : Bool → Fields → ℕ → Bool
counts entering found group = if entering then is_clean found group else nat_lt group 5

-- the first field of a group whose held value is not the one that is found
unfoldable pub first_differing : Fields → Fields → List Field → Option Field
first_differing found held [] = None
first_differing found held (field ∷ fields) =
    if value held field == value found field then first_differing found held fields else Some field

abbrev pub field_stale : ℕ → Fields → Fields → ℕ → Field → Stale
field_stale vmcb found held group field = stale.Field group vmcb field (value held field) (value found field)

abbrev pub stale_in : Bool → ℕ → Fields → Fields → ℕ → Option Stale
stale_in entering vmcb found held group =
    if counts entering found group then option_map (field_stale vmcb found held group) (first_differing found held (group_fields group)) else None

-- the first one of the groups below a number
unfoldable pub stale_below : Bool → ℕ → Fields → Fields → ℕ → Option Stale
stale_below entering vmcb found held zero = None
stale_below entering vmcb found held (suc group) =
    option_or (stale_below entering vmcb found held group) (stale_in entering vmcb found held group)

abbrev pub stale_fields : Bool → ℕ → Fields → Held → Option Stale
stale_fields entering vmcb found None = None
stale_fields entering vmcb found (Some held) = stale_below entering vmcb found held held_groups

-- What is held of each VMCB of a vcpu, by its address.
abbrev pub HeldFields : Type 0
HeldFields = ℕ → Held

abbrev pub held_with : ℕ → Held → HeldFields → HeldFields
held_with vmcb new held other = if other == vmcb then new else held other
