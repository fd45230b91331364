-- The values that fields have once all of them were stored.
use Rattle.std.proofs.Common.{◌≡◌, ◌≢◌, ◌∙◌, ℕ, Bool, true, false, ◌&&◌, not, List, [], ◌∷◌, nat_lt, length, map, refl, ap, arith}
use Rattle.std.specs.Prelude.{◌==◌, Option}
use Rattle.std.specs.List.{list_all}
use Rattle.std.proofs.lemmas.List.{get_or-set_same, get_or-set_other, length-set}
use Rattle.std.proofs.lemmas.Bool.Decides.{nat_tests}
use Rattle.svm_model.specs.Svm.Vmcb.{Fields, FieldValue, fields_in, value, with_value, with_values}
use Rattle.svm_model.specs.Svm.VmcbLayout.{layout, number_of}
use Rattle.svm_model.specs.Svm.Vmexit.{stored_exit, stored_segments, stored_state}
use Rattle.svm_model.specs.declared.exits.Exit.{Exit}
use Rattle.svm_model.specs.declared.register_file.Registers.{Registers}
use Rattle.svm_model.specs.declared.traps.Trap.{Trap}
use Rattle.svm_model.specs.declared.vcpus.Inside.{Inside}
use Rattle.svm_model.specs.declared.vmcbs.Field.{Field}
use Rattle.svm_switch.specs.Left.{left_fields, stored_in_all}
use Rattle.svm_switch.specs.declared.in_memory.Leaving.{Leaving}
use Rattle.svm_switch.specs.declared.in_memory.TheConstants.{EXIT_FIELDS}
use Rattle.svm_model.specs.Svm.Vmcb.{values_of}

abbrev number : FieldValue → ℕ
number s = number_of s.field

abbrev differs : ℕ → FieldValue → Bool
differs n s = not (n == number s)

-- no field stands twice, and each is one of the layout
abbrev all_apart : List FieldValue → Bool
all_apart [] = true
all_apart (s ∷ stored) = nat_lt (number s) 86 && list_all (differs (number s)) stored && all_apart stored

first-of : (a b : Bool) → (a && b) ≡ true → a ≡ true
first-of true b e = refl
first-of false b e = absurd (cc)

second-of : (a b : Bool) → (a && b) ≡ true → b ≡ true
second-of true b e = e
second-of false b e = absurd (cc)

not-same : (n m : ℕ) → not (n == m) ≡ true → n ≢ m
not-same n m e = λ same. grind (arith, nat_tests)

-- what is stored in other fields leaves this one
untouched : (stored : List FieldValue) (v : Fields) (field : Field) → list_all (differs (number_of field)) stored ≡ true → value (with_values stored v) field ≡ value v field
unfolding with_values with_value value
untouched [] v field e = refl
untouched (s ∷ stored) v field e =
    untouched stored (with_value v s.field s.value) field (second-of _ _ e)
    ∙ get_or-set_other v.values (number s) (number_of field) s.value 0 (not-same (number_of field) (number s) (first-of _ _ e))

kept-size : (v : Fields) (field : Field) (n : ℕ) → length v.values ≡ 86 → length (with_value v field n).values ≡ 86
unfolding with_value
kept-size v field n e = length-set v.values (number_of field) n ∙ e

-- what is stored in a field is there, whatever is stored in others behind it
value-first : (s : FieldValue) (stored : List FieldValue) (v : Fields) → length v.values ≡ 86 → nat_lt (number s) 86 ≡ true → list_all (differs (number s)) stored ≡ true → value (with_values stored (with_value v s.field s.value)) s.field ≡ s.value
unfolding with_value value
value-first s stored v size low e =
    untouched stored (with_value v s.field s.value) s.field e
    ∙ get_or-set_same v.values (number s) s.value 0 (grind (arith, nat_tests))

pub values-stored : (stored : List FieldValue) (v : Fields) → all_apart stored ≡ true → length v.values ≡ 86 → values_of (with_values stored v) (map (λ (s : FieldValue). s.field) stored) ≡ stored
unfolding with_values
values-stored [] v e size = refl
values-stored (s ∷ stored) v e size =
    let here : (nat_lt (number s) 86 && list_all (differs (number s)) stored) ≡ true = first-of (nat_lt (number s) 86 && list_all (differs (number s)) stored) (all_apart stored) e in
    let behind : all_apart stored ≡ true = second-of (nat_lt (number s) 86 && list_all (differs (number s)) stored) (all_apart stored) e in
    let one = value-first s stored v size (first-of (nat_lt (number s) 86) _ here) (second-of (nat_lt (number s) 86) _ here) in
    let others = values-stored stored (with_value v s.field s.value) behind (kept-size v s.field s.value size) in
    ap (λ (n : ℕ). record { field = s.field; value = n } ∷ values_of (with_values stored (with_value v s.field s.value)) (map (λ (s : FieldValue). s.field) stored)) one
    ∙ ap (λ (l : List FieldValue). s ∷ l) others

pub size-found : (memory : List ℕ) (vmcb : ℕ) → length (fields_in memory vmcb).values ≡ 86
unfolding fields_in layout
size-found memory vmcb = refl

-- all that a #VMEXIT stores
pub values-left : (nested : Bool) (r : Registers) (i : Inside) (left : Leaving) (v : Fields) → left.nested ≡ nested → length v.values ≡ 86 → values_of (with_values (stored_in_all r i left v) v) (left_fields nested) ≡ stored_in_all r i left v
unfolding stored_state stored_segments stored_exit number_of
values-left true r i left v e size =
    let l : List FieldValue = stored_in_all r i (record left { nested = true }) v in
    rw e (values-stored l v refl size)
values-left false r i left v e size =
    let l : List FieldValue = stored_in_all r i (record left { nested = false }) v in
    rw e (values-stored l v refl size)

-- what tells an exit
pub values-exit : (exit : Exit) (delivering : Option Trap) (v : Fields) → length v.values ≡ 86 → values_of (with_values (stored_exit exit delivering v) v) EXIT_FIELDS ≡ stored_exit exit delivering v
unfolding stored_exit number_of
values-exit exit delivering v size = values-stored (stored_exit exit delivering v) v refl size
