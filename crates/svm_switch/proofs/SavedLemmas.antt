-- What is saved in parts is saved whole.
use Rattle.std.proofs.Common.{◌≡◌, ◌∙◌, ℕ, List, [], ◌∷◌, ◌++◌, refl, sym, ap}
use Rattle.svm_model.proofs.WindowLemmas.{same_outside-then}
use Rattle.svm_model.specs.Memory.Bytes.{Host, guest_of}
use Rattle.svm_model.specs.Svm.Vmcb.{FieldValue, with_field, with_fields}
use Rattle.svm_model.specs.declared.windows.GuestWindow.{GuestWindow}
use Rattle.svm_switch.specs.Saved.{AreSaved}

pub with_fields-append : (vmcb : ℕ) (a b : List FieldValue) (memory : List ℕ) → with_fields vmcb (a ++ b) memory ≡ with_fields vmcb b (with_fields vmcb a memory)
unfolding with_fields
with_fields-append vmcb [] b memory = refl
with_fields-append vmcb (s ∷ a) b memory = with_fields-append vmcb a b (with_field vmcb s.field s.value memory)

-- one part behind another
pub saved-then : {w : GuestWindow} {vmcb : ℕ} {a b : List FieldValue} {old between new : Host} → AreSaved w vmcb a old between → AreSaved w vmcb b between new → AreSaved w vmcb (a ++ b) old new
saved-then {w = w} {vmcb = vmcb} {a = a} {b = b} {old = old} h k = record {
  guest = k.guest ∙ ap (with_fields vmcb b) h.guest ∙ sym (with_fields-append vmcb a b (guest_of w old.bytes));
  others = same_outside-then h.others k.others;
}
