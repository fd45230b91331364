-- What is stored in parts is stored whole.
use Rattle.std.proofs.Common.{◌≡◌, ◌∙◌, List, [], ◌∷◌, ◌++◌, refl, sym, ap}
use Rattle.svm_model.specs.Svm.Vmcb.{FieldValue, Fields, with_value, with_values}

with_values-append : (a b : List FieldValue) (v : Fields) → with_values (a ++ b) v ≡ with_values b (with_values a v)
unfolding with_values
with_values-append [] b v = refl
with_values-append (s ∷ a) b v = with_values-append a b (with_value v s.field s.value)

-- these values are stored
pub record AreStored (stored : List FieldValue) (old new : Fields) : Type 0 where
  pub is : new ≡ with_values stored old

-- one part behind another
pub stored-then : {a b : List FieldValue} {old between new : Fields} → AreStored a old between → AreStored b between new → AreStored (a ++ b) old new
stored-then {a = a} {b = b} {old = old} h k = record { is = k.is ∙ ap (with_values b) h.is ∙ sym (with_values-append a b old) }
