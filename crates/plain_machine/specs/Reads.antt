-- Which events read the memory of a guest.
use Rattle.std.specs.Prelude.{Bool, true, false}
use Rattle.svm_model.specs.declared.names.Event.{Event}
use Rattle.svm_model.specs.declared.names.Event.TheVariants.{Run}

-- a vcpu takes turns in no other
abbrev pub is_run : Event → Bool
is_run (Run cpu) = true
is_run _ = false
