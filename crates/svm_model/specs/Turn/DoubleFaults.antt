-- A fault in the delivery of an event (volume 2, '#DF, Double-Fault Exception').
use Rattle.std.specs.Prelude.{ℕ, nat_le, Bool, ◌==◌, ◌&&◌, ◌||◌, if◌then◌else◌}
use Rattle.svm_model.specs.Instructions.Exceptions.{double_fault}
use Rattle.svm_model.specs.declared.traps.Combined.{Combined}
use Rattle.svm_model.specs.declared.traps.Combined.TheVariants.{Deliver, Shutdown}
use Rattle.svm_model.specs.declared.traps.Trap.{Trap}

-- #DE and #TS to #GP
abbrev pub is_contributory : ℕ → Bool
is_contributory vector = (vector == 0) || (nat_le 10 vector && nat_le vector 13)

abbrev pub makes_double : ℕ → ℕ → Bool
makes_double first second =
    (is_contributory first && is_contributory second) || ((first == 14) && (is_contributory second || (second == 14)))

unfoldable pub combined : Trap → Trap → Combined
combined first second =
    if first.vector == 8 then Shutdown
    else if makes_double first.vector second.vector then Deliver double_fault
    else Deliver second
