-- The numbers of the registers of one name.
use Rattle.std.specs.Prelude.{ℕ, ◌≤◌, ◌<◌, List, [], ◌∷◌}
use Rattle.svm_model.specs.declared.apics.ApicPlace.{ApicPlace}
use Rattle.svm_model.specs.declared.apics.ApicRegister.{ApicRegister}
use Rattle.svm_model.specs.declared.apics.ApicRegister.TheVariants as register
use Rattle.svm_model.specs.declared.apics.ApicRegisterLine.{ApicRegisterLine}

-- how many registers have the name
abbrev pub registers_of : ApicRegister → ℕ
registers_of register.Isr = 8
registers_of register.Tmr = 8
registers_of register.Irr = 8
registers_of register.Lvt = 6
registers_of _ = 1

abbrev pub IsNumber : ApicRegister → ℕ → Type 0
IsNumber name number = number < registers_of name

abbrev pub IsNumbered : ApicPlace → Type 0
IsNumbered p = IsNumber p.register p.number

-- no line has more registers than its name
abbrev pub AreLines : List ApicRegisterLine → Type 0
AreLines [] = Unit {0}
AreLines (l ∷ lines) = (l.count ≤ registers_of l.register) × AreLines lines
