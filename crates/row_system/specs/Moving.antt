-- Where a row that is done leads.
use Rattle.std.specs.Prelude.{◌≡◌, ℕ, false}
use Rattle.svm_model.specs.declared.register_file.Registers.{Registers}
use Rattle.svm_model.specs.declared.system.Outside.{Outside}
use Rattle.svm_model.specs.declared.system.Outside.TheVariants as outside

-- the next row is due, and the interrupt shadow of the row before is over
abbrev pub IsAtNext : ℕ → Registers → Type 0
IsAtNext next r = (r.rip ≡ next) × (r.shadow ≡ false)

-- A row leads to the next one, unless what it asks for says where it leads: an interrupt, a return, a row of SVM, the end.
abbrev pub MovesOn : ℕ → Registers → Outside → Type 0
MovesOn next r outside.None = IsAtNext next r
MovesOn next r outside.Halt = IsAtNext next r
MovesOn next r outside.Shadow = IsAtNext next r
MovesOn next r (outside.Interrupt vector software) = Unit {0}
MovesOn next r outside.Return = Unit {0}
MovesOn next r (outside.PortRead port width) = IsAtNext next r
MovesOn next r (outside.PortWrite port width value) = IsAtNext next r
MovesOn next r outside.DropLocal = IsAtNext next r
MovesOn next r outside.DropAsid = IsAtNext next r
MovesOn next r (outside.DropPage address) = IsAtNext next r
MovesOn next r (outside.Priority value) = IsAtNext next r
MovesOn next r outside.Svm = Unit {0}
MovesOn next r (outside.Ends e) = Unit {0}
