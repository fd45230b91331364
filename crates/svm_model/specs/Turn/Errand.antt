-- What the delivery of an event and the return from one want of linear memory, one call after another, and what comes of it.
-- It sees words at linear addresses, never a page or a frame.
use Rattle.std.specs.Prelude.{ℕ, List, Bool, Result, Ok, Err}
use Rattle.svm_model.specs.Instructions.Exceptions.{coded_fault}
use Rattle.svm_model.specs.declared.names.End.TheVariants.{Mode}
use Rattle.svm_model.specs.declared.register_file.Registers.{Registers}
use Rattle.svm_model.specs.declared.turns.Stop.{Stop}
use Rattle.svm_model.specs.declared.turns.Stop.TheVariants as stop

pub data Errand : Type 0 where
  -- it is over: these are the registers, or this stops it
  Over : (outcome : Result Registers Stop) → Errand
  -- a word of so many bytes is read
  Word : (address length : ℕ) (user stack : Bool) (next : Result ℕ Stop → Errand) → Errand
  -- a place of so many bytes is found for a write, and held
  Hold : (address length : ℕ) (user stack : Bool) (next : Result (Unit {0}) Stop → Errand) → Errand
  -- the values are written in the held places, and none is held
  Commit : (values : List ℕ) (next : Errand) → Errand

-- Whatever carrying out the rest leads to, carrying out the whole leads to.
abbrev pub Leads : {S : Type 0} → (S → Errand → S → Result Registers Stop → Type 0) → S → Errand → S → Errand → Type 0
Leads {S} plays old whole new rest = (last : S) (outcome : Result Registers Stop) → plays new rest last outcome → plays old whole last outcome

-- it goes on where there was no stop
abbrev pub on_ok : {A : Type 0} → Result A Stop → (A → Errand) → Errand
on_ok (Ok x) next = next x
on_ok (Err reason) next = Over (Err reason)

-- a fault with a code
abbrev pub refusing : ℕ → ℕ → Stop
refusing vector code = stop.Trap (coded_fault vector code)

abbrev pub refuse : ℕ → ℕ → Errand
refuse vector code = Over (Err (refusing vector code))

-- a mode that is not offered
abbrev pub unoffered : ℕ → Errand
unoffered rule = Over (Err (stop.Ended (Mode rule)))

-- what comes of a call that returned this, with these registers
abbrev pub outcome_of : Result (Unit {0}) Stop → Registers → Result Registers Stop
outcome_of (Ok done) registers = Ok registers
outcome_of (Err reason) registers = Err reason
