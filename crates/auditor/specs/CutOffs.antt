-- Where an audit stood that ended early.
use Rattle.std.specs.Prelude.{◌≡◌, ◌⊎◌, ℕ, List, Some, None, slice_get, take}
use Rattle.svm_model.specs.Audit.Verdicts.{audit_of}
use Rattle.svm_model.specs.Machine.Bus.{Bus}
use Rattle.svm_model.specs.Machine.Runs.{HandsOver, plain_run}
use Rattle.svm_model.specs.Machine.World.{World}
use Rattle.svm_model.specs.declared.names.Event.{Event}
use Rattle.svm_model.specs.declared.names.RunEnd.{RunEnd}
use Rattle.svm_model.specs.declared.names.RunEnd.TheVariants.{Device, NoMemory}
use Rattle.plain_machine.specs.Cuts.{HasTurn, bus_reached}

-- An event was cut off by a refusal: of what it hands to the bus, which is then as it was, or for want of memory of what its
-- turn tells.
pub record IsCutAt (end : RunEnd) (w : World) (bus : Bus) (event : Event) (new : Bus) : Type 0 where
  pub call : ℕ
  pub reached : new ≡ bus_reached call w bus event
  pub cause : (HandsOver call w bus event × (new ≡ bus)) ⊎ (HasTurn w event × (end ≡ NoMemory))

-- The events before it were all done, and kept the rules.
pub record IsCutOff (end : RunEnd) (w : World) (bus : Bus) (events : List Event) (new : Bus) : Type 0 where
  pub count : ℕ
  pub keeps : (audit_of w bus (take count events)).breach ≡ None
  pub event : Event
  pub next : slice_get events count ≡ Some event
  pub cut : IsCutAt end (plain_run w bus (take count events)).world (plain_run w bus (take count events)).bus event new

-- the audit ended early: no memory for a machine left the bus as it was, and all else cut off an event
abbrev pub EndsEarly : RunEnd → World → Bus → List Event → Bus → Type 0
EndsEarly (Device device) w bus events new = IsCutOff (Device device) w bus events new
EndsEarly NoMemory w bus events new = (new ≡ bus) ⊎ IsCutOff NoMemory w bus events new
