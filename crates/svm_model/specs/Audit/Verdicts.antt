-- The first breach of a run, and the verdict on it.
use Rattle.std.specs.Prelude.{ℕ, List, [], ◌∷◌, Option, Some, None}
use Rattle.std.specs.Option.{option_map}
use Rattle.svm_model.specs.Audit.Breaches.{Known, first_in, known_after_all, nothing_known}
use Rattle.svm_model.specs.Audit.WatchCalls.{breach_in, known_with, turn_in}
use Rattle.svm_model.specs.Machine.Bus.{Bus}
use Rattle.svm_model.specs.Machine.Events.{Happened, plain_event}
use Rattle.svm_model.specs.Machine.World.{World}
use Rattle.svm_model.specs.Turn.Course.{Told}
use Rattle.svm_model.specs.declared.audits.Breach.{Breach}
use Rattle.svm_model.specs.declared.audits.TurnId.{TurnId}
use Rattle.svm_model.specs.declared.audits.Verdict.{Verdict}
use Rattle.svm_model.specs.declared.audits.Verdict.TheVariants as verdict
use Rattle.svm_model.specs.declared.names.Event.{Event}
use Rattle.svm_model.specs.declared.names.VcpuId.{VcpuId}

-- what may have been kept of each vcpu, behind a turn
abbrev pub known_behind : Option TurnId → List Told → (VcpuId → Known) → VcpuId → Known
known_behind None told known = known
known_behind (Some turn) told known = known_with turn.vcpu (known_after_all told (known turn.vcpu)) known

-- the first breach of an event, by what may have been kept before it
abbrev pub breach_by : Option TurnId → List Told → (VcpuId → Known) → Option Breach
breach_by None told known = None
breach_by (Some turn) told known = option_map (breach_in turn) (first_in told (known turn.vcpu))

-- A run that is audited ends behind the event of its first breach.
pub record Audited : Type 0 where
  pub world : World
  pub bus : Bus
  pub breach : Option Breach

abbrev pub ended_by : Option Breach → Happened → Audited → Audited
ended_by None happened rest = rest
ended_by (Some breach) happened rest = record { world = happened.world; bus = happened.bus; breach = Some breach }

abbrev pub audited : (VcpuId → Known) → World → Bus → List Event → Audited
audited known w bus [] = record { world = w; bus = bus; breach = None }
audited known w bus (event ∷ events) =
    let happened = plain_event w bus event in
    let turn = turn_in w event happened.effect.vcpu in
    ended_by (breach_by turn happened.told known) happened
    (audited (known_behind turn happened.told known) happened.world happened.bus events)

-- a run from the image's world, where nothing was kept
unfoldable pub audit_of : World → Bus → List Event → Audited
audit_of w bus events = audited (λ vcpu. nothing_known) w bus events

-- the verdict on a run that has so many events where it keeps the rules
abbrev pub verdict_of : ℕ → Option Breach → Verdict
verdict_of events None = verdict.Keeps events
verdict_of events (Some breach) = verdict.Breach breach
