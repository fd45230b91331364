-- One event of an audit, where no event before it had a breach.
use Rattle.std.specs.Prelude.{◌≡◌, Option, None}
use Rattle.svm_model.specs.Audit.Breaches.{Known}
use Rattle.svm_model.specs.Audit.Verdicts.{breach_by, known_behind}
use Rattle.svm_model.specs.Audit.WatchCalls.{Rules, turn_in}
use Rattle.svm_model.specs.Machine.Bus.{Bus}
use Rattle.svm_model.specs.Machine.Events.{plain_event}
use Rattle.svm_model.specs.Machine.World.{World}
use Rattle.svm_model.specs.declared.audits.Breach.{Breach}
use Rattle.svm_model.specs.declared.audits.TurnId.{TurnId}
use Rattle.svm_model.specs.declared.names.Event.{Event}
use Rattle.svm_model.specs.declared.names.VcpuId.{VcpuId}
use Rattle.rule_memory.specs.Stands.{Stands}
use Rattle.rule_memory.specs.declared.memory.RuleMemory.{RuleMemory}

-- the rules, where this may have been kept of each vcpu and there was no breach
abbrev pub kept_so_far : (VcpuId → Known) → Rules
kept_so_far known = record { known = known; first = None }

-- the turn of an event, where it has one
abbrev pub turn_at : World → Bus → Event → Option TurnId
turn_at w bus event = turn_in w event (plain_event w bus event).effect.vcpu

-- the first breach of an event
abbrev pub breach_at : (VcpuId → Known) → World → Bus → Event → Option Breach
breach_at known w bus event = breach_by (turn_at w bus event) (plain_event w bus event).told known

-- what may have been kept behind it
abbrev pub known_at : (VcpuId → Known) → World → Bus → Event → VcpuId → Known
known_at known w bus event = known_behind (turn_at w bus event) (plain_event w bus event).told known

-- A memory that stood for rules without a breach was told of the event. Its first breach is that of the event, and where there
-- is none it stands for the rules behind it.
pub record IsAudited (old : RuleMemory) (w : World) (bus : Bus) (event : Event) (found : Option Breach) (new : RuleMemory) : Type 0 where
  pub breach : (known : VcpuId → Known) → Stands old (kept_so_far known) → found ≡ breach_at known w bus event
  pub stands : (known : VcpuId → Known) → Stands old (kept_so_far known) → found ≡ None → Stands new (kept_so_far (known_at known w bus event))
