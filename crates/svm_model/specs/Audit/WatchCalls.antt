-- The calls by which one who watches is told what turns do, and what they make of the rules: what is known of each vcpu, and the
-- first breach so far.
use Rattle.std.specs.Prelude.{ℕ, ◌==◌, ◌&&◌, not, List, [], ◌∷◌, Bool, true, false, Option, Some, None, if◌then◌else◌}
use Rattle.std.specs.Option.{option_map}
use Rattle.svm_model.specs.Audit.Breaches.{Known, after_exit, after_flush, after_found, after_making, nothing_known, stale_translation}
use Rattle.svm_model.specs.Audit.HeldFields.{stale_fields}
use Rattle.svm_model.specs.Audit.Makings.{Making, making, passing}
use Rattle.svm_model.specs.Machine.Bus.{Bus}
use Rattle.svm_model.specs.Machine.Events.{is_vcpu, plain_event}
use Rattle.svm_model.specs.Machine.World.{World}
use Rattle.svm_model.specs.Svm.Vmcb.{Fields, FieldValue}
use Rattle.svm_model.specs.Turn.Course.{Told, Accessed, Flushed, Found, Left}
use Rattle.svm_model.specs.declared.audits.Breach.{Breach}
use Rattle.svm_model.specs.declared.audits.Made.{Made}
use Rattle.svm_model.specs.declared.audits.Stale.{Stale}
use Rattle.svm_model.specs.declared.audits.Stale.TheVariants as stale
use Rattle.svm_model.specs.declared.audits.TurnId.{TurnId}
use Rattle.svm_model.specs.declared.names.Event.{Event}
use Rattle.svm_model.specs.declared.names.Event.TheVariants.{Run}
use Rattle.svm_model.specs.declared.names.VcpuId.{VcpuId}
use Rattle.svm_model.specs.declared.page_tables.Pass.{Pass}
use Rattle.svm_model.specs.declared.system.Flush.{Flush}

-- one call
pub data Notice : Type 0 where
  -- a translation was made
  Makes : (made : Made) → Notice
  -- translations of the vcpu are dropped
  Flushes : (vcpu : VcpuId) (flush : Flush) → Notice
  -- the fields of a VMCB were found in memory: at a VMRUN, or at a turn inside it
  Finds : (turn : TurnId) (vmcb : ℕ) (entering : Bool) (found : Fields) → Notice
  -- a #VMEXIT of the vcpu stores these fields of a VMCB
  Leaves : (vcpu : VcpuId) (vmcb : ℕ) (stored : List FieldValue) → Notice

-- The calls that tell what a turn tells.

abbrev pub made_in : TurnId → Making → Made
made_in turn made = record {
  turn = turn;
  asid = made.asid;
  nested = made.nested;
  access = made.access;
  write_protect = made.write_protect;
  leaf = made.leaf;
  outcome = made.outcome;
}

-- the passes of an access, then others
abbrev pub noticed_passes : TurnId → ℕ → Bool → List Pass → List Notice → List Notice
noticed_passes turn asid write_protect [] next = next
noticed_passes turn asid write_protect (pass ∷ passed) next =
    Makes (made_in turn (passing asid write_protect pass)) ∷ noticed_passes turn asid write_protect passed next

-- a thing that is told, then others
abbrev pub told_first : TurnId → Told → List Notice → List Notice
told_first turn (Accessed asid write_protect access answer passed) next =
    noticed_passes turn asid write_protect passed (Makes (made_in turn (making asid write_protect access answer)) ∷ next)
told_first turn (Flushed flush) next = Flushes turn.vcpu flush ∷ next
told_first turn (Found vmcb entering found) next = Finds turn vmcb entering found ∷ next
told_first turn (Left vmcb stored) next = Leaves turn.vcpu vmcb stored ∷ next

-- those of a turn, in the order in which they come
abbrev pub notices : TurnId → List Told → List Notice
notices turn [] = []
notices turn (told ∷ next) = told_first turn told (notices turn next)

-- The calls of an event: those of its turn, where it is the run of a processor with a vcpu.

abbrev pub turn_in : World → Event → Option VcpuId → Option TurnId
turn_in w (Run cpu) vcpu = option_map (λ id. record { vcpu = id; cpu = cpu; event = w.event }) vcpu
turn_in w _ vcpu = None

abbrev pub told_notices : Option TurnId → List Told → List Notice
told_notices None told = []
told_notices (Some turn) told = notices turn told

unfoldable pub event_notices : World → Bus → Event → List Notice
event_notices w bus event =
    told_notices (turn_in w event (plain_event w bus event).effect.vcpu) (plain_event w bus event).told

-- What a call makes of the rules.

pub record Rules : Type 0 where
  pub known : VcpuId → Known
  pub first : Option Breach

abbrev pub no_rules : Rules
no_rules = record { known = λ vcpu. nothing_known; first = None }

abbrev pub known_with : VcpuId → Known → (VcpuId → Known) → VcpuId → Known
known_with vcpu new known other = if is_vcpu other vcpu then new else known other

abbrev pub is_field : Stale → Bool
is_field (stale.Translation kept plain) = false
is_field (stale.Field group vmcb field held found) = true

abbrev pub breach_in : TurnId → Stale → Breach
breach_in turn stale = record { turn = turn; stale = stale }

-- a breach stays the first, unless it is one of a translation and one of a field follows in that event
abbrev pub takes_place : Breach → Breach → Bool
takes_place next first = is_field next.stale && not (is_field first.stale) && (first.turn.event == next.turn.event)

abbrev pub joined : Option Breach → Option Breach → Option Breach
joined None next = next
joined (Some first) None = Some first
joined (Some first) (Some next) = if takes_place next first then Some next else Some first

abbrev pub with_breach : TurnId → Option Stale → Option Breach → Option Breach
with_breach turn stale first = joined first (option_map (breach_in turn) stale)

abbrev pub making_of : Made → Making
making_of made = record {
  asid = made.asid;
  nested = made.nested;
  access = made.access;
  write_protect = made.write_protect;
  leaf = made.leaf;
  outcome = made.outcome;
}

abbrev pub rules_after : Notice → Rules → Rules
rules_after (Makes made) rules =
    let known = rules.known made.turn.vcpu in record {
      known = known_with made.turn.vcpu (after_making (making_of made) known) rules.known;
      first = with_breach made.turn (stale_translation (making_of made) known.records) rules.first;
    }
rules_after (Flushes vcpu flush) rules = record {
  known = known_with vcpu (after_flush flush (rules.known vcpu)) rules.known;
  first = rules.first;
}
rules_after (Finds turn vmcb entering found) rules =
    let known = rules.known turn.vcpu in record {
      known = known_with turn.vcpu (after_found vmcb entering found known) rules.known;
      first = with_breach turn (stale_fields entering vmcb found (known.held vmcb)) rules.first;
    }
rules_after (Leaves vcpu vmcb stored) rules = record {
  known = known_with vcpu (after_exit vmcb stored (rules.known vcpu)) rules.known;
  first = rules.first;
}

abbrev pub rules_after_all : List Notice → Rules → Rules
rules_after_all [] rules = rules
rules_after_all (notice ∷ next) rules = rules_after_all next (rules_after notice rules)
