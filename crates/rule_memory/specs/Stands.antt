-- What it is for a memory to stand for the rules as they are.
use Rattle.std.specs.Prelude.{◌≡◌}
use Rattle.svm_model.specs.Audit.WatchCalls.{Notice, Rules, rules_after}
use Rattle.rule_memory.specs.HeldMap.{fields_at, held_owner}
use Rattle.rule_memory.specs.Kept.{IsHugeKnownAt, kept_at}
use Rattle.rule_memory.specs.Leaves.{leaves_at}
use Rattle.rule_memory.specs.Places.{owner_of}
use Rattle.rule_memory.specs.Recents.{AreSettled}
use Rattle.rule_memory.specs.declared.held.HeldPlace.{HeldPlace}
use Rattle.rule_memory.specs.declared.memory.RuleMemory.{RuleMemory}
use Rattle.rule_memory.specs.declared.places.Place.{Place}

-- The leaves that are kept of each place are those of its records, in the order in which they were added; the fields that are
-- held of each VMCB are those that the rules hold; and the first breach is the first.
pub record Stands (memory : RuleMemory) (rules : Rules) : Type 0 where
  pub translations : (place : Place) → kept_at memory.translations place ≡ leaves_at place (rules.known (owner_of place.space)).records
  pub huge : IsHugeKnownAt memory.huge memory.translations
  pub held : (place : HeldPlace) → fields_at memory.held place ≡ (rules.known (held_owner place)).held place.vmcb
  pub first : memory.first ≡ rules.first
  pub recent : AreSettled memory.translations memory.recent

-- a call keeps what stands
abbrev pub Keeps : RuleMemory → Notice → RuleMemory → Type 0
Keeps old notice new = (rules : Rules) → Stands old rules → Stands new (rules_after notice rules)
