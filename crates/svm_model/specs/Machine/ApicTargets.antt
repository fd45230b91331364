-- The targets of an interprocessor interrupt (volume 2, 'Interprocessor Interrupts', 'Lowest Priority Messages and
-- Arbitration').
use Rattle.std.specs.Prelude.{ℕ, ◌+◌, ◌/◌, nat_lt, List, [], ◌∷◌, Bool, true, false, ◌==◌, ◌&&◌, ◌||◌, not, if◌then◌else◌, Option, Some, None, bit_and}
use Rattle.svm_model.specs.Memory.Bits.{has_some}
use Rattle.svm_model.specs.declared.apics.Ipi.{Ipi}
use Rattle.svm_model.specs.Machine.Apic.{Apic, processor_priority, is_enabled}

-- in the flat model a common bit of LDR and the destination; in the cluster model the same cluster and a common bit below
abbrev pub is_logical_target : Apic → ℕ → Bool
is_logical_target a destination =
    if a.dfr == 15 then has_some a.ldr destination
    else (a.ldr / 16 == destination / 16) && has_some (bit_and a.ldr destination) 15

abbrev pub is_named : Ipi → Apic → Bool
is_named ipi a =
    (ipi.destination == 255) || (if ipi.logical then is_logical_target a ipi.destination else a.id == ipi.destination)

-- the shorthands: 0 none, 1 self, 2 all, 3 all but self
abbrev pub is_addressed : Ipi → ℕ → ℕ → Apic → Bool
is_addressed ipi sender index a =
    if ipi.shorthand == 0 then is_named ipi a
    else if ipi.shorthand == 1 then index == sender
    else if ipi.shorthand == 2 then true
    else not (index == sender)

-- which of the APICs are addressed, from this index on
unfoldable pub addressed_from : ℕ → Ipi → ℕ → List Apic → List Bool
addressed_from index ipi sender [] = []
addressed_from index ipi sender (a ∷ apics) = is_addressed ipi sender index a ∷ addressed_from (index + 1) ipi sender apics

-- Lowest priority goes to the enabled one of the least PPR, then the least ID: an APIC, as it is found.
abbrev pub comes_before : Apic → Apic → Bool
comes_before a b =
    nat_lt (processor_priority a) (processor_priority b) || ((processor_priority a == processor_priority b) && nat_lt a.id b.id)

abbrev pub better : Bool → Apic → Option Apic → Option Apic
better false a best = best
better true a None = Some a
better true a (Some b) = if comes_before a b then Some a else Some b

unfoldable pub least_of : List Bool → List Apic → Option Apic
least_of [] apics = None
least_of (t ∷ targets) [] = None
least_of (t ∷ targets) (a ∷ apics) = better (t && is_enabled a) a (least_of targets apics)

abbrev pub is_apic : Option Apic → Apic → Bool
is_apic None a = false
is_apic (Some b) a = a.id == b.id

abbrev pub only : Option Apic → List Apic → List Bool
only best [] = []
only best (a ∷ apics) = is_apic best a ∷ only best apics

-- for each APIC whether it is a target
unfoldable pub targets_of : Ipi → ℕ → List Apic → List Bool
targets_of ipi sender apics =
    let targets = addressed_from 0 ipi sender apics in if ipi.mode == 1 then only (least_of targets apics) apics else targets
