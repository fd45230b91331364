-- The turn of a vcpu in a world: its course is played over its guest's memory, and what it comes out to is put back.
use Rattle.std.specs.Prelude.{ℕ, ◌+◌, ◌%◌, ◌^◌, ◌||◌, ◌==◌, List, [], ◌∷◌, Bool, false, if◌then◌else◌, Option, Some, None, slice_get, slice_set}
use Rattle.svm_model.specs.Machine.Apic.{Apic, accepted}
use Rattle.svm_model.specs.Machine.ApicTargets.{targets_of}
use Rattle.svm_model.specs.Machine.Bus.{Bus}
use Rattle.svm_model.specs.Turn.Course.{Board, Told, Turned}
use Rattle.svm_model.specs.Machine.Guest.{Guest}
use Rattle.svm_model.specs.declared.vcpus.Vcpu.{Vcpu}
use Rattle.svm_model.specs.Machine.PlainTurn.{turned}
use Rattle.svm_model.specs.declared.apics.Ipi.{Ipi}
use Rattle.svm_model.specs.declared.names.Ended.{Ended}
use Rattle.svm_model.specs.declared.names.VcpuId.{VcpuId}
use Rattle.svm_model.specs.declared.ports.PortWrite.{PortWrite}
use Rattle.svm_model.specs.declared.turns.Facts.{Facts}
use Rattle.svm_model.specs.declared.turns.Stepped.{Stepped}
use Rattle.svm_model.specs.declared.turns.Stepped.TheVariants.{Ends}
use Rattle.svm_model.specs.Machine.World.{World}

-- what a turn makes of the world and the bus: the end that came in it, how many of its outward calls were granted, the write to
-- a port that was refused in it, and what it tells
pub record Turn : Type 0 where
  pub world : World
  pub bus : Bus
  pub ended : Option Ended
  pub calls : ℕ
  pub denied : Option PortWrite
  pub told : List Told

abbrev pub end_of : ℕ → ℕ → Stepped → Option Ended
end_of index event (Ends end) = Some (record { end = end; vcpu = index; event = event })
end_of index event _ = None

-- the end that comes in a turn; one that was cut off ends nobody
abbrev pub end_by : Bool → ℕ → ℕ → Stepped → Option Ended
end_by cut index event stepped = if cut then None else end_of index event stepped

-- An interprocessor interrupt is accepted at once by each target: an NMI is pending, and other vectors go to the APIC.

abbrev pub with_nmi : Bool → Vcpu → Vcpu
with_nmi target vcpu = record vcpu { nmi = vcpu.nmi || target }

unfoldable pub with_nmis : List Bool → List Vcpu → List Vcpu
with_nmis [] vcpus = vcpus
with_nmis (t ∷ targets) [] = []
with_nmis (t ∷ targets) (vcpu ∷ vcpus) = with_nmi t vcpu ∷ with_nmis targets vcpus

abbrev pub accepted_where : Bool → ℕ → Apic → Apic
accepted_where target vector apic = if target then accepted apic vector else apic

unfoldable pub all_accepted : List Bool → ℕ → List Apic → List Apic
all_accepted [] vector apics = apics
all_accepted (t ∷ targets) vector [] = []
all_accepted (t ∷ targets) vector (apic ∷ apics) = accepted_where t vector apic ∷ all_accepted targets vector apics

abbrev pub spread : Ipi → List Bool → Guest → Guest
spread ipi targets guest =
    if ipi.mode == 4 then record guest { vcpus = with_nmis targets guest.vcpus } else record guest { apics = all_accepted targets ipi.vector guest.apics }

abbrev pub with_sent : Option Ipi → ℕ → Guest → Guest
with_sent None sender guest = guest
with_sent (Some ipi) sender guest = spread ipi (targets_of ipi sender guest.apics) guest

abbrev pub guest_after : Guest → ℕ → ℕ → Turned → Guest
guest_after guest index event turn = with_sent turn.board.sent index (record {
  memory = turn.memory;
  ended = end_by turn.board.cut index event turn.stepped;
  vcpus = slice_set guest.vcpus index turn.vcpu;
  apics = slice_set guest.apics index turn.board.apic;
})

abbrev pub no_turn : World → Bus → Turn
no_turn w bus = record { world = w; bus = bus; ended = None; calls = 0; denied = None; told = [] }

abbrev pub turn_done : World → Guest → VcpuId → Turned → Turn
turn_done w guest id turn = record {
  world = record w { guests = slice_set w.guests id.guest.0 (guest_after guest id.index w.event turn) };
  bus = turn.board.bus;
  ended = end_by turn.board.cut id.index w.event turn.stepped;
  calls = turn.board.calls;
  denied = turn.board.denied;
  told = turn.told;
}

-- the time-stamp counter is the event's number and the vcpu's addend; the task priority is asked for where a row reads it
abbrev pub facts_of : World → VcpuId → Vcpu → Apic → Facts
facts_of w id vcpu apic = record {
  vcpu = id;
  event = w.event;
  tsc = (w.event + vcpu.registers.tsc_add) % 2 ^ 64;
  apic_id = apic.id;
  features = w.features;
  tpr = 0;
}

abbrev pub board_of : Bus → Apic → Board
board_of bus apic = record { bus = bus; apic = apic; sent = None; calls = 0; cut = false; denied = None }

abbrev pub with_apic : Option ℕ → World → Bus → Guest → VcpuId → Vcpu → Option Apic → Turn
with_apic refused w bus guest id vcpu None = no_turn w bus
with_apic refused w bus guest id vcpu (Some apic) =
    turn_done w guest id (turned refused (facts_of w id vcpu apic) (board_of bus apic) guest.memory vcpu)

abbrev pub with_vcpu : Option ℕ → World → Bus → Guest → VcpuId → Option Vcpu → Turn
with_vcpu refused w bus guest id None = no_turn w bus
with_vcpu refused w bus guest id (Some vcpu) = with_apic refused w bus guest id vcpu (slice_get guest.apics id.index)

abbrev pub with_live : Option ℕ → World → Bus → Guest → VcpuId → Option Ended → Turn
with_live refused w bus guest id (Some ended) = no_turn w bus
with_live refused w bus guest id None = with_vcpu refused w bus guest id (slice_get guest.vcpus id.index)

abbrev pub with_guest : Option ℕ → World → Bus → VcpuId → Option Guest → Turn
with_guest refused w bus id None = no_turn w bus
with_guest refused w bus id (Some guest) = with_live refused w bus guest id guest.ended

-- the turn of a vcpu; one of an ended guest changes nothing
abbrev pub turn_of : Option ℕ → World → Bus → VcpuId → Turn
turn_of refused w bus id = with_guest refused w bus id (slice_get w.guests id.guest.0)

-- none of its outward calls is refused
abbrev pub plain_turn : World → Bus → VcpuId → Turn
plain_turn = turn_of None
