-- The turn of a vcpu in its guest alone.
use Rattle.std.specs.Prelude.{◌≡◌, ℕ, ◌+◌, ◌%◌, ◌^◌, List, [], Option, Some, None, Result, Ok, Err, slice_get}
use Rattle.svm_model.specs.Machine.Apic.{Apic}
use Rattle.svm_model.specs.Machine.Bus.{Bus, bus_after_write}
use Rattle.svm_model.specs.Machine.Guest.{Guest}
use Rattle.svm_model.specs.Machine.PlainTurn.{turned}
use Rattle.svm_model.specs.Machine.Turns.{board_of, end_by, guest_after}
use Rattle.svm_model.specs.Turn.Course.{Told, Turned}
use Rattle.svm_model.specs.declared.names.Ended.{Ended}
use Rattle.svm_model.specs.declared.names.RunEnd.{RunEnd}
use Rattle.svm_model.specs.declared.ports.PortWrite.{PortWrite}
use Rattle.svm_model.specs.declared.turns.Facts.{Facts}
use Rattle.svm_model.specs.declared.vcpus.Vcpu.{Vcpu}
use Rattle.plain_machine.specs.declared.turns.Cut.{Cut}
use Rattle.plain_machine.specs.declared.turns.Moment.{Moment}

-- what a turn makes of its guest and of the bus: the end that came in it, how many of its outward calls were granted, the write
-- to a port that was refused in it, and what it tells
pub record GuestTurn : Type 0 where
  pub guest : Guest
  pub bus : Bus
  pub ended : Option Ended
  pub calls : ℕ
  pub denied : Option PortWrite
  pub told : List Told

-- what a turn of the vcpu knows
abbrev pub facts_in : Moment → Vcpu → Apic → Facts
facts_in m vcpu apic = record {
  vcpu = m.vcpu;
  event = m.event;
  tsc = (m.event + vcpu.registers.tsc_add) % 2 ^ 64;
  apic_id = apic.id;
  features = m.features;
  tpr = 0;
}

abbrev pub no_turn_in : Bus → Guest → GuestTurn
no_turn_in bus guest = record { guest = guest; bus = bus; ended = None; calls = 0; denied = None; told = [] }

abbrev pub turn_done_in : Moment → Guest → Turned → GuestTurn
turn_done_in m guest turn = record {
  guest = guest_after guest m.vcpu.index m.event turn;
  bus = turn.board.bus;
  ended = end_by turn.board.cut m.vcpu.index m.event turn.stepped;
  calls = turn.board.calls;
  denied = turn.board.denied;
  told = turn.told;
}

abbrev pub with_apic_in : Option ℕ → Moment → Bus → Guest → Vcpu → Option Apic → GuestTurn
with_apic_in refused m bus guest vcpu None = no_turn_in bus guest
with_apic_in refused m bus guest vcpu (Some apic) =
    turn_done_in m guest (turned refused (facts_in m vcpu apic) (board_of bus apic) guest.memory vcpu)

abbrev pub with_vcpu_in : Option ℕ → Moment → Bus → Guest → Option Vcpu → GuestTurn
with_vcpu_in refused m bus guest None = no_turn_in bus guest
with_vcpu_in refused m bus guest (Some vcpu) = with_apic_in refused m bus guest vcpu (slice_get guest.apics m.vcpu.index)

abbrev pub with_live_in : Option ℕ → Moment → Bus → Guest → Option Ended → GuestTurn
with_live_in refused m bus guest (Some ended) = no_turn_in bus guest
with_live_in refused m bus guest None = with_vcpu_in refused m bus guest (slice_get guest.vcpus m.vcpu.index)

-- the turn of a vcpu of the guest; one of an ended guest changes nothing
unfoldable pub guest_turn : Option ℕ → Moment → Bus → Guest → GuestTurn
guest_turn refused m bus guest = with_live_in refused m bus guest guest.ended

-- The call of this number is a write to a port: where it is refused the turn is denied that write, and where it is granted the
-- write is all that the turn does to the bus, by its last call.
pub record IsOutIn (call : ℕ) (m : Moment) (bus : Bus) (guest : Guest) : Type 0 where
  pub write : PortWrite
  pub denied : (guest_turn (Some call) m bus guest).denied ≡ Some write
  pub granted : (guest_turn None m bus guest).bus ≡ bus_after_write bus write
  pub last : (guest_turn None m bus guest).calls ≡ call + 1

-- the end that came in a turn, or the refusal that cut it off, with the number of the refused call
abbrev pub outcome_of : Option Ended → Option RunEnd → ℕ → Result (Option Ended) Cut
outcome_of ended None call = Ok ended
outcome_of ended (Some end) call = Err (record { end = end; call = call })
