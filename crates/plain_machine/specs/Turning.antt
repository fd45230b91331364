-- What the executor's turn of a vcpu gives.
use Rattle.std.specs.Prelude.{◌≡◌, ℕ, ◌+◌, ◌≤◌, Bool, true, false, List, [], Option, Some, None, IfSome, is_some}
use Rattle.svm_model.specs.Audit.WatchCalls.{Notice, notices}
use Rattle.svm_model.specs.Machine.Apic.{pending}
use Rattle.svm_model.specs.Machine.Bus.{Bus, bus_after_write}
use Rattle.svm_model.specs.Machine.PlainTurn.{way_of}
use Rattle.svm_model.specs.Turn.Control.{Control}
use Rattle.svm_model.specs.Turn.Course.{Board, Told, Turned, Way}
use Rattle.svm_model.specs.Turn.Play.{play}
use Rattle.svm_model.specs.Turn.Work.{turn_course}
use Rattle.svm_model.specs.declared.audits.TurnId.{TurnId}
use Rattle.svm_model.specs.declared.names.RunEnd.{RunEnd}
use Rattle.svm_model.specs.declared.ports.PortWrite.{PortWrite}
use Rattle.svm_model.specs.declared.turns.Facts.{Facts}
use Rattle.svm_model.specs.declared.turns.Space.{Space}
use Rattle.svm_model.specs.declared.turns.Stepped.{Stepped}
use Rattle.svm_model.specs.declared.turns.Stepped.TheVariants.{Went, Leaves, Moves, Ends}
use Rattle.svm_model.specs.declared.vcpus.Inside.{Inside}
use Rattle.svm_model.specs.declared.vcpus.Vcpu.{Vcpu}
use Rattle.turn_exec.specs.Plays.{refused_at}
use Rattle.turn_exec.specs.declared.guest_turn.Outward.{Outward}
use Rattle.watch.specs.Leads.{Leads}

-- memory, what stands about the vcpu, the vcpu and how it comes out are those of the turn
pub record Gives (turned : Turned) (memory : List ℕ) (board : Board) (vcpu : Vcpu) (stepped : Stepped) : Type 0 where
  pub memory_is : turned.memory ≡ memory
  pub board_is : turned.board ≡ board
  pub vcpu_is : turned.vcpu ≡ vcpu
  pub stepped_is : turned.stepped ≡ stepped

-- where it is granted this write is all that the turn does to the bus, by the call of this number, its last one
pub record GrantsLast (call : ℕ) (bus : Bus) (write : PortWrite) (turned : Turned) : Type 0 where
  pub granted : turned.board.bus ≡ bus_after_write bus write
  pub last : turned.board.calls ≡ call + 1

-- what stands about the vcpu, where so many outward calls were granted
abbrev pub counted : Board → ℕ → Board
counted board calls = record board { calls = calls }

-- something is left to do behind a course that comes out so
abbrev pub is_unsettled : Stepped → Bool
is_unsettled Went = false
is_unsettled (Leaves exit delivering) = true
is_unsettled (Moves o next_rip) = true
is_unsettled (Ends e) = false

-- the course of the turn, played
abbrev pub course_played : Option ℕ → Option Control → Facts → Board → List ℕ → Vcpu → Turned
course_played refused control facts board memory vcpu = play (way_of refused control vcpu) board memory [] (turn_course control facts vcpu (pending board.apic))

-- the vcpu is inside the VMCB at this address
abbrev pub IsInside : ℕ → Option Inside → Type 0
IsInside vmcb None = ⊥
IsInside vmcb (Some i) = i.kept.vmcb ≡ vmcb

-- what VMRUN kept lies in a VMCB whose page is all within so many bytes
abbrev pub IsKeptIn : ℕ → Option Inside → Type 0
IsKeptIn size inside = IfSome inside (λ i. i.kept.vmcb + 4096 ≤ size)

-- What comes of outward calls.

-- what stands about the vcpu then
abbrev pub heard_board : Board → Outward → Board
heard_board board outward = record board { calls = outward.calls; cut = is_some outward.refused }

-- the way of a turn whose calls came to this
abbrev pub way_by : Space → Outward → Way
way_by space outward = record { space = space; refused = refused_at outward.refused outward.calls }

-- none was refused
abbrev pub IsGoing : Outward → Type 0
IsGoing outward = outward.refused ≡ None

-- what more calls came to: none is granted behind a refusal
abbrev pub LaterFrom : Option RunEnd → ℕ → Outward → Type 0
LaterFrom None calls last = calls ≤ last.calls
LaterFrom (Some end) calls last = (last.refused ≡ Some end) × (last.calls ≡ calls)

abbrev pub Later : Outward → Outward → Type 0
Later before last = LaterFrom before.refused before.calls last

-- Unless the turn was cut off, one who watches was told this of it.
abbrev pub Adds : {W : Type 0} → (W → Notice → W → Type 0) → TurnId → Option RunEnd → List Told → W → W → Type 0
Adds tells turn refused told old new = refused ≡ None → Leads tells old (notices turn told) new
