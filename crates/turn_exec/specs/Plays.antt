-- What playing a course over a guest's memory leads to.
use Rattle.std.specs.Prelude.{◌≡◌, ◌≤◌, ◌+◌, ◌||◌, ℕ, List, Bool, Option, Some, None, is_some, if◌then◌else◌}
use Rattle.svm_model.specs.Machine.Apic.{Apic}
use Rattle.svm_model.specs.Machine.Bus.{Bus}
use Rattle.svm_model.specs.Memory.Bytes.{Host, SameOutside, guest_of}
use Rattle.svm_model.specs.Turn.Course.{Board, Course, Told}
use Rattle.svm_model.specs.Turn.Play.{is_refused, play}
use Rattle.svm_model.specs.declared.apics.Ipi.{Ipi}
use Rattle.svm_model.specs.declared.names.RunEnd.{RunEnd}
use Rattle.svm_model.specs.declared.names.RunEnd.TheVariants.{NoMemory as WantOfMemory}
use Rattle.svm_model.specs.declared.ports.PortWrite.{PortWrite}
use Rattle.svm_model.specs.declared.turns.Space.{Space}
use Rattle.svm_model.specs.declared.turns.Stepped.{Stepped}
use Rattle.svm_model.specs.declared.vcpus.Vcpu.{Vcpu}
use Rattle.svm_model.specs.declared.windows.GuestWindow.{GuestWindow}
use Rattle.fault_counts.specs.Causes.{Rose}
use Rattle.port_bus.specs.Causes.{Blames, NoneFell}
use Rattle.turn_exec.specs.Follows.{Ensues}

-- the outward call that was refused, where one was: the one after those that were granted
abbrev pub refused_at : Option RunEnd → ℕ → Option ℕ
refused_at None calls = None
refused_at (Some end) calls = Some calls

-- what stands about a vcpu, where this call was refused
abbrev pub board_with : Bus → Apic → Option Ipi → ℕ → Option RunEnd → Option PortWrite → Board
board_with bus apic sent calls refused denied = record {
  bus = bus;
  apic = apic;
  sent = sent;
  calls = calls;
  cut = is_some refused;
  denied = denied;
}

abbrev pub IsBlamed : Option RunEnd → List (Option ℕ) → List (Option ℕ) → Type 0
IsBlamed None old new = Unit {0}
IsBlamed (Some end) old new = Blames end old new

-- A call that was granted or refused: how many were granted by then, and whether the turn is cut off.
pub record IsCalled (calls : ℕ) (refused last_refused : Option RunEnd) (last_calls new_calls : ℕ) (new_refused : Option RunEnd) : Type 0 where
  pub counted : (if is_refused (refused_at last_refused last_calls) calls then calls else calls + 1) ≡ new_calls
  pub cut : (is_refused (refused_at last_refused last_calls) calls || is_some refused) ≡ is_some new_refused

-- a refusal that is none of a write to a port is that of a notice, for want of memory, and the count of who refuses notices rose
abbrev pub IsCause : Option RunEnd → Option PortWrite → ℕ → ℕ → Type 0
IsCause None denied old new = Unit {0}
IsCause (Some end) None old new = (end ≡ WantOfMemory) × Rose old new
IsCause (Some end) (Some write) old new = Unit {0}

-- granted calls only grow in number, as the counts of refusals do, and a refusal is blamed on whom it came from
pub record Calls (calls refusals : ℕ) (faults : List (Option ℕ)) (last_refused : Option RunEnd) (last_denied : Option PortWrite) (last_calls last_refusals : ℕ) (last_faults : List (Option ℕ)) : Type 0 where
  pub more : calls ≤ last_calls
  pub later : refusals ≤ last_refusals
  pub none_fell : NoneFell faults last_faults
  pub blamed : IsBlamed last_refused faults last_faults
  pub cause : IsCause last_refused last_denied refusals last_refusals

-- no call is granted behind a refusal
pub record Refused (end : RunEnd) (denied : Option PortWrite) (calls refusals : ℕ) (faults : List (Option ℕ)) (last_refused : Option RunEnd) (last_denied : Option PortWrite) (last_calls last_refusals : ℕ) (last_faults : List (Option ℕ)) : Type 0 where
  pub refused : last_refused ≡ Some end
  pub denied_is : last_denied ≡ denied
  pub calls_are : last_calls ≡ calls
  pub later : refusals ≤ last_refusals
  pub faults_are : last_faults ≡ faults

abbrev pub CallsFrom : Option RunEnd → Option PortWrite → ℕ → ℕ → List (Option ℕ) → Option RunEnd → Option PortWrite → ℕ → ℕ → List (Option ℕ) → Type 0
CallsFrom None denied calls refusals faults last_refused last_denied last_calls last_refusals last_faults =
    Calls calls refusals faults last_refused last_denied last_calls last_refusals last_faults
CallsFrom (Some end) denied calls refusals faults last_refused last_denied last_calls last_refusals last_faults =
    Refused end denied calls refusals faults last_refused last_denied last_calls last_refusals last_faults

pub record Plays {S : Type 0} (stands : S → List Told → Type 0) (tells : S → Told → S → Type 0) (copies : Bool) (rule : List Told → Told → Bool) (space : Space) (window : GuestWindow) (old : S) (host : Host) (board : Board) (frames : List ℕ) (course : Course) (last : S) (new : Host) (last_board : Board) (refused : Option RunEnd) (vcpu : Vcpu) (stepped : Stepped) : Type 0 where
  pub others : SameOutside window host new
  pub ensues : (history : List Told) → stands old history →
      Ensues stands tells copies rule refused (play (record { space = space; refused = refused_at refused last_board.calls }) board (guest_of window host.bytes) frames course)
      history old last (guest_of window new.bytes) last_board vcpu stepped

-- the references are the same, and so is the name of the one who is told
pub record SameNames {A B C D E F : Type 0} (a0 a1 : A) (b0 b1 : B) (c0 c1 : C) (d0 d1 : D) (e0 e1 : E) (f0 f1 : F) (told0 told1 : ℕ) : Type 0 where
  pub translator : a0 ≡ a1
  pub memory : b0 ≡ b1
  pub bus : c0 ≡ c1
  pub apics : d0 ≡ d1
  pub steps : e0 ≡ e1
  pub outward : f0 ≡ f1
  pub told : told0 ≡ told1
