-- Notices beyond a turn's course: of the fields of a VMCB, of a flush, and of an exit.
use Rattle.std.proofs.Common.{◌≡◌, ◌∙◌, ℕ, Bool, if◌then◌else◌, List, [], ◌∷◌, Option, Some, ap, sym, refl, subst}
use Rattle.svm_model.specs.Audit.WatchCalls.{Notice, told_first}
use Rattle.svm_model.specs.Machine.MovedVmcbs.{behind_flush}
use Rattle.svm_model.specs.Machine.Notices.{brought, exited, exited_inside, finished, noticed, over, stored_inside}
use Rattle.svm_model.specs.Svm.Vmcb.{FieldValue, fields_in, has_nested_paging}
use Rattle.svm_model.specs.Turn.Control.{Control, asks}
use Rattle.svm_model.specs.Turn.Course.{Board, Flushed, Left, Told, Turned, Way, after}
use Rattle.svm_model.specs.Turn.Play.{called, refuses}
use Rattle.svm_model.specs.declared.audits.TurnId.{TurnId}
use Rattle.svm_model.specs.declared.exits.Exit.{Exit}
use Rattle.svm_model.specs.declared.names.RunEnd.{RunEnd}
use Rattle.svm_model.specs.declared.system.Flush.{Flush}
use Rattle.svm_model.specs.declared.traps.Trap.{Trap}
use Rattle.svm_model.specs.declared.turns.Stepped.{Stepped}
use Rattle.svm_model.specs.declared.turns.Stepped.TheVariants.{Went}
use Rattle.svm_model.specs.declared.vcpus.Inside.{Inside}
use Rattle.svm_model.specs.declared.vcpus.Vcpu.{Vcpu}
use Rattle.watch.specs.Leads.{Leads}
use Rattle.plain_machine.specs.Turning.{Adds, Gives}
use Rattle.plain_machine.proofs.NoticeLemmas.{adds-first}

-- a turn that was told of, granted or not
abbrev pub heard : Bool → Turned → Turned
heard refused t = over t.memory (called refused t.board) t.vcpu Went []

-- what a notice comes to
abbrev pub noticed_as : Bool → Told → Turned → (Turned → Turned) → Turned
noticed_as refused told t next = after told (if refused then heard refused t else next (heard refused t))

pub noticed-by : (way : Way) (told : Told) (t : Turned) (next : Turned → Turned) (refused : Bool) → refuses way t.board ≡ refused → noticed way told t next ≡ noticed_as refused told t next
noticed-by way told t next refused e = ap (λ (b : Bool). noticed_as b told t next) e

-- A flush that is asked for at a VMRUN.
pub flushed-by : (way : Way) (flush : Flush) (asked : Option Flush) (t : Turned) (next : Turned → Turned) (refused : Bool) → Some flush ≡ asked → refuses way t.board ≡ refused → behind_flush way t asked next ≡ noticed_as refused (Flushed flush) t next
flushed-by way flush asked t next refused is e =
    sym (ap (λ (o : Option Flush). behind_flush way t o next) is) ∙ noticed-by way (Flushed flush) t next refused e

-- The exit of a vcpu that is inside a VMCB.
pub exited-by : (way : Way) (control : Option Control) (t : Turned) (exit : Exit) (delivering : Option Trap) (i : Inside) (nested : Bool) (stored : List FieldValue) (refused : Bool) →
    t.vcpu.inside ≡ Some i → asks has_nested_paging control ≡ nested → stored ≡ stored_inside nested t exit delivering i (fields_in t.memory i.kept.vmcb) → refuses way t.board ≡ refused →
    exited way control t exit delivering t.vcpu.inside ≡ finished t (noticed_as refused (Left i.kept.vmcb stored) t (brought nested i stored))
exited-by way control t exit delivering i nested stored refused inside asked is e =
    ap (exited way control t exit delivering) inside
    ∙ ap (λ (n : Bool). exited_inside way n t i (stored_inside n t exit delivering i (fields_in t.memory i.kept.vmcb))) asked
    ∙ ap (exited_inside way nested t i) (sym is)
    ∙ ap (finished t) (noticed-by way (Left i.kept.vmcb stored) t (brought nested i stored) refused e)

-- What a turn is says what it gives.

pub gives-is : (t u : Turned) (memory : List ℕ) (board : Board) (vcpu : Vcpu) (stepped : Stepped) → t ≡ u → u.memory ≡ memory → u.board ≡ board → u.vcpu ≡ vcpu → u.stepped ≡ stepped → Gives t memory board vcpu stepped
gives-is t u memory board vcpu stepped e in_memory in_board in_vcpu in_stepped = record {
  memory_is = ap (λ (x : Turned). x.memory) e ∙ in_memory;
  board_is = ap (λ (x : Turned). x.board) e ∙ in_board;
  vcpu_is = ap (λ (x : Turned). x.vcpu) e ∙ in_vcpu;
  stepped_is = ap (λ (x : Turned). x.stepped) e ∙ in_stepped;
}

-- what comes of a notice that was granted
pub gives-heard : (t u : Turned) (told : Told) (memory : List ℕ) (board : Board) (vcpu : Vcpu) (stepped : Stepped) → t ≡ after told u → Gives u memory board vcpu stepped → Gives t memory board vcpu stepped
gives-heard t u told memory board vcpu stepped e g = gives-is t (after told u) memory board vcpu stepped e g.memory_is g.board_is g.vcpu_is g.stepped_is

module _ {W : Type 0} (tells : W → Notice → W → Type 0) (turn : TurnId) where
  pub adds-is : (refused : Option RunEnd) (t : List Told) (u : List Told) (old new : W) → t ≡ u → Adds tells turn refused u old new → Adds tells turn refused t old new
  adds-is refused t u old new e h = subst (λ (ts : List Told). Adds tells turn refused ts old new) (sym e) h

  -- one notice alone
  pub adds-one : (refused : Option RunEnd) (told : Told) (old new : W) → Leads tells old (told_first turn told []) new → Adds tells turn refused (told ∷ []) old new
  adds-one refused told old new h = adds-first tells turn refused told [] old new new h (λ none. refl)
