-- What is told of a turn beyond its course, and #VMEXIT.
use Rattle.std.specs.Prelude.{ℕ, List, [], ◌++◌, Bool, if◌then◌else◌, Option, Some, None}
use Rattle.svm_model.specs.Turn.Control.{Control, asks}
use Rattle.svm_model.specs.Turn.Course.{Board, Told, Left, Turned, Way, after}
use Rattle.svm_model.specs.Turn.Play.{called, refuses}
use Rattle.svm_model.specs.declared.vcpus.Vcpu.{Vcpu}
use Rattle.svm_model.specs.Svm.Vmexit.{brought_back, left_vcpu, stored_exit, stored_live, stored_state}
use Rattle.svm_model.specs.Svm.Vmcb.{Fields, FieldValue, fields_in, has_nested_paging, with_fields}
use Rattle.svm_model.specs.declared.exits.Exit.{Exit}
use Rattle.svm_model.specs.declared.traps.Trap.{Trap}
use Rattle.svm_model.specs.declared.turns.Stepped.{Stepped}
use Rattle.svm_model.specs.declared.turns.Stepped.TheVariants.{Went}
use Rattle.svm_model.specs.declared.vcpus.Inside.{Inside}

-- a turn that is over, with what it told
abbrev pub over : List ℕ → Board → Vcpu → Stepped → List Told → Turned
over memory board vcpu stepped told = record { memory = memory; board = board; vcpu = vcpu; stepped = stepped; told = told }

-- what was told before, and then a turn's end
abbrev pub behind : List Told → Turned → Turned
behind told turned = record {
  memory = turned.memory;
  board = turned.board;
  vcpu = turned.vcpu;
  stepped = turned.stepped;
  told = told ++ turned.told;
}

-- a turn's end follows what its course did
abbrev pub finished : Turned → Turned → Turned
finished turned rest = behind turned.told rest

-- a notice; where it is refused nothing behind it is done
abbrev pub noticed : Way → Told → Turned → (Turned → Turned) → Turned
noticed way told turned next =
    let refused = refuses way turned.board in
    let heard = over turned.memory (called refused turned.board) turned.vcpu Went [] in
    after told (if refused then heard else next heard)

-- #VMEXIT.

-- the fields of the VMCB are stored in memory, and what VMRUN kept is brought back
abbrev pub brought : Bool → Inside → List FieldValue → Turned → Turned
brought nested i stored t =
    over (with_fields i.kept.vmcb stored t.memory) t.board (left_vcpu (brought_back nested i.kept.registers t.vcpu.registers) t.vcpu) Went []

abbrev pub exited_inside : Way → Bool → Turned → Inside → List FieldValue → Turned
exited_inside way nested turned i stored = finished turned (noticed way (Left i.kept.vmcb stored) turned (brought nested i stored))

-- nested paging is that of the turn; the fields are those that memory has at the exit
abbrev pub stored_inside : Bool → Turned → Exit → Option Trap → Inside → Fields → List FieldValue
stored_inside nested turned exit delivering i v =
    stored_state nested turned.vcpu.registers v ++ stored_live i v ++ stored_exit exit delivering v

abbrev pub exited : Way → Option Control → Turned → Exit → Option Trap → Option Inside → Turned
exited way control turned exit delivering None = turned
exited way control turned exit delivering (Some i) =
    let nested = asks has_nested_paging control in
    exited_inside way nested turned i (stored_inside nested turned exit delivering i (fields_in turned.memory i.kept.vmcb))
