-- The turn of a vcpu on the plain machine, in L1 and in L2: the VMCB in use is read from memory, the course of the turn's work
-- is played, and what it comes out to is done: a #VMEXIT, or a row that moves a VMCB.
use Rattle.std.specs.Prelude.{ℕ, List, [], false, if◌then◌else◌, Option, Some, None, Result, Ok, Err}
use Rattle.svm_model.specs.Machine.Apic.{pending}
use Rattle.svm_model.specs.Turn.Control.{Control, space_of}
use Rattle.svm_model.specs.Turn.Course.{Board, Found, Turned, Way}
use Rattle.svm_model.specs.Turn.Play.{play}
use Rattle.svm_model.specs.declared.vcpus.Vcpu.{Vcpu}
use Rattle.svm_model.specs.Svm.Vmcb.{Fields, fields_at}
use Rattle.svm_model.specs.Turn.Work.{turn_course}
use Rattle.svm_model.specs.declared.names.End.TheVariants.{OutsideMemory}
use Rattle.svm_model.specs.declared.turns.Facts.{Facts}
use Rattle.svm_model.specs.declared.turns.Stepped.{Stepped}
use Rattle.svm_model.specs.declared.turns.Stepped.TheVariants.{Went, Leaves, Moves, Ends}
use Rattle.svm_model.specs.declared.vcpus.Inside.{Inside}
use Rattle.svm_model.specs.declared.windows.OutsideMemory.{OutsideMemory as OutsideAt}
use Rattle.svm_model.specs.Machine.MovedVmcbs.{moved}
use Rattle.svm_model.specs.Machine.Notices.{over, noticed, exited}

-- what a course comes out to is done
unfoldable pub settled : Way → Option Control → Facts → Turned → Stepped → Turned
settled way control facts turned Went = turned
settled way control facts turned (Leaves exit delivering) = exited way control turned exit delivering turned.vcpu.inside
settled way control facts turned (Moves o next_rip) = moved way facts turned o next_rip
settled way control facts turned (Ends e) = turned

-- The turn. `refused` is the number of the outward call that is refused, where one is.

abbrev pub way_of : Option ℕ → Option Control → Vcpu → Way
way_of refused control vcpu = record { space = space_of control vcpu; refused = refused }

-- what a course comes out to is done, unless the turn was cut off in it, which goes no further
abbrev pub settled_after : Way → Option Control → Facts → Turned → Turned
settled_after way control facts turned = if turned.board.cut then turned else settled way control facts turned turned.stepped

abbrev pub turned_under : Option ℕ → Option Control → Facts → Board → List ℕ → Vcpu → Turned
turned_under refused control facts board memory vcpu =
    let way = way_of refused control vcpu in
    settled_after way control facts (play way board memory [] (turn_course control facts vcpu (pending board.apic)))

-- the VMCB in use; no page of the guest's APIC is there for an L2
abbrev pub control_of : Fields → Control
control_of v = record { fields = v; bar = None }

abbrev pub turned_by : Option ℕ → Facts → Board → List ℕ → Vcpu → ℕ → Result Fields OutsideAt → Turned
turned_by refused facts board memory vcpu vmcb (Err outside) = over memory board vcpu (Ends (OutsideMemory outside.address)) []
turned_by refused facts board memory vcpu vmcb (Ok v) =
    noticed (way_of refused (Some (control_of v)) vcpu) (Found vmcb false v) (over memory board vcpu Went [])
    (λ t. turned_under refused (Some (control_of v)) facts t.board t.memory t.vcpu)

abbrev pub turned_in : Option ℕ → Facts → Board → List ℕ → Vcpu → Option Inside → Turned
turned_in refused facts board memory vcpu None = turned_under refused None facts board memory vcpu
turned_in refused facts board memory vcpu (Some i) = turned_by refused facts board memory vcpu i.kept.vmcb (fields_at memory i.kept.vmcb)

-- a turn of a vcpu of a guest that was not ended
unfoldable pub turned : Option ℕ → Facts → Board → List ℕ → Vcpu → Turned
turned refused facts board memory vcpu = turned_in refused facts board memory vcpu vcpu.inside
