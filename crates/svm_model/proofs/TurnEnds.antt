-- A turn that ends its guest leaves the registers as before it, whatever trapped behind its row, at either level.
use Rattle.std.proofs.Common.{◌≡◌, ℕ, Bool, true, false, List, [], Option, Some, None, Result, Ok, Err, ap, refl, if◌then◌else◌, subst}
use Rattle.svm_model.specs.Machine.Apic.{pending}
use Rattle.svm_model.specs.Instructions.Operands.{rax, whole_register}
use Rattle.svm_model.specs.Machine.MovedVmcbs.{behind_flush, entered_turn, flush_of, moved_by, moved_outside, offered_to_l1, on_broken, on_mode, refused_vmrun, vmload, vmrun, vmsave}
use Rattle.svm_model.specs.Machine.Notices.{brought, exited, exited_inside, noticed, over}
use Rattle.svm_model.specs.Svm.Intercepts.{invalid_exit}
use Rattle.svm_model.specs.Svm.VmcbRules.{broken}
use Rattle.svm_model.specs.Svm.Vmexit.{stored_exit}
use Rattle.svm_model.specs.Svm.VmloadVmsave.{moved_at}
use Rattle.svm_model.specs.Machine.PlainTurn.{control_of, settled, turned, turned_by, turned_in, turned_under, way_of}
use Rattle.svm_model.specs.Svm.Vmcb.{Fields, FieldValue, fields_at, has_nested_paging, value}
use Rattle.svm_model.specs.Turn.Control.{Control, asks}
use Rattle.svm_model.specs.Turn.Course.{Board, Flushed, Found, Left, Told, Turned, Way}
use Rattle.svm_model.specs.Turn.Play.{called, play, refuses}
use Rattle.svm_model.specs.Turn.Work.{turn_course}
use Rattle.svm_model.specs.declared.exits.Exit.{Exit}
use Rattle.svm_model.specs.declared.names.End.{End}
use Rattle.svm_model.specs.declared.rows.Op.{Op}
use Rattle.svm_model.specs.declared.rows.Op.TheVariants as op
use Rattle.svm_model.specs.declared.system.Flush.{Flush}
use Rattle.svm_model.specs.declared.traps.Trap.{Trap}
use Rattle.svm_model.specs.declared.turns.Facts.{Facts}
use Rattle.svm_model.specs.declared.turns.Stepped.{Stepped}
use Rattle.svm_model.specs.declared.turns.Stepped.TheVariants.{Went, Leaves, Moves, Ends}
use Rattle.svm_model.specs.declared.vcpus.Inside.{Inside}
use Rattle.svm_model.specs.declared.vcpus.Vcpu.{Vcpu}
use Rattle.svm_model.specs.declared.vmcbs.Field.TheVariants as f
use Rattle.svm_model.specs.declared.windows.OutsideMemory.{OutsideMemory}
use Rattle.svm_model.proofs.LastCourses.{IsFine, keeps_registers, turn_last}
use Rattle.svm_model.proofs.LastPlays.{last_fine}

-- what a turn's end owes to the registers that it began with
abbrev IsAsBefore : Vcpu → Turned → End → Type 0
IsAsBefore start t e = t.stepped ≡ Ends e → t.vcpu.registers ≡ start.registers

-- behind a notice the turn has gone on, whether it is granted or not
unnoticed : (start : Vcpu) (refused : Bool) (heard next : Turned) (e : End) → heard.stepped ≡ Went → IsAsBefore start next e → IsAsBefore start (if refused then heard else next) e
unnoticed start true heard next e went h = λ f. absurd (cc)
unnoticed start false heard next e went h = h

left-before : (start : Vcpu) (way : Way) (nested : Bool) (t : Turned) (i : Inside) (stored : List FieldValue) (e : End) → IsAsBefore start (exited_inside way nested t i stored) e
left-before start way nested t i stored e =
    unnoticed start (refuses way t.board) (over t.memory (called (refuses way t.board) t.board) t.vcpu Went [])
    (brought nested i stored (over t.memory (called (refuses way t.board) t.board) t.vcpu Went [])) e refl (λ f. absurd (cc))

exited-before : (start : Vcpu) (way : Way) (control : Option Control) (t : Turned) (exit : Exit) (delivering : Option Trap) (o : Option Inside) (e : End) → t.stepped ≡ Leaves exit delivering → IsAsBefore start (exited way control t exit delivering o) e
exited-before start way control t exit delivering None e is = λ f. absurd (cc)
exited-before start way control t exit delivering (Some i) e is = left-before start way (asks has_nested_paging control) t i _ e

-- Rows that move a VMCB: a guest that they end is as they found it.

outside-before : (start : Vcpu) (t : Turned) (address : ℕ) (e : End) → t.vcpu.registers ≡ start.registers → IsAsBefore start (moved_outside t address) e
outside-before start t address e same = λ f. same

vmload-before : (start : Vcpu) (t : Turned) (vmcb next_rip : ℕ) (o : Option OutsideMemory) (e : End) → t.vcpu.registers ≡ start.registers → IsAsBefore start (vmload t vmcb next_rip o) e
vmload-before start t vmcb next_rip (Some outside) e same = outside-before start t outside.address e same
vmload-before start t vmcb next_rip None e same = λ f. absurd (cc)

vmsave-before : (start : Vcpu) (t : Turned) (vmcb next_rip : ℕ) (o : Option OutsideMemory) (e : End) → t.vcpu.registers ≡ start.registers → IsAsBefore start (vmsave t vmcb next_rip o) e
vmsave-before start t vmcb next_rip (Some outside) e same = outside-before start t outside.address e same
vmsave-before start t vmcb next_rip None e same = λ f. absurd (cc)

-- a notice, behind which nothing ends the guest
noticed-before : (start : Vcpu) (way : Way) (told : Told) (t : Turned) (next : Turned → Turned) (e : End) → ((board : Board) → IsAsBefore start (next (over t.memory board t.vcpu Went [])) e) → IsAsBefore start (noticed way told t next) e
noticed-before start way told t next e h =
    let heard = over t.memory (called (refuses way t.board) t.board) t.vcpu Went [] in
    unnoticed start (refuses way t.board) heard (next heard) e refl (h (called (refuses way t.board) t.board))

mode-before : (start : Vcpu) (way : Way) (t : Turned) (vmcb next_rip : ℕ) (v : Fields) (flush : Option Flush) (rule : Option ℕ) (e : End) → t.vcpu.registers ≡ start.registers → flush ≡ flush_of (value v f.TlbControl) (value v f.Asid) →
    IsAsBefore start (on_mode way t vmcb next_rip v rule) e
mode-before start way t vmcb next_rip v None None e same is = subst (λ (o : Option Flush). IsAsBefore start (behind_flush way t o (entered_turn vmcb next_rip v)) e) is (λ f. absurd (cc))
mode-before start way t vmcb next_rip v (Some flush) None e same is =
    subst (λ (o : Option Flush). IsAsBefore start (behind_flush way t o (entered_turn vmcb next_rip v)) e) is
    (noticed-before start way (Flushed flush) t (entered_turn vmcb next_rip v) e (λ board f. absurd (cc)))
mode-before start way t vmcb next_rip v flush (Some rule) e same is = λ f. same

broken-before : (start : Vcpu) (way : Way) (t : Turned) (vmcb next_rip : ℕ) (v : Fields) (rule : Option ℕ) (e : End) → t.vcpu.registers ≡ start.registers → IsAsBefore start (on_broken way t vmcb next_rip v rule) e
broken-before start way t vmcb next_rip v None e same = mode-before start way t vmcb next_rip v _ _ e same refl
broken-before start way t vmcb next_rip v (Some rule) e same =
    let stored = stored_exit invalid_exit None v in noticed-before start way (Left vmcb stored) t (refused_vmrun vmcb next_rip stored) e (λ board f. absurd (cc))

vmrun-before : (start : Vcpu) (way : Way) (facts : Facts) (t : Turned) (vmcb next_rip : ℕ) (found : Result Fields OutsideMemory) (e : End) → t.vcpu.registers ≡ start.registers → IsAsBefore start (vmrun way facts t vmcb next_rip found) e
vmrun-before start way facts t vmcb next_rip (Err outside) e same = λ f. same
vmrun-before start way facts t vmcb next_rip (Ok v) e same =
    noticed-before start way (Found vmcb true v) t (λ t. on_broken way t vmcb next_rip v (broken v (offered_to_l1 facts))) e
    (λ board. broken-before start way (over t.memory board t.vcpu Went []) vmcb next_rip v (broken v (offered_to_l1 facts)) e same)

moved-before : (start : Vcpu) (o : Op) (way : Way) (facts : Facts) (t : Turned) (vmcb next_rip : ℕ) (e : End) → t.vcpu.registers ≡ start.registers → IsAsBefore start (moved_by o way facts t vmcb next_rip) e
unfolding moved_by
moved-before start op.Vmload way facts t vmcb next_rip e same = vmload-before start t vmcb next_rip (moved_at t.memory vmcb) e same
moved-before start op.Vmsave way facts t vmcb next_rip e same = vmsave-before start t vmcb next_rip (moved_at t.memory vmcb) e same
moved-before start o way facts t vmcb next_rip e same = vmrun-before start way facts t vmcb next_rip (fields_at t.memory vmcb) e same

settled-before : (start : Vcpu) (way : Way) (control : Option Control) (facts : Facts) (t : Turned) (stepped : Stepped) (e : End) → t.stepped ≡ stepped → IsFine start t.vcpu stepped → IsAsBefore start (settled way control facts t stepped) e
unfolding settled
settled-before start way control facts t Went e is fine = λ f. absurd (cc)
settled-before start way control facts t (Leaves exit delivering) e is fine = exited-before start way control t exit delivering t.vcpu.inside e is
settled-before start way control facts t (Moves o next_rip) e is fine = moved-before start o way facts t (whole_register rax t.vcpu.registers) next_rip e (fine.registers refl)
settled-before start way control facts t (Ends x) e is fine = λ f. fine.registers refl

unsettled-before : (start : Vcpu) (cut : Bool) (way : Way) (control : Option Control) (facts : Facts) (t : Turned) (e : End) → IsFine start t.vcpu t.stepped → IsAsBefore start (if cut then t else settled way control facts t t.stepped) e
unsettled-before start true way control facts t e fine = λ f. fine.registers (ap keeps_registers f)
unsettled-before start false way control facts t e fine = settled-before start way control facts t t.stepped e refl fine

under-before : (refused : Option ℕ) (control : Option Control) (facts : Facts) (board : Board) (memory : List ℕ) (vcpu : Vcpu) (e : End) → IsAsBefore vcpu (turned_under refused control facts board memory vcpu) e
under-before refused control facts board memory vcpu e =
    let way = way_of refused control vcpu in
    let course = turn_course control facts vcpu (pending board.apic) in
    unsettled-before vcpu (play way board memory [] course).board.cut way control facts (play way board memory [] course) e
    (last_fine vcpu way board memory [] course (turn_last control facts vcpu (pending board.apic)))

by-before : (refused : Option ℕ) (facts : Facts) (board : Board) (memory : List ℕ) (vcpu : Vcpu) (vmcb : ℕ) (found : Result Fields OutsideMemory) (e : End) → IsAsBefore vcpu (turned_by refused facts board memory vcpu vmcb found) e
by-before refused facts board memory vcpu vmcb (Err outside) e = λ f. refl
by-before refused facts board memory vcpu vmcb (Ok v) e =
    let way = way_of refused (Some (control_of v)) vcpu in
    let heard = over memory (called (refuses way board) board) vcpu Went [] in
    unnoticed vcpu (refuses way board) heard (turned_under refused (Some (control_of v)) facts heard.board memory vcpu) e refl
    (under-before refused (Some (control_of v)) facts heard.board memory vcpu e)

in-before : (refused : Option ℕ) (facts : Facts) (board : Board) (memory : List ℕ) (vcpu : Vcpu) (o : Option Inside) (e : End) → IsAsBefore vcpu (turned_in refused facts board memory vcpu o) e
in-before refused facts board memory vcpu None e = under-before refused None facts board memory vcpu e
in-before refused facts board memory vcpu (Some i) e = by-before refused facts board memory vcpu i.kept.vmcb (fields_at memory i.kept.vmcb) e

pub turned-ended : (refused : Option ℕ) (facts : Facts) (board : Board) (memory : List ℕ) (vcpu : Vcpu) (e : End) →
    (turned refused facts board memory vcpu).stepped ≡ Ends e → (turned refused facts board memory vcpu).vcpu.registers ≡ vcpu.registers
unfolding turned
turned-ended refused facts board memory vcpu e = in-before refused facts board memory vcpu vcpu.inside e
