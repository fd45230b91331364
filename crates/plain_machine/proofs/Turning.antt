-- The executor's turn of a vcpu, settled, is the plain turn.
use Rattle.std.proofs.Common.{◌≡◌, ◌∙◌, ◌≤◌, ℕ, Bool, true, false, ◌&&◌, not, is_some, IfSome, List, [], ◌∷◌, ◌++◌, Option, Some, None, Result, Ok, Err, ap, arith, sym, refl, subst, if◌then◌else◌}
use Rattle.svm_model.proofs.LastCourses.{kept_in}
use Rattle.svm_model.proofs.LastPlays.{DeniesLast, Played, turn-denied, turn-kept}
use Rattle.svm_model.specs.Machine.Apic.{Apic, pending}
use Rattle.svm_model.specs.Machine.Bus.{Bus}
use Rattle.svm_model.specs.Audit.WatchCalls.{Notice}
use Rattle.svm_model.specs.Instructions.Operands.{rax, whole_register}
use Rattle.svm_model.specs.Machine.MovedVmcbs.{moved, moved_by, vmload, vmrun, vmsave}
use Rattle.svm_model.specs.Machine.Notices.{exited, over}
use Rattle.svm_model.specs.Machine.PlainTurn.{control_of, settled, turned, turned_by, turned_in, turned_under, way_of}
use Rattle.svm_model.specs.Svm.Vmcb.{Fields, fields_at}
use Rattle.svm_model.specs.Svm.VmloadVmsave.{moved_at}
use Rattle.svm_model.specs.Turn.Control.{Control, space_of}
use Rattle.svm_model.specs.Turn.Course.{Board, Course, Found, Told, Turned, Way, after}
use Rattle.svm_model.specs.Turn.Play.{called, is_refused, play}
use Rattle.svm_model.specs.Turn.Work.{turn_course}
use Rattle.svm_model.specs.declared.apics.Ipi.{Ipi}
use Rattle.svm_model.specs.declared.audits.TurnId.{TurnId}
use Rattle.svm_model.specs.declared.exits.Exit.{Exit}
use Rattle.svm_model.specs.declared.names.End.TheVariants.{OutsideMemory}
use Rattle.svm_model.specs.declared.names.RunEnd.{RunEnd}
use Rattle.svm_model.specs.declared.ports.PortWrite.{PortWrite}
use Rattle.svm_model.specs.declared.rows.Op.{Op}
use Rattle.svm_model.specs.declared.rows.Op.TheVariants as op
use Rattle.svm_model.specs.declared.traps.Trap.{Trap}
use Rattle.svm_model.specs.declared.turns.Facts.{Facts}
use Rattle.svm_model.specs.declared.turns.Space.{Space}
use Rattle.svm_model.specs.declared.turns.Stepped.{Stepped}
use Rattle.svm_model.specs.declared.turns.Stepped.TheVariants.{Went, Leaves, Moves, Ends}
use Rattle.svm_model.specs.declared.vcpus.Inside.{Inside}
use Rattle.svm_model.specs.declared.vcpus.Vcpu.{Vcpu}
use Rattle.svm_model.specs.declared.windows.OutsideMemory.{OutsideMemory as OutsideAt}
use Rattle.turn_exec.specs.Follows.{Needs}
use Rattle.port_bus.specs.Causes.{Blames}
use Rattle.turn_exec.specs.Plays.{IsBlamed, IsCause, board_with, refused_at}
use Rattle.turn_exec.specs.Begun.{begun, nothing}
use Rattle.turn_exec.specs.declared.guest_turn.Outward.{Outward}
use Rattle.plain_machine.specs.Turning.{Adds, Gives, GrantsLast, IsGoing, IsInside, IsKeptIn, Later, LaterFrom, course_played, is_unsettled, way_by}
use Rattle.plain_machine.proofs.GrantedLemmas.{granted}

-- the executor's turn is the course played
pub played-is : (refused : Option ℕ) (control : Option Control) (facts : Facts) (board : Board) (memory : List ℕ) (vcpu : Vcpu) (interrupt : Option ℕ) (space : Space) →
    turn_course control facts vcpu interrupt ≡ turn_course control facts vcpu (pending board.apic) → space ≡ space_of control vcpu →
    play (record { space = space; refused = refused }) board memory [] (turn_course control facts vcpu interrupt) ≡ course_played refused control facts board memory vcpu
played-is refused control facts board memory vcpu interrupt space gives same =
    let t : Space → Course → Turned = λ s course. play (record { space = s; refused = refused }) board memory [] course in
    ap (λ (s : Space). t s (turn_course control facts vcpu interrupt)) same ∙ ap (t (space_of control vcpu)) gives

pub turn-played : (refused : Option ℕ) (control : Option Control) (facts : Facts) (board : Board) (memory : List ℕ) (vcpu : Vcpu) (interrupt : Option ℕ) (space : Space) (new : List ℕ) (last : Board) (after : Vcpu) (stepped : Stepped) →
    turn_course control facts vcpu interrupt ≡ turn_course control facts vcpu (pending board.apic) → space ≡ space_of control vcpu →
    new ≡ (play (record { space = space; refused = refused }) board memory [] (turn_course control facts vcpu interrupt)).memory →
    last ≡ (play (record { space = space; refused = refused }) board memory [] (turn_course control facts vcpu interrupt)).board →
    after ≡ (play (record { space = space; refused = refused }) board memory [] (turn_course control facts vcpu interrupt)).vcpu →
    stepped ≡ (play (record { space = space; refused = refused }) board memory [] (turn_course control facts vcpu interrupt)).stepped →
    Gives (course_played refused control facts board memory vcpu) new last after stepped
turn-played refused control facts board memory vcpu interrupt space new last after stepped gives same in_memory in_board in_vcpu in_stepped =
    let is = played-is refused control facts board memory vcpu interrupt space gives same in
    record {
      memory_is = sym (in_memory ∙ ap (λ (x : Turned). x.memory) is);
      board_is = sym (in_board ∙ ap (λ (x : Turned). x.board) is);
      vcpu_is = sym (in_vcpu ∙ ap (λ (x : Turned). x.vcpu) is);
      stepped_is = sym (in_stepped ∙ ap (λ (x : Turned). x.stepped) is);
    }

abbrev pub as_played : Turned → Played
as_played t = record { board = t.board; stepped = t.stepped }

-- where it was denied a write, that write is its last call, and it went through
pub played-denied : (refused : Option ℕ) (control : Option Control) (facts : Facts) (board : Board) (memory : List ℕ) (vcpu : Vcpu) (call : ℕ) (write : PortWrite) → refused ≡ Some call → board.cut ≡ false → board.denied ≡ None →
    (course_played refused control facts board memory vcpu).board.denied ≡ Some write →
    DeniesLast call board.bus write (as_played (course_played refused control facts board memory vcpu)) (as_played (course_played None control facts board memory vcpu))
played-denied refused control facts board memory vcpu call write e uncut none s =
    let is_out : Option ℕ → Type 0 = λ o. (course_played o control facts board memory vcpu).board.denied ≡ Some write →
    DeniesLast call board.bus write (as_played (course_played o control facts board memory vcpu)) (as_played (course_played None control facts board memory vcpu)) in
    subst is_out (sym e) (λ t. turn-denied (space_of control vcpu) call board memory control facts vcpu (pending board.apic) write uncut none t) s

abbrev made : List ℕ → Board → Vcpu → Stepped → List Told → Turned
made memory board vcpu stepped told = record { memory = memory; board = board; vcpu = vcpu; stepped = stepped; told = told }

-- a turn by its parts
made-is : (t : Turned) (memory : List ℕ) (board : Board) (vcpu : Vcpu) (stepped : Stepped) → Gives t memory board vcpu stepped → t ≡ made memory board vcpu stepped t.told
made-is t memory board vcpu stepped g =
    ap (λ (x : List ℕ). made x t.board t.vcpu t.stepped t.told) g.memory_is
    ∙ ap (λ (x : Board). made memory x t.vcpu t.stepped t.told) g.board_is
    ∙ ap (λ (x : Vcpu). made memory board x t.stepped t.told) g.vcpu_is
    ∙ ap (λ (x : Stepped). made memory board vcpu x t.told) g.stepped_is

-- The turn is its course, settled.

-- the calls of a course that was not cut off are granted, whatever is refused behind them
later-played : (calls : ℕ) (last : Outward) (control : Option Control) (facts : Facts) (board : Board) (memory : List ℕ) (vcpu : Vcpu) →
    (course_played None control facts board memory vcpu).board.calls ≡ calls → calls ≤ last.calls →
    course_played (refused_at last.refused last.calls) control facts board memory vcpu ≡ course_played None control facts board memory vcpu
later-played calls last control facts board memory vcpu counts more = by-refusal last.refused where
  by-refusal : (refused : Option RunEnd) → course_played (refused_at refused last.calls) control facts board memory vcpu ≡ course_played None control facts board memory vcpu
  by-refusal None = refl
  by-refusal (Some end) =
      granted (space_of control vcpu) last.calls board memory [] (turn_course control facts vcpu (pending board.apic)) (omega (arith, counts, more))

-- nothing is left to do behind a course that was cut off, or that comes out so
still-by : (cut : Bool) (way : Way) (control : Option Control) (facts : Facts) (t : Turned) (stepped : Stepped) → (is_unsettled stepped && not cut) ≡ false → (if cut then t else settled way control facts t stepped) ≡ t
unfolding settled
still-by true way control facts t stepped e = refl
still-by false way control facts t Went e = refl
still-by false way control facts t (Ends x) e = refl
still-by false way control facts t (Leaves exit delivering) e = absurd (cc)
still-by false way control facts t (Moves o next_rip) e = absurd (cc)

pub under-still : (refused : Option ℕ) (control : Option Control) (facts : Facts) (board : Board) (memory : List ℕ) (vcpu : Vcpu) (mid : List ℕ) (between : Board) (after : Vcpu) (stepped : Stepped) →
    Gives (course_played refused control facts board memory vcpu) mid between after stepped → (is_unsettled stepped && not between.cut) ≡ false →
    turned_under refused control facts board memory vcpu ≡ course_played refused control facts board memory vcpu
under-still refused control facts board memory vcpu mid between after stepped g e =
    let t = course_played refused control facts board memory vcpu in
    still-by t.board.cut (way_of refused control vcpu) control facts t t.stepped
    (ap (λ (s : Stepped). is_unsettled s && not t.board.cut) g.stepped_is ∙ ap (λ (b : Board). is_unsettled stepped && not b.cut) g.board_is ∙ e)

pub gives-same : (t u : Turned) (memory : List ℕ) (board : Board) (vcpu : Vcpu) (stepped : Stepped) → t ≡ u → Gives u memory board vcpu stepped → Gives t memory board vcpu stepped
gives-same t u memory board vcpu stepped e g = subst (λ (x : Turned). Gives x memory board vcpu stepped) (sym e) g

-- a course that was not cut off, settled
pub under-settled : (calls : ℕ) (last : Outward) (control : Option Control) (facts : Facts) (board : Board) (memory : List ℕ) (vcpu : Vcpu) (mid : List ℕ) (between : Board) (after : Vcpu) (stepped : Stepped) →
    Gives (course_played None control facts board memory vcpu) mid between after stepped → between.cut ≡ false → between.calls ≡ calls → calls ≤ last.calls →
    turned_under (refused_at last.refused last.calls) control facts board memory vcpu
    ≡ settled (way_by (space_of control vcpu) last) control facts (over mid between after stepped (course_played None control facts board memory vcpu).told) stepped
under-settled calls last control facts board memory vcpu mid between after stepped g uncut counts more =
    let refused = refused_at last.refused last.calls in
    let way = way_of refused control vcpu in
    let t = course_played None control facts board memory vcpu in
    let settle : Turned → Turned = λ x. if x.board.cut then x else settled way control facts x x.stepped in
    ap settle (later-played calls last control facts board memory vcpu (ap (λ (b : Board). b.calls) g.board_is ∙ counts) more)
    ∙ ap settle (made-is t mid between after stepped g)
    ∙ ap (λ (cut : Bool). if cut then made mid between after stepped t.told else settled way control facts (made mid between after stepped t.told) stepped) uncut

-- What is told of a course, and then of what it comes out to.

nothing-more : (told : List Told) → told ≡ told ++ []
nothing-more [] = refl
nothing-more (t ∷ told) = ap (λ (ts : List Told). t ∷ ts) (nothing-more told)

loaded-same : (t u : Turned) (vmcb next_rip : ℕ) (outside : Option OutsideAt) → t.memory ≡ u.memory → t.board ≡ u.board → t.vcpu ≡ u.vcpu → vmload t vmcb next_rip outside ≡ vmload u vmcb next_rip outside
loaded-same t u vmcb next_rip None in_memory in_board in_vcpu = cc
loaded-same t u vmcb next_rip (Some outside) in_memory in_board in_vcpu = cc

saved-same : (t u : Turned) (vmcb next_rip : ℕ) (outside : Option OutsideAt) → t.memory ≡ u.memory → t.board ≡ u.board → t.vcpu ≡ u.vcpu → vmsave t vmcb next_rip outside ≡ vmsave u vmcb next_rip outside
saved-same t u vmcb next_rip None in_memory in_board in_vcpu = cc
saved-same t u vmcb next_rip (Some outside) in_memory in_board in_vcpu = cc

run-same : (way : Way) (facts : Facts) (memory : List ℕ) (board : Board) (vcpu : Vcpu) (outcome : Stepped) (told : List Told) (vmcb next_rip : ℕ) (found : Result Fields OutsideAt) →
    vmrun way facts (over memory board vcpu outcome told) vmcb next_rip found ≡ vmrun way facts (over memory board vcpu outcome []) vmcb next_rip found
run-same way facts memory board vcpu outcome told vmcb next_rip (Ok v) = refl
run-same way facts memory board vcpu outcome told vmcb next_rip (Err outside) = refl

-- a row that moves a VMCB does not look at what was told before
moved-same : (o : Op) (way : Way) (facts : Facts) (memory : List ℕ) (board : Board) (vcpu : Vcpu) (outcome : Stepped) (told : List Told) (vmcb next_rip : ℕ) →
    moved_by o way facts (over memory board vcpu outcome told) vmcb next_rip ≡ moved_by o way facts (over memory board vcpu outcome []) vmcb next_rip
unfolding moved_by
moved-same op.Vmload way facts memory board vcpu outcome told vmcb next_rip = loaded-same (over memory board vcpu outcome told) (over memory board vcpu outcome []) vmcb next_rip (moved_at memory vmcb) refl refl refl
moved-same op.Vmsave way facts memory board vcpu outcome told vmcb next_rip = saved-same (over memory board vcpu outcome told) (over memory board vcpu outcome []) vmcb next_rip (moved_at memory vmcb) refl refl refl
moved-same o way facts memory board vcpu outcome told vmcb next_rip = run-same way facts memory board vcpu outcome told vmcb next_rip (fields_at memory vmcb)

moved-told : (o : Op) (way : Way) (facts : Facts) (memory : List ℕ) (board : Board) (vcpu : Vcpu) (outcome : Stepped) (next_rip : ℕ) (told : List Told) →
    (moved way facts (over memory board vcpu outcome told) o next_rip).told ≡ told ++ (moved way facts (over memory board vcpu outcome []) o next_rip).told
moved-told o way facts memory board vcpu outcome next_rip told =
    ap (λ (t : Turned). told ++ t.told) (moved-same o way facts memory board vcpu outcome told (whole_register rax vcpu.registers) next_rip)

exited-told : (way : Way) (control : Option Control) (memory : List ℕ) (board : Board) (vcpu : Vcpu) (stepped : Stepped) (told : List Told) (exit : Exit) (delivering : Option Trap) (inside : Option Inside) →
    (exited way control (over memory board vcpu stepped told) exit delivering inside).told ≡ told ++ (exited way control (over memory board vcpu stepped []) exit delivering inside).told
exited-told way control memory board vcpu stepped told exit delivering None = nothing-more told
exited-told way control memory board vcpu stepped told exit delivering (Some i) = refl

pub settled-told : (way : Way) (control : Option Control) (facts : Facts) (memory : List ℕ) (board : Board) (vcpu : Vcpu) (outcome stepped : Stepped) (told : List Told) →
    (settled way control facts (over memory board vcpu outcome told) stepped).told ≡ told ++ (settled way control facts (over memory board vcpu outcome []) stepped).told
unfolding settled
settled-told way control facts memory board vcpu outcome Went told = nothing-more told
settled-told way control facts memory board vcpu outcome (Leaves exit delivering) told = exited-told way control memory board vcpu outcome told exit delivering vcpu.inside
settled-told way control facts memory board vcpu outcome (Moves o next_rip) told = moved-told o way facts memory board vcpu outcome next_rip told
settled-told way control facts memory board vcpu outcome (Ends e) told = nothing-more told

settled-went : (cut : Bool) (way : Way) (control : Option Control) (facts : Facts) (t : Turned) (stepped : Stepped) → stepped ≡ Went → (if cut then t else settled way control facts t stepped) ≡ t
unfolding settled
settled-went true way control facts t stepped e = refl
settled-went false way control facts t stepped e = ap (settled way control facts t) e

-- the same write in the turn in which nothing is refused
pub under-last : (control : Option Control) (facts : Facts) (board : Board) (memory : List ℕ) (vcpu : Vcpu) (call : ℕ) (write : PortWrite) (refused : Played) →
    DeniesLast call board.bus write refused (as_played (course_played None control facts board memory vcpu)) → GrantsLast call board.bus write (turned_under None control facts board memory vcpu)
under-last control facts board memory vcpu call write refused d =
    let whole = settled-went (course_played None control facts board memory vcpu).board.cut (way_of None control vcpu) control facts (course_played None control facts board memory vcpu) _ d.went in
    record {
      granted = ap (λ (x : Turned). x.board.bus) whole ∙ d.granted;
      last = ap (λ (x : Turned). x.board.calls) whole ∙ d.last;
    }

pub needs_nothing : (kept : Bool) → Needs false kept
needs_nothing kept e = absurd (cc)

pub IfSome-of : {X : Type 0} (P : X → Type 0) (o : Option X) → ((x : X) → o ≡ Some x → P x) → IfSome o P
IfSome-of P None h = tt
IfSome-of P (Some x) h = h x refl

-- where a write was refused the number of its call is told
pub refused_by : (refused : Option RunEnd) (denied : Option PortWrite) (write : PortWrite) (calls : ℕ) → (is_some denied ≡ true → is_some refused ≡ true) → denied ≡ Some write → refused_at refused calls ≡ Some calls
refused_by None denied write calls out s = absurd (let never : false ≡ true = out (ap is_some s) in cc)
refused_by (Some end) denied write calls out s = refl

-- where none was refused no write was
pub none-denied : (refused : Option RunEnd) (denied : Option PortWrite) → (is_some denied ≡ true → is_some refused ≡ true) → refused ≡ None → denied ≡ None
none-denied refused None out e = refl
none-denied refused (Some write) out e = absurd (let never : false ≡ true = sym (ap is_some e) ∙ out refl in cc)

-- The turn in L2: the fields of the VMCB are found in memory first.

abbrev EndsLike : Turned → Turned → Type 0
EndsLike t u = Gives t u.memory u.board u.vcpu u.stepped

like : (t u : Turned) → t ≡ u → EndsLike t u
like t u e = record { memory_is = ap (λ (x : Turned). x.memory) e; board_is = ap (λ (x : Turned). x.board) e; vcpu_is = ap (λ (x : Turned). x.vcpu) e; stepped_is = ap (λ (x : Turned). x.stepped) e }

in-inside : (refused : Option ℕ) (facts : Facts) (board : Board) (memory : List ℕ) (vcpu : Vcpu) (i : Inside) → vcpu.inside ≡ Some i →
    turned refused facts board memory vcpu ≡ turned_by refused facts board memory vcpu i.kept.vmcb (fields_at memory i.kept.vmcb)
unfolding turned
in-inside refused facts board memory vcpu i e = ap (turned_in refused facts board memory vcpu) e

-- a VMCB that is not all there ends the guest
pub turned-outside : (refused : Option ℕ) (facts : Facts) (board : Board) (memory : List ℕ) (vcpu : Vcpu) (i : Inside) (outside : OutsideAt) → vcpu.inside ≡ Some i → Err outside ≡ fields_at memory i.kept.vmcb →
    Gives (turned refused facts board memory vcpu) memory board vcpu (Ends (OutsideMemory outside.address))
turned-outside refused facts board memory vcpu i outside e found =
    like _ _ (in-inside refused facts board memory vcpu i e ∙ ap (turned_by refused facts board memory vcpu i.kept.vmcb) (sym found))

pub outside-told : (refused : Option ℕ) (facts : Facts) (board : Board) (memory : List ℕ) (vcpu : Vcpu) (i : Inside) (outside : OutsideAt) → vcpu.inside ≡ Some i → Err outside ≡ fields_at memory i.kept.vmcb →
    (turned refused facts board memory vcpu).told ≡ []
outside-told refused facts board memory vcpu i outside e found =
    ap (λ (t : Turned). t.told) (in-inside refused facts board memory vcpu i e ∙ ap (turned_by refused facts board memory vcpu i.kept.vmcb) (sym found))

-- the turn behind the notice of the fields, which is granted or not
abbrev heard_of : Bool → Board → List ℕ → Vcpu → Turned
heard_of refused board memory vcpu = over memory (called refused board) vcpu Went []

abbrev behind_found : Option ℕ → Facts → Board → List ℕ → Vcpu → ℕ → Fields → Bool → Turned
behind_found refused facts board memory vcpu vmcb v b =
    let heard = heard_of b board memory vcpu in
    after (Found vmcb false v) (if b then heard else turned_under refused (Some (control_of v)) facts heard.board memory vcpu)

found-is : (refused : Option ℕ) (facts : Facts) (board : Board) (memory : List ℕ) (vcpu : Vcpu) (i : Inside) (v : Fields) → vcpu.inside ≡ Some i → Ok v ≡ fields_at memory i.kept.vmcb → is_refused refused board.calls ≡ false →
    turned refused facts board memory vcpu ≡ behind_found refused facts board memory vcpu i.kept.vmcb v false
found-is refused facts board memory vcpu i v e found granted =
    in-inside refused facts board memory vcpu i e
    ∙ ap (turned_by refused facts board memory vcpu i.kept.vmcb) (sym found)
    ∙ ap (λ (b : Bool). behind_found refused facts board memory vcpu i.kept.vmcb v b) granted

pub found-told : (refused : Option ℕ) (facts : Facts) (board : Board) (memory : List ℕ) (vcpu : Vcpu) (i : Inside) (v : Fields) → vcpu.inside ≡ Some i → Ok v ≡ fields_at memory i.kept.vmcb → is_refused refused board.calls ≡ false →
    (turned refused facts board memory vcpu).told ≡ Found i.kept.vmcb false v ∷ (turned_under refused (Some (control_of v)) facts (called false board) memory vcpu).told
found-told refused facts board memory vcpu i v e found granted = ap (λ (x : Turned). x.told) (found-is refused facts board memory vcpu i v e found granted)

-- the turn under the fields that were found
pub turned-found : (refused : Option ℕ) (facts : Facts) (board : Board) (memory : List ℕ) (vcpu : Vcpu) (i : Inside) (v : Fields) → vcpu.inside ≡ Some i → Ok v ≡ fields_at memory i.kept.vmcb → is_refused refused board.calls ≡ false →
    EndsLike (turned refused facts board memory vcpu) (turned_under refused (Some (control_of v)) facts (called false board) memory vcpu)
turned-found refused facts board memory vcpu i v e found granted =
    let is = found-is refused facts board memory vcpu i v e found granted in
    record { memory_is = ap (λ (x : Turned). x.memory) is; board_is = ap (λ (x : Turned). x.board) is; vcpu_is = ap (λ (x : Turned). x.vcpu) is; stepped_is = ap (λ (x : Turned). x.stepped) is }

-- the turn whose notice of them is refused
pub turned-unheard : (refused : Option ℕ) (facts : Facts) (board : Board) (memory : List ℕ) (vcpu : Vcpu) (i : Inside) (v : Fields) → vcpu.inside ≡ Some i → Ok v ≡ fields_at memory i.kept.vmcb → is_refused refused board.calls ≡ true →
    Gives (turned refused facts board memory vcpu) memory (called true board) vcpu Went
turned-unheard refused facts board memory vcpu i v e found refuse =
    like _ _
    (in-inside refused facts board memory vcpu i e
    ∙ ap (turned_by refused facts board memory vcpu i.kept.vmcb) (sym found)
    ∙ ap (λ (b : Bool). behind_found refused facts board memory vcpu i.kept.vmcb v b) refuse)

-- in L1
pub turned-alone : (refused : Option ℕ) (facts : Facts) (board : Board) (memory : List ℕ) (vcpu : Vcpu) → vcpu.inside ≡ None → turned refused facts board memory vcpu ≡ turned_under refused None facts board memory vcpu
unfolding turned
turned-alone refused facts board memory vcpu e = ap (turned_in refused facts board memory vcpu) e

pub gives-then : (t u : Turned) (memory : List ℕ) (board : Board) (vcpu : Vcpu) (stepped : Stepped) → EndsLike t u → Gives u memory board vcpu stepped → Gives t memory board vcpu stepped
gives-then t u memory board vcpu stepped h k = record { memory_is = h.memory_is ∙ k.memory_is; board_is = h.board_is ∙ k.board_is; vcpu_is = h.vcpu_is ∙ k.vcpu_is; stepped_is = h.stepped_is ∙ k.stepped_is }

pub last-then : (t u : Turned) (call : ℕ) (bus : Bus) (write : PortWrite) → t.board ≡ u.board → GrantsLast call bus write u → GrantsLast call bus write t
last-then t u call bus write e k = record { granted = ap (λ (b : Board). b.bus) e ∙ k.granted; last = ap (λ (b : Board). b.calls) e ∙ k.last }

-- a course leaves its vcpu in the VMCB where it was, if in any

same-kept : (size : ℕ) (a b : Option Inside) → kept_in a ≡ kept_in b → IsKeptIn size b → IsKeptIn size a
same-kept size None b e h = tt
same-kept size (Some i) None e h = absurd (cc)
same-kept size (Some i) (Some j) e h = let same : i.kept ≡ j.kept = cc in rw same h

pub played-kept : (refused : Option ℕ) (control : Option Control) (facts : Facts) (board : Board) (memory : List ℕ) (vcpu : Vcpu) (new : List ℕ) (last : Board) (after : Vcpu) (stepped : Stepped) (size : ℕ) →
    Gives (course_played refused control facts board memory vcpu) new last after stepped → IsKeptIn size vcpu.inside → IsKeptIn size after.inside
played-kept refused control facts board memory vcpu new last after stepped size g h =
    same-kept size after.inside vcpu.inside (ap (λ (v : Vcpu). kept_in v.inside) (sym g.vcpu_is) ∙ turn-kept (way_of refused control vcpu) board memory control facts vcpu (pending board.apic)) h

pub IfSome-none : {X : Type 0} (P : X → Type 0) (o : Option X) → o ≡ None → IfSome o P
IfSome-none P None e = tt
IfSome-none P (Some x) e = absurd (cc)

pub gives-board : (t : Turned) (memory : List ℕ) (board other : Board) (vcpu : Vcpu) (stepped : Stepped) → board ≡ other → Gives t memory board vcpu stepped → Gives t memory other vcpu stepped
gives-board t memory board other vcpu stepped e g = subst (λ (b : Board). Gives t memory b vcpu stepped) e g

pub same-board : (bus : Bus) (apic : Apic) (calls : ℕ) (refused : Option RunEnd) {sent last_sent : Option Ipi} {denied last_denied : Option PortWrite} → last_sent ≡ sent → last_denied ≡ denied →
    board_with bus apic sent calls refused denied ≡ board_with bus apic last_sent calls refused last_denied
same-board bus apic calls refused {sent} {last_sent} {denied} {last_denied} e f =
    ap (λ (s : Option Ipi). board_with bus apic s calls refused denied) (sym e) ∙ ap (λ (d : Option PortWrite). board_with bus apic last_sent calls refused d) (sym f)

-- something is left to do only where nothing was refused
pub unsettled-going : (unsettled : Bool) (refused : Option RunEnd) → true ≡ (unsettled && not (is_some refused)) → refused ≡ None
unsettled-going unsettled None e = refl
unsettled-going true (Some end) e = absurd (cc)
unsettled-going false (Some end) e = absurd (cc)

-- Refusals, as causes.

-- over what came before
pub cause-before : (refused : Option RunEnd) (denied : Option PortWrite) (first before now : ℕ) → first ≤ before → denied ≡ None → IsCause refused None before now → IsCause refused denied first now
cause-before None denied first before now h e c = tt
cause-before (Some end) None first before now h e c = (c.0, omega (arith, h, c.1))
cause-before (Some end) (Some write) first before now h e c = absurd (cc)

pub cause-first : (refused : Option RunEnd) (denied : Option PortWrite) (first before now : ℕ) → first ≤ before → IsCause refused denied before now → IsCause refused denied first now
cause-first None denied first before now h c = tt
cause-first (Some end) None first before now h c = (c.0, omega (arith, h, c.1))
cause-first (Some end) (Some write) first before now h c = tt

-- want of memory blames nobody
pub unblamed : (refused : Option RunEnd) (old new : ℕ) (faults later : List (Option ℕ)) → IsCause refused None old new → IsBlamed refused faults later
unblamed None old new faults later c = tt
unblamed (Some end) old new faults later c = subst (λ (e : RunEnd). Blames e faults later) (sym c.0) tt

-- what was begun and is going on
pub begun-by : (old new : Outward) → old ≡ nothing → IsGoing new → new.denied ≡ old.denied → new.sent ≡ old.sent → new ≡ begun new.calls
begun-by old new e going denied sent =
    ap (λ (r : Option RunEnd). record { calls = new.calls; refused = r; denied = new.denied; sent = new.sent }) going
    ∙ ap (λ (d : Option PortWrite). record { calls = new.calls; refused = None; denied = d; sent = new.sent }) (denied ∙ ap (λ (o : Outward). o.denied) e)
    ∙ ap (λ (s : Option Ipi). record { calls = new.calls; refused = None; denied = None; sent = s }) (sent ∙ ap (λ (o : Outward). o.sent) e)

pub later-itself : (o : Outward) → Later o o
later-itself o = by-refusal o.refused refl where
  by-refusal : (refused : Option RunEnd) → o.refused ≡ refused → LaterFrom refused o.calls o
  by-refusal None e = omega arith
  by-refusal (Some end) e = (e, refl)

pub later-then : (a b last : Outward) → Later a b → Later b last → Later a last
later-then a b last h k = by-first a.refused refl b.refused refl where
  by-next : (refused : Option RunEnd) → b.refused ≡ refused → a.calls ≤ b.calls → a.calls ≤ last.calls
  by-next None e less = omega (arith, less, subst (λ (r : Option RunEnd). LaterFrom r b.calls last) e k)
  by-next (Some end) e less = omega (arith, less, (subst (λ (r : Option RunEnd). LaterFrom r b.calls last) e k).1)

  by-first : (first : Option RunEnd) → a.refused ≡ first → (next : Option RunEnd) → b.refused ≡ next → LaterFrom first a.calls last
  by-first None e next f = by-next next f (subst (λ (r : Option RunEnd). LaterFrom r a.calls b) e h)
  by-first (Some end) e next f =
      let before = subst (λ (r : Option RunEnd). LaterFrom r a.calls b) e h in
      let behind = subst (λ (r : Option RunEnd). LaterFrom r b.calls last) before.0 k in
      (behind.0, behind.1 ∙ before.1)

-- the calls of one that is going on
pub later-going : (o last : Outward) → IsGoing o → o.calls ≤ last.calls → Later o last
later-going o last e h = subst (λ (r : Option RunEnd). LaterFrom r o.calls last) (sym e) h

going-or : (refused : Option RunEnd) (calls number : ℕ) → is_refused (refused_at refused calls) number ≡ true → refused ≡ None → ⊥
going-or None calls number e none = absurd (cc)
going-or (Some end) calls number e none = absurd (cc)

-- of a turn that is cut off nothing has to be told
pub adds-cut : {W : Type 0} (tells : W → Notice → W → Type 0) (turn : TurnId) (last : Outward) (number : ℕ) (told : List Told) (old new : W) → is_refused (refused_at last.refused last.calls) number ≡ true → Adds tells turn last.refused told old new
adds-cut tells turn last number told old new e = λ none. absurd (going-or last.refused last.calls number e none)

pub if-last-then : (t u : Turned) (call : ℕ) (bus : Bus) (denied : Option PortWrite) → t.board ≡ u.board → IfSome denied (λ write. GrantsLast call bus write u) → IfSome denied (λ write. GrantsLast call bus write t)
if-last-then t u call bus None e h = tt
if-last-then t u call bus (Some write) e h = last-then t u call bus write e h

-- a vcpu that is inside a VMCB
pub record Within (vmcb : ℕ) (o : Option Inside) : Type 0 where
  pub inside : Inside
  pub is : o ≡ Some inside
  pub vmcb_is : inside.kept.vmcb ≡ vmcb

pub within : (vmcb : ℕ) (o : Option Inside) → IsInside vmcb o → Within vmcb o
within vmcb None h = absurd h
within vmcb (Some i) h = record { inside = i; is = refl; vmcb_is = h }
