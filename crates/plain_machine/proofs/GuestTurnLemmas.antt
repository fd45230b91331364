-- The turn of a vcpu of a guest, from what the executor's turn gives.
use Rattle.std.proofs.Common.{◌≡◌, ◌∙◌, ◌<◌, ℕ, true, false, is_some, IfSome, IfOk, IfErr, OnOk, Result, Ok, Err, List, [], Option, Some, None, inl, inr, ap, sym, refl, subst, length, slice_get, slice_set, slice_index_or}
use Rattle.std.proofs.lemmas.List.{length-set}
use Rattle.std.proofs.lemmas.Option.{slice_get-get_or}
use Rattle.svm_model.specs.Audit.WatchCalls.{Notice, notices}
use Rattle.svm_model.specs.Machine.Apic.{Apic}
use Rattle.svm_model.specs.Machine.Bus.{Bus}
use Rattle.svm_model.specs.Machine.Guest.{Guest}
use Rattle.svm_model.specs.Machine.PlainTurn.{turned}
use Rattle.svm_model.specs.Machine.Turns.{board_of, end_by}
use Rattle.svm_model.specs.Turn.Course.{Board, Turned}
use Rattle.svm_model.specs.declared.apics.Ipi.{Ipi}
use Rattle.svm_model.specs.declared.audits.TurnId.{TurnId}
use Rattle.svm_model.specs.declared.names.Ended.{Ended}
use Rattle.svm_model.specs.declared.names.RunEnd.{RunEnd}
use Rattle.svm_model.specs.declared.ports.PortWrite.{PortWrite}
use Rattle.svm_model.specs.declared.turns.Facts.{Facts}
use Rattle.svm_model.specs.declared.turns.Stepped.{Stepped}
use Rattle.svm_model.specs.declared.vcpus.Vcpu.{Vcpu}
use Rattle.turn_exec.specs.Plays.{board_with, refused_at, IsBlamed, IsCause}
use Rattle.watch.specs.Leads.{Leads}
use Rattle.plain_machine.specs.Cuts.{IsCutBy}
use Rattle.svm_model.specs.Turn.Course.{Told}
use Rattle.port_bus.specs.Causes.{Blames}
use Rattle.plain_machine.specs.GuestTurns.{GuestTurn, guest_turn, facts_in, outcome_of, turn_done_in, with_live_in, with_vcpu_in, with_apic_in, IsOutIn}
use Rattle.plain_machine.specs.declared.turns.Cut.{Cut}
use Rattle.plain_machine.proofs.SendingLemmas.{length-sent, length-vcpus-sent, with_sent-is}
use Rattle.plain_machine.specs.Sending.{apics_sent_to, vcpus_sent_to}
use Rattle.plain_machine.specs.Slots.{Kept, layout}
use Rattle.plain_machine.specs.Turning.{Adds, Gives, GrantsLast}
use Rattle.plain_machine.specs.declared.turns.Moment.{Moment}

-- the turn of a vcpu that is there, in a guest that was not ended
pub live : (refused : Option ℕ) (m : Moment) (bus : Bus) (guest : Guest) (vcpu : Vcpu) (apic : Apic) → guest.ended ≡ None → slice_get guest.vcpus m.vcpu.index ≡ Some vcpu → slice_get guest.apics m.vcpu.index ≡ Some apic →
    guest_turn refused m bus guest ≡ turn_done_in m guest (turned refused (facts_in m vcpu apic) (board_of bus apic) guest.memory vcpu)
unfolding guest_turn
live refused m bus guest vcpu apic e v a =
    ap (λ (o : Option Ended). with_live_in refused m bus guest o) e
    ∙ ap (λ (o : Option Vcpu). with_vcpu_in refused m bus guest o) v
    ∙ ap (λ (o : Option Apic). with_apic_in refused m bus guest vcpu o) a

-- one of an ended guest changes nothing
ended_by : (refused : Option ℕ) (m : Moment) (bus : Bus) (guest : Guest) (o : Option Ended) → true ≡ is_some o →
    with_live_in refused m bus guest o ≡ record { guest = guest; bus = bus; ended = None; calls = 0; denied = None; told = [] }
ended_by refused m bus guest None e = absurd (cc)
ended_by refused m bus guest (Some end) e = refl

pub ended : (refused : Option ℕ) (m : Moment) (bus : Bus) (guest : Guest) → true ≡ is_some guest.ended →
    guest_turn refused m bus guest ≡ record { guest = guest; bus = bus; ended = None; calls = 0; denied = None; told = [] }
unfolding guest_turn
ended refused m bus guest e = ended_by refused m bus guest guest.ended e

pub not_ended : (o : Option Ended) → false ≡ is_some o → o ≡ None
not_ended None e = refl
not_ended (Some end) e = absurd (cc)

made : List ℕ → Board → Vcpu → Stepped → List Told → Turned
made memory board vcpu stepped told = record { memory = memory; board = board; vcpu = vcpu; stepped = stepped; told = told }

-- the guest behind the turn of its vcpu, which is the sender
abbrev pub after_turn : Guest → ℕ → ℕ → Option Ended → List ℕ → Vcpu → Apic → Option Ipi → Guest
after_turn guest sender index ended memory vcpu apic sent = record {
  memory = memory;
  ended = ended;
  vcpus = vcpus_sent_to sent sender (slice_set guest.apics index apic) (slice_set guest.vcpus index vcpu);
  apics = apics_sent_to sent sender (slice_set guest.apics index apic);
}

-- how the turn of a guest's vcpu comes out, and what one who watches is told of it
pub record Comes {W : Type 0} (tells : W → Notice → W → Type 0) (turn : TurnId) (m : Moment) (old new : Bus) (faults later : List (Option ℕ)) (watch told : W) (refusals after_refusals : ℕ) (guest after : Guest) (result : Result (Option Ended) Cut) : Type 0 where
  pub guest_is : OnOk result (after ≡ (guest_turn None m old guest).guest)
  pub bus_is : OnOk result (new ≡ (guest_turn None m old guest).bus)
  pub ended_is : IfOk result (λ ended. ended ≡ (guest_turn None m old guest).ended)
  pub heard : OnOk result (Leads tells watch (notices turn (guest_turn None m old guest).told) told)
  pub reached : IfErr result (λ cut. after ≡ (guest_turn (Some cut.call) m old guest).guest)
  pub bus_reached : IfErr result (λ cut. new ≡ (guest_turn (Some cut.call) m old guest).bus)
  pub cut : IfErr result (λ cut. IsCutBy (IsOutIn cut.call m old guest) (Unit {0}) cut.end old new refusals after_refusals)
  pub blamed : IfErr result (λ cut. Blames cut.end faults later)

-- what the executor's turn of the vcpu gave, and what came of its outward calls
pub record Given {W : Type 0} (tells : W → Notice → W → Type 0) (turn : TurnId) (facts : Facts) (old new : Bus) (faults later : List (Option ℕ)) (watch told : W) (refusals after_refusals : ℕ) (start : List ℕ) (vcpu after : Vcpu) (apic gone : Apic) (memory : List ℕ) (calls : ℕ) (end : Option RunEnd) (denied : Option PortWrite) (stepped : Stepped) (sent : Option Ipi) : Type 0 where
  pub gives : Gives (turned (refused_at end calls) facts (board_of old apic) start vcpu) memory (board_with new gone sent calls end denied) after stepped
  pub heard : Adds tells turn end (turned (refused_at end calls) facts (board_of old apic) start vcpu).told watch told
  pub cause : IsCause end denied refusals after_refusals
  pub kept : IfSome denied (λ write. new ≡ old)
  pub last : IfSome denied (λ write. GrantsLast calls old write (turned None facts (board_of old apic) start vcpu))
  pub blamed : IsBlamed end faults later

-- the guest's turn is what the executor's turn of its vcpu gives
gives_guest : (refused : Option ℕ) (m : Moment) (bus new : Bus) (guest : Guest) (vcpu after : Vcpu) (apic gone : Apic) (memory : List ℕ) (calls : ℕ) (end : Option RunEnd) (denied : Option PortWrite) (stepped : Stepped) (sent : Option Ipi) →
    guest.ended ≡ None → slice_get guest.vcpus m.vcpu.index ≡ Some vcpu → slice_get guest.apics m.vcpu.index ≡ Some apic →
    Gives (turned refused (facts_in m vcpu apic) (board_of bus apic) guest.memory vcpu) memory (board_with new gone sent calls end denied) after stepped →
    guest_turn refused m bus guest ≡ record {
      guest = after_turn guest m.vcpu.index m.vcpu.index (end_by (is_some end) m.vcpu.index m.event stepped) memory after gone sent;
      bus = new;
      ended = end_by (is_some end) m.vcpu.index m.event stepped;
      calls = calls;
      denied = denied;
      told = (turned refused (facts_in m vcpu apic) (board_of bus apic) guest.memory vcpu).told;
    }
gives_guest refused m bus new guest vcpu after apic gone memory calls end denied stepped sent e v a g =
    let t : Turned = turned refused (facts_in m vcpu apic) (board_of bus apic) guest.memory vcpu in
    live refused m bus guest vcpu apic e v a
    ∙ ap (λ (x : List ℕ). turn_done_in m guest (record { memory = x; board = t.board; vcpu = t.vcpu; stepped = t.stepped; told = t.told })) g.memory_is
    ∙ ap (λ (x : Board). turn_done_in m guest (record { memory = memory; board = x; vcpu = t.vcpu; stepped = t.stepped; told = t.told })) g.board_is
    ∙ ap (λ (x : Vcpu). turn_done_in m guest (record { memory = memory; board = board_with new gone sent calls end denied; vcpu = x; stepped = t.stepped; told = t.told })) g.vcpu_is
    ∙ ap (λ (x : Stepped). turn_done_in m guest (record { memory = memory; board = board_with new gone sent calls end denied; vcpu = after; stepped = x; told = t.told })) g.stepped_is
    ∙ ap (λ (x : Guest). record { guest = x; bus = new; ended = end_by (is_some end) m.vcpu.index m.event stepped; calls = calls; denied = denied; told = t.told })
    (with_sent-is sent m.vcpu.index (record { memory = memory; ended = end_by (is_some end) m.vcpu.index m.event stepped; vcpus = slice_set guest.vcpus m.vcpu.index after; apics = slice_set guest.apics m.vcpu.index gone }))

-- a turn that was cut off was denied a write, or a notice was refused
was_cut : (m : Moment) (bus new : Bus) (guest : Guest) (refusals later calls : ℕ) (end : RunEnd) (denied : Option PortWrite) (vcpu : Vcpu) (apic : Apic) →
    guest.ended ≡ None → slice_get guest.vcpus m.vcpu.index ≡ Some vcpu → slice_get guest.apics m.vcpu.index ≡ Some apic →
    (guest_turn (Some calls) m bus guest).denied ≡ denied → IsCause (Some end) denied refusals later → IfSome denied (λ write. new ≡ bus) →
    IfSome denied (λ write. GrantsLast calls bus write (turned None (facts_in m vcpu apic) (board_of bus apic) guest.memory vcpu)) → IsCutBy (IsOutIn calls m bus guest) (Unit {0}) end bus new refusals later
was_cut m bus new guest refusals later calls end None vcpu apic e v a told cause kept last = inr (tt, cause.0, cause.1)
was_cut m bus new guest refusals later calls end (Some write) vcpu apic e v a told cause kept last =
    let whole = live None m bus guest vcpu apic e v a in
    inl (
      record {
        write = write;
        denied = told;
        granted = ap (λ (t : GuestTurn). t.bus) whole ∙ last.granted;
        last = ap (λ (t : GuestTurn). t.calls) whole ∙ last.last;
      },
      kept,
    )

module _ {W : Type 0} (tells : W → Notice → W → Type 0) (turn : TurnId) where
  pub came : (m : Moment) (bus new : Bus) (faults later : List (Option ℕ)) (watch told : W) (refusals after_refusals : ℕ) (guest : Guest) (vcpu after : Vcpu) (apic gone : Apic) (memory : List ℕ) (calls : ℕ) (end : Option RunEnd) (denied : Option PortWrite) (stepped : Stepped) (sent : Option Ipi) →
      guest.ended ≡ None → slice_get guest.vcpus m.vcpu.index ≡ Some vcpu → slice_get guest.apics m.vcpu.index ≡ Some apic →
      Given tells turn (facts_in m vcpu apic) bus new faults later watch told refusals after_refusals guest.memory vcpu after apic gone memory calls end denied stepped sent →
      Comes tells turn m bus new faults later watch told refusals after_refusals guest (after_turn guest m.vcpu.index m.vcpu.index (end_by (is_some end) m.vcpu.index m.event stepped) memory after gone sent) (outcome_of (end_by (is_some end) m.vcpu.index m.event stepped) end calls)
  came m bus new faults later watch told refusals after_refusals guest vcpu after apic gone memory calls None denied stepped sent e v a g =
      let is = gives_guest None m bus new guest vcpu after apic gone memory calls None denied stepped sent e v a g.gives in
      record {
        guest_is = sym (ap (λ (t : GuestTurn). t.guest) is);
        bus_is = sym (ap (λ (t : GuestTurn). t.bus) is);
        ended_is = sym (ap (λ (t : GuestTurn). t.ended) is);
        heard = subst (λ (ts : List Told). Leads tells watch (notices turn ts) told) (sym (ap (λ (t : GuestTurn). t.told) is)) (g.heard refl);
        reached = tt;
        bus_reached = tt;
        cut = tt;
        blamed = tt;
      }
  came m bus new faults later watch told refusals after_refusals guest vcpu after apic gone memory calls (Some end) denied stepped sent e v a g =
      let is = gives_guest (Some calls) m bus new guest vcpu after apic gone memory calls (Some end) denied stepped sent e v a g.gives in
      record {
        guest_is = tt;
        bus_is = tt;
        ended_is = tt;
        heard = tt;
        reached = sym (ap (λ (t : GuestTurn). t.guest) is);
        bus_reached = sym (ap (λ (t : GuestTurn). t.bus) is);
        cut = was_cut m bus new guest refusals after_refusals calls end denied vcpu apic e v a (ap (λ (t : GuestTurn). t.denied) is) g.cause g.kept g.last;
        blamed = g.blamed;
      }

-- The vcpu and its APIC at an index.

pub at_index : {A : Type 0} (xs : List A) (i j : ℕ) (x : A) → x ≡ slice_index_or xs i x → i ≡ j → i < length xs → slice_get xs j ≡ Some x
at_index xs i j x e is h = ap (slice_get xs) (sym is) ∙ slice_get-get_or xs i x h ∙ ap (λ y. Some y) (sym e)

pub came_at : {W : Type 0} (tells : W → Notice → W → Type 0) (turn : TurnId) (m : Moment) (i : ℕ) (bus new : Bus) (faults later : List (Option ℕ)) (watch told : W) (refusals after_refusals : ℕ) (guest : Guest) (vcpu after : Vcpu) (apic gone : Apic) (memory : List ℕ) (calls : ℕ) (end : Option RunEnd) (denied : Option PortWrite) (stepped : Stepped) (sent : Option Ipi) →
    i ≡ m.vcpu.index → guest.ended ≡ None → vcpu ≡ slice_index_or guest.vcpus i vcpu → i < length guest.vcpus → apic ≡ slice_index_or guest.apics i apic → i < length guest.apics →
    Given tells turn (facts_in m vcpu apic) bus new faults later watch told refusals after_refusals guest.memory vcpu after apic gone memory calls end denied stepped sent →
    Comes tells turn m bus new faults later watch told refusals after_refusals guest (after_turn guest m.vcpu.index i (end_by (is_some end) m.vcpu.index m.event stepped) memory after gone sent) (outcome_of (end_by (is_some end) m.vcpu.index m.event stepped) end calls)
came_at tells turn m i bus new faults later watch told refusals after_refusals guest vcpu after apic gone memory calls end denied stepped sent is e v in_vcpus a in_apics g =
    subst (λ (n : ℕ). Comes tells turn m bus new faults later watch told refusals after_refusals guest (after_turn guest m.vcpu.index n (end_by (is_some end) m.vcpu.index m.event stepped) memory after gone sent) (outcome_of (end_by (is_some end) m.vcpu.index m.event stepped) end calls)) (sym is)
    (came tells turn m bus new faults later watch told refusals after_refusals guest vcpu after apic gone memory calls end denied stepped sent e
    (at_index guest.vcpus i m.vcpu.index vcpu v is in_vcpus) (at_index guest.apics i m.vcpu.index apic a is in_apics) g)

-- a turn leaves the guest's layout
pub layout-after : (slot : Kept) (end : Option Ended) (i sender : ℕ) (after : Vcpu) (gone : Apic) (sent : Option Ipi) →
    layout (record { window = slot.window; ended = end; vcpus = vcpus_sent_to sent sender (slice_set slot.apics i gone) (slice_set slot.vcpus i after); apics = apics_sent_to sent sender (slice_set slot.apics i gone) }) ≡ layout slot
layout-after slot end i sender after gone sent =
    ap (λ (n : ℕ). record { window = slot.window; vcpus = n; apics = length (apics_sent_to sent sender (slice_set slot.apics i gone)) })
    (length-vcpus-sent sent sender (slice_set slot.apics i gone) (slice_set slot.vcpus i after) ∙ length-set slot.vcpus i after)
    ∙ ap (λ (n : ℕ). record { window = slot.window; vcpus = length slot.vcpus; apics = n }) (length-sent sent sender (slice_set slot.apics i gone) ∙ length-set slot.apics i gone)

-- The turn among all guests.

pub at_slot : (slots : List Kept) (i k : ℕ) (d : Kept) (P : Kept → Type 0) → i ≡ k → i < length slots → P (slice_index_or slots i d) → IfSome (slice_get slots k) P
at_slot slots i k d P is h p =
    let there : slice_get slots k ≡ Some (slice_index_or slots i d) = ap (slice_get slots) (sym is) ∙ slice_get-get_or slots i d h in
    subst (λ (o : Option Kept). IfSome o P) (sym there) p

pub on_ok : {T E : Type 0} (r : Result T E) (A B : Type 0) → (A → B) → OnOk r A → OnOk r B
on_ok (Ok x) A B f a = f a
on_ok (Err e) A B f a = tt

pub if_ok : {T E : Type 0} (r : Result T E) (A B : T → Type 0) → ((x : T) → A x → B x) → IfOk r A → IfOk r B
if_ok (Ok x) A B f a = f x a
if_ok (Err e) A B f a = tt

pub if_err : {T E : Type 0} (r : Result T E) (A B : E → Type 0) → ((e : E) → A e → B e) → IfErr r A → IfErr r B
if_err (Ok x) A B f a = tt
if_err (Err e) A B f a = f e a

-- a changed vcpu leaves the layout
pub layout-vcpu : (slot : Kept) (end : Option Ended) (i : ℕ) (after : Vcpu) → layout (record { window = slot.window; ended = end; vcpus = slice_set slot.vcpus i after; apics = slot.apics }) ≡ layout slot
layout-vcpu slot end i after = ap (λ (n : ℕ). record { window = slot.window; vcpus = n; apics = length slot.apics }) (length-set slot.vcpus i after)
