-- What each turn gives, however it is played; and where it is cut off at a write to a port, that write is all that it does to
-- the bus, by its last call.
use Rattle.std.proofs.Common.{◌≡◌, ◌∙◌, ℕ, Bool, true, false, List, [], Option, Some, None, length, ap, refl, arith}
use Rattle.std.proofs.lemmas.Bool.Decides.{nat_tests}
use Rattle.std.specs.Prelude.{if◌then◌else◌, ◌+◌, ◌&&◌, ◌||◌, ◌==◌, not, take, drop, slice_index}
use Rattle.svm_model.specs.Machine.Apic.{taken}
use Rattle.svm_model.specs.Machine.ApicRegisters.{register_read, register_written}
use Rattle.svm_model.specs.Machine.Bus.{Bus, device_of, value_read, bus_after_read, bus_after_write}
use Rattle.svm_model.specs.Memory.Bytes.{bytes_at, put_at}
use Rattle.svm_model.specs.Memory.NestedPaging.{walked_over}
use Rattle.svm_model.specs.Turn.Control.{Control}
use Rattle.svm_model.specs.Turn.Course.{Board, Course, Done, Release, Translate, Read, Write, Look, Drop, In, Out, ApicRead, ApicWrite, Take, Priority, Turned, Way}
use Rattle.svm_model.specs.Turn.Play.{access_of, board_after, called, frames_after, heard, numbered, place_in, play, read_answer, prioritized, refuses, translated, with_apic, with_bus, with_out, written_answer}
use Rattle.svm_model.specs.Turn.Work.{turn_course}
use Rattle.svm_model.specs.declared.ports.PortWrite.{PortWrite}
use Rattle.svm_model.specs.declared.turns.Facts.{Facts}
use Rattle.svm_model.specs.declared.turns.Space.{Space}
use Rattle.svm_model.specs.declared.turns.Stepped.{Stepped}
use Rattle.svm_model.specs.declared.turns.Stepped.TheVariants.{Went}
use Rattle.svm_model.specs.declared.vcpus.Vcpu.{Vcpu}
use Rattle.svm_model.proofs.LastCourses.{IsDone, IsFine, IsLast, kept_in, turn_last}

done_fine : (start : Vcpu) (s : Stepped) (way : Way) (board : Board) (memory frames : List ℕ) (c : Course) → IsDone start s c → IsFine start (play way board memory frames c).vcpu (play way board memory frames c).stepped
done_fine start s way board memory frames (Done vcpu stepped) h = h.0
done_fine start s way board memory frames (Release next) h = absurd h
done_fine start s way board memory frames (Translate part next) h = absurd h
done_fine start s way board memory frames (Read number address count next) h = absurd h
done_fine start s way board memory frames (Write number address bytes next) h = absurd h
done_fine start s way board memory frames (Look address count next) h = absurd h
done_fine start s way board memory frames (Drop flush next) h = absurd h
done_fine start s way board memory frames (In port width next) h = absurd h
done_fine start s way board memory frames (Out write next) h = absurd h
done_fine start s way board memory frames (ApicRead offset event next) h = absurd h
done_fine start s way board memory frames (ApicWrite offset value event next) h = absurd h
done_fine start s way board memory frames (Take next) h = absurd h
done_fine start s way board memory frames (Priority tpr next) h = absurd h

done_board : (start : Vcpu) (s : Stepped) (way : Way) (board : Board) (memory frames : List ℕ) (c : Course) → IsDone start s c → (play way board memory frames c).board ≡ board
done_board start s way board memory frames (Done vcpu stepped) h = refl
done_board start s way board memory frames (Release next) h = absurd h
done_board start s way board memory frames (Translate part next) h = absurd h
done_board start s way board memory frames (Read number address count next) h = absurd h
done_board start s way board memory frames (Write number address bytes next) h = absurd h
done_board start s way board memory frames (Look address count next) h = absurd h
done_board start s way board memory frames (Drop flush next) h = absurd h
done_board start s way board memory frames (In port width next) h = absurd h
done_board start s way board memory frames (Out write next) h = absurd h
done_board start s way board memory frames (ApicRead offset event next) h = absurd h
done_board start s way board memory frames (ApicWrite offset value event next) h = absurd h
done_board start s way board memory frames (Take next) h = absurd h
done_board start s way board memory frames (Priority tpr next) h = absurd h

done_stepped : (start : Vcpu) (s : Stepped) (way : Way) (board : Board) (memory frames : List ℕ) (c : Course) → IsDone start s c → (play way board memory frames c).stepped ≡ s
done_stepped start s way board memory frames (Done vcpu stepped) h = h.1
done_stepped start s way board memory frames (Release next) h = absurd h
done_stepped start s way board memory frames (Translate part next) h = absurd h
done_stepped start s way board memory frames (Read number address count next) h = absurd h
done_stepped start s way board memory frames (Write number address bytes next) h = absurd h
done_stepped start s way board memory frames (Look address count next) h = absurd h
done_stepped start s way board memory frames (Drop flush next) h = absurd h
done_stepped start s way board memory frames (In port width next) h = absurd h
done_stepped start s way board memory frames (Out write next) h = absurd h
done_stepped start s way board memory frames (ApicRead offset event next) h = absurd h
done_stepped start s way board memory frames (ApicWrite offset value event next) h = absurd h
done_stepped start s way board memory frames (Take next) h = absurd h
done_stepped start s way board memory frames (Priority tpr next) h = absurd h

pub last_fine : (start : Vcpu) (way : Way) (board : Board) (memory frames : List ℕ) (c : Course) → IsLast start c → IsFine start (play way board memory frames c).vcpu (play way board memory frames c).stepped
last_fine start way board memory frames (Done vcpu stepped) h = h
last_fine start way board memory frames (Release next) h = last_fine start way board memory [] next h
last_fine start way board memory frames (Translate part next) h =
    let reached = walked_over way.space.outer memory way.space.paging (access_of part) in
    let refused = refuses way board in
    let found = heard refused (translated part reached.answer reached.memory) in
    last_fine start way (called refused board) reached.memory (frames_after frames found) (next (numbered (length frames) found)) (h (numbered (length frames) found))
last_fine start way board memory frames (Read number address count next) h =
    let bytes = take count (drop (place_in (slice_index frames number) address) memory) in
    last_fine start way board memory frames (next bytes) (h bytes)
last_fine start way board memory frames (Write number address bytes next) h =
    last_fine start way board (put_at memory (place_in (slice_index frames number) address) bytes) frames next h
last_fine start way board memory frames (Look address count next) h = last_fine start way board memory frames (next (bytes_at memory address count)) (h (bytes_at memory address count))
last_fine start way board memory frames (Drop flush next) h =
    let refused = refuses way board in last_fine start way (called refused board) memory frames (next (not refused)) (h (not refused))
last_fine start way board memory frames (In port width next) h =
    let value = value_read (device_of board.bus port) width in
    done_fine start Went way (with_bus board (bus_after_read board.bus port)) memory frames (next value) (h value)
last_fine start way board memory frames (Out write next) h =
    let refused = refuses way board in
    done_fine start Went way (called refused (with_out refused board write)) memory frames (next (not refused)) (h (not refused))
last_fine start way board memory frames (ApicRead offset event next) h =
    let answer = read_answer (register_read board.apic offset event) in last_fine start way board memory frames (next answer) (h answer)
last_fine start way board memory frames (ApicWrite offset value event next) h =
    let written = register_written board.apic offset value event in
    last_fine start way (board_after written board) memory frames (next (written_answer written)) (h (written_answer written))
last_fine start way board memory frames (Take next) h = last_fine start way (with_apic board (taken board.apic)) memory frames next h
last_fine start way board memory frames (Priority tpr next) h = last_fine start way (with_apic board (prioritized tpr board.apic)) memory frames next h

-- Calls that are refused.

or_true : (a b : Bool) → b ≡ true → (a || b) ≡ true
or_true true b e = refl
or_true false b e = e

and_not : (a b : Bool) → b ≡ true → (a && not b) ≡ false
and_not true b e = rw e refl
and_not false b e = refl

-- behind a refusal no other write is the one that was denied
denied_stays : (refused : Bool) (board : Board) (write : PortWrite) → board.cut ≡ true → (with_out refused board write).denied ≡ board.denied
denied_stays refused board write e = ap (λ (b : Bool). if b then Some write else board.denied) (and_not refused board.cut e)

cut_denied : (way : Way) (board : Board) (memory frames : List ℕ) (c : Course) → board.cut ≡ true → (play way board memory frames c).board.denied ≡ board.denied
cut_denied way board memory frames (Done vcpu stepped) e = refl
cut_denied way board memory frames (Release next) e = cut_denied way board memory [] next e
cut_denied way board memory frames (Translate part next) e =
    let reached = walked_over way.space.outer memory way.space.paging (access_of part) in
    let refused = refuses way board in
    let found = heard refused (translated part reached.answer reached.memory) in
    cut_denied way (called refused board) reached.memory (frames_after frames found) (next (numbered (length frames) found)) (or_true refused board.cut e)
cut_denied way board memory frames (Read number address count next) e =
    cut_denied way board memory frames (next (take count (drop (place_in (slice_index frames number) address) memory))) e
cut_denied way board memory frames (Write number address bytes next) e =
    cut_denied way board (put_at memory (place_in (slice_index frames number) address) bytes) frames next e
cut_denied way board memory frames (Look address count next) e = cut_denied way board memory frames (next (bytes_at memory address count)) e
cut_denied way board memory frames (Drop flush next) e =
    let refused = refuses way board in cut_denied way (called refused board) memory frames (next (not refused)) (or_true refused board.cut e)
cut_denied way board memory frames (In port width next) e =
    cut_denied way (with_bus board (bus_after_read board.bus port)) memory frames (next (value_read (device_of board.bus port) width)) e
cut_denied way board memory frames (Out write next) e =
    let refused = refuses way board in
    cut_denied way (called refused (with_out refused board write)) memory frames (next (not refused)) (or_true refused board.cut e)
    ∙ denied_stays refused board write e
cut_denied way board memory frames (ApicRead offset event next) e = cut_denied way board memory frames (next (read_answer (register_read board.apic offset event))) e
cut_denied way board memory frames (ApicWrite offset value event next) e =
    let written = register_written board.apic offset value event in cut_denied way (board_after written board) memory frames (next (written_answer written)) e
cut_denied way board memory frames (Take next) e = cut_denied way (with_apic board (taken board.apic)) memory frames next e
cut_denied way board memory frames (Priority tpr next) e = cut_denied way (with_apic board (prioritized tpr board.apic)) memory frames next e

-- how a course leaves what stands about the vcpu, and how it comes out
pub record Played : Type 0 where
  pub board : Board
  pub stepped : Stepped

abbrev pub played : Turned → Played
played turned = record { board = turned.board; stepped = turned.stepped }

-- the write that a turn was denied by the call of this number: it left the bus, and where it is granted it is all that the
-- turn does to the bus, by its last call; the turn goes through
pub record DeniesLast (call : ℕ) (bus : Bus) (write : PortWrite) (refused done : Played) : Type 0 where
  pub kept : refused.board.bus ≡ bus
  pub denied : refused.stepped ≡ Went
  pub granted : done.board.bus ≡ bus_after_write bus write
  pub last : done.board.calls ≡ call + 1
  pub went : done.stepped ≡ Went

nothing_denied : {A : Type 0} (o : Option PortWrite) (write : PortWrite) → o ≡ None → o ≡ Some write → A
nothing_denied o write n s = absurd (cc)

-- a call that is no write to a port is not the one
by_call : (call : ℕ) (bus : Bus) (behind : Bool → Played) (done : Played) (write : PortWrite) → (behind true).board.denied ≡ None → ((behind false).board.denied ≡ Some write → DeniesLast call bus write (behind false) done) →
    (b : Bool) → (behind b).board.denied ≡ Some write → DeniesLast call bus write (behind b) done
by_call call bus behind done write n k true s = nothing_denied _ write n s
by_call call bus behind done write n k false s = k s

denied_first : (cut : Bool) (denied : Option PortWrite) (write : PortWrite) → cut ≡ false → (if true && not cut then Some write else denied) ≡ Some write
denied_first true denied write e = absurd (cc)
denied_first false denied write e = refl

same_write : (o : Option PortWrite) (write denied : PortWrite) → o ≡ Some write → o ≡ Some denied → write ≡ denied
same_write o write denied e s = cc

same_call : (call calls : ℕ) → (call == calls) ≡ true → calls + 1 ≡ call + 1
same_call call calls e = grind (arith, nat_tests)

-- a write to a port, behind which the turn is over
pub record Hands (board : Board) (write : PortWrite) (refused : Bool) (behind : Played) : Type 0 where
  pub board_is : behind.board ≡ called refused (with_out refused board write)
  pub went : behind.stepped ≡ Went

by_out : (call : ℕ) (board : Board) (write denied : PortWrite) (behind : Bool → Played) (done : Played) → board.cut ≡ false → board.denied ≡ None →
    ((b : Bool) → Hands board write b (behind b)) → Hands board write false done →
    (b : Bool) → (call == board.calls) ≡ b → (behind b).board.denied ≡ Some denied → DeniesLast call board.bus denied (behind b) done
by_out call board write denied behind done e n at at_done true counted s =
    let is = same_write _ write denied (ap (λ (b : Board). b.denied) (at true).board_is ∙ denied_first board.cut board.denied write e) s in
    record {
      kept = ap (λ (b : Board). b.bus) (at true).board_is;
      denied = (at true).went;
      granted = ap (λ (b : Board). b.bus) at_done.board_is ∙ ap (bus_after_write board.bus) is;
      last = ap (λ (b : Board). b.calls) at_done.board_is ∙ same_call call board.calls counted;
      went = at_done.went;
    }
by_out call board write denied behind done e n at at_done false counted s =
    nothing_denied _ denied (ap (λ (b : Board). b.denied) (at false).board_is ∙ n) s

abbrev way_with : Space → Option ℕ → Way
way_with space refused = record { space = space; refused = refused }

last_denied : (start : Vcpu) (space : Space) (call : ℕ) (board : Board) (memory frames : List ℕ) (c : Course) (denied : PortWrite) → IsLast start c → board.cut ≡ false → board.denied ≡ None →
    (play (way_with space (Some call)) board memory frames c).board.denied ≡ Some denied →
    DeniesLast call board.bus denied (played (play (way_with space (Some call)) board memory frames c)) (played (play (way_with space None) board memory frames c))
last_denied start space call board memory frames (Done vcpu stepped) denied h e n s = nothing_denied _ denied n s
last_denied start space call board memory frames (Release next) denied h e n s = last_denied start space call board memory [] next denied h e n s
last_denied start space call board memory frames (Translate part next) denied h e n s =
    let way = way_with space (Some call) in
    let reached = walked_over space.outer memory space.paging (access_of part) in
    let there = translated part reached.answer reached.memory in
    let behind : Bool → Played = λ b. played (play way (called b board) reached.memory (frames_after frames (heard b there)) (next (numbered (length frames) (heard b there)))) in
    by_call call board.bus behind _ denied (cut_denied way (called true board) reached.memory _ (next (numbered (length frames) (heard true there))) refl ∙ n)
    (λ f. last_denied start space call (called false board) reached.memory (frames_after frames there) (next (numbered (length frames) there)) denied (h (numbered (length frames) there)) e n f)
    (call == board.calls) s
last_denied start space call board memory frames (Read number address count next) denied h e n s =
    let bytes = take count (drop (place_in (slice_index frames number) address) memory) in
    last_denied start space call board memory frames (next bytes) denied (h bytes) e n s
last_denied start space call board memory frames (Write number address bytes next) denied h e n s =
    last_denied start space call board (put_at memory (place_in (slice_index frames number) address) bytes) frames next denied h e n s
last_denied start space call board memory frames (Look address count next) denied h e n s =
    last_denied start space call board memory frames (next (bytes_at memory address count)) denied (h (bytes_at memory address count)) e n s
last_denied start space call board memory frames (Drop flush next) denied h e n s =
    let way = way_with space (Some call) in
    let behind : Bool → Played = λ b. played (play way (called b board) memory frames (next (not b))) in
    by_call call board.bus behind _ denied (cut_denied way (called true board) memory frames (next false) refl ∙ n)
    (λ f. last_denied start space call (called false board) memory frames (next true) denied (h true) e n f)
    (call == board.calls) s
last_denied start space call board memory frames (In port width next) denied h e n s =
    let value = value_read (device_of board.bus port) width in
    let b = with_bus board (bus_after_read board.bus port) in
    nothing_denied _ denied (ap (λ (x : Board). x.denied) (done_board start Went (way_with space (Some call)) b memory frames (next value) (h value)) ∙ n) s
last_denied start space call board memory frames (Out write next) denied h e n s =
    let hands : (way : Way) (b : Bool) → Hands board write b (played (play way (called b (with_out b board write)) memory frames (next (not b)))) = λ way b. record {
      board_is = done_board start Went way (called b (with_out b board write)) memory frames (next (not b)) (h (not b));
      went = done_stepped start Went way (called b (with_out b board write)) memory frames (next (not b)) (h (not b));
    } in
    let way = way_with space (Some call) in
    by_out call board write denied (λ b. played (play way (called b (with_out b board write)) memory frames (next (not b)))) _ e n (hands way) (hands (way_with space None) false)
    (call == board.calls) refl s
last_denied start space call board memory frames (ApicRead offset event next) denied h e n s =
    let answer = read_answer (register_read board.apic offset event) in last_denied start space call board memory frames (next answer) denied (h answer) e n s
last_denied start space call board memory frames (ApicWrite offset value event next) denied h e n s =
    let written = register_written board.apic offset value event in
    last_denied start space call (board_after written board) memory frames (next (written_answer written)) denied (h (written_answer written)) e n s
last_denied start space call board memory frames (Take next) denied h e n s = last_denied start space call (with_apic board (taken board.apic)) memory frames next denied h e n s
last_denied start space call board memory frames (Priority tpr next) denied h e n s = last_denied start space call (with_apic board (prioritized tpr board.apic)) memory frames next denied h e n s

-- What each turn gives.

-- a turn leaves its vcpu outside of all VMCBs, or inside the same
pub turn-kept : (way : Way) (board : Board) (memory : List ℕ) (control : Option Control) (facts : Facts) (vcpu : Vcpu) (interrupt : Option ℕ) →
    kept_in (play way board memory [] (turn_course control facts vcpu interrupt)).vcpu.inside ≡ kept_in vcpu.inside
turn-kept way board memory control facts vcpu interrupt =
    (last_fine vcpu way board memory [] (turn_course control facts vcpu interrupt) (turn_last control facts vcpu interrupt)).kept

-- one that was denied a write to a port by this call would have done that write alone, by its last call
pub turn-denied : (space : Space) (call : ℕ) (board : Board) (memory : List ℕ) (control : Option Control) (facts : Facts) (vcpu : Vcpu) (interrupt : Option ℕ) (denied : PortWrite) → board.cut ≡ false → board.denied ≡ None →
    (play (record { space = space; refused = Some call }) board memory [] (turn_course control facts vcpu interrupt)).board.denied ≡ Some denied →
    DeniesLast call board.bus denied (played (play (record { space = space; refused = Some call }) board memory [] (turn_course control facts vcpu interrupt)))
    (played (play (record { space = space; refused = None }) board memory [] (turn_course control facts vcpu interrupt)))
turn-denied space call board memory control facts vcpu interrupt denied e n s =
    last_denied vcpu space call board memory [] (turn_course control facts vcpu interrupt) denied (turn_last control facts vcpu interrupt) e n s
