-- What holds of each course of a turn, at either level: it reads or writes a port at most once, last of all, and then goes
-- through; its vcpu stays outside of all VMCBs, or inside the same; and where it ends the guest the registers are those before
-- it.
use Rattle.std.proofs.Common.{◌≡◌, ◌∙◌, ℕ, suc, zero, Bool, true, false, List, [], ◌∷◌, Option, Some, None, Result, Ok, Err, refl}
use Rattle.std.specs.Prelude.{if◌then◌else◌, ◌+◌, ◌*◌, ◌&&◌, not, nat_le, take, drop, slice_index, slice_set, ◌-◌, ◌%◌, ◌^◌}
use Rattle.svm_model.specs.Turn.Accesses.{Piece, Words, accessed, accesses, in_next_page, is_in_one_page, joined, left_in_page, no_values, number_of, on_part, piece_read, place_of, planned_accesses, reads, results_written, then_on, then_piece, with_access, with_part, with_piece, with_place, with_result, with_two_pieces, with_written, writes}
use Rattle.svm_model.specs.Turn.Along.{along, committed, done_of, held_after, held_after_word, released, word_of}
use Rattle.svm_model.specs.Memory.Bytes.{bytes_of_result}
use Rattle.svm_model.specs.Turn.Control.{Control, asks, masks_interrupts, owns_gif, turn_by, with_live_gif, with_live_irq, with_live_tpr}
use Rattle.svm_model.specs.Turn.Course.{Course, Done, Release, Translate, Read, Write, Look, Drop, In, Out, ApicRead, ApicWrite, Take, Priority}
use Rattle.svm_model.specs.Turn.Delivery.{delivery}
use Rattle.svm_model.specs.Turn.DoubleFaults.{combined}
use Rattle.svm_model.specs.Turn.Errand.{Errand, Over, Word, Hold, Commit}
use Rattle.svm_model.specs.Turn.Faults.{Came, again, came, delivered, delivering, ends, exit_under, fault, finished, leaves, on_combined, on_delivery, shut_down, unless_exit, without_shadow}
use Rattle.svm_model.specs.Instructions.Guards.{guard_of, refusal}
use Rattle.svm_model.specs.Turn.Instruction.{done_row, fetched, instruction, next_page, on_all, on_back, on_first, on_front, read_at}
use Rattle.svm_model.specs.Turn.SystemCourses.{at_msr, informed, knowing, on_map, on_read, on_system, priority_read, reads_priority, row_accesses, system_row, unless_intercepted, unless_map, unless_msrs, unless_ports, unless_refused, unlocked}
use Rattle.svm_model.specs.Turn.UserCourses.{after_row, apic_row, applied_to, at_register, is_reading, on_applied, on_place, on_register_read, on_register_written, on_values, plain_row, raised, register_applied, register_written as register_written_by, register_read as register_read_by, user_accesses, user_row, may_reach}
use Rattle.svm_model.specs.Svm.Intercepts.{asks_interrupts, asks_msrs, asks_nmis, asks_ports, asks_shutdown, asks_virtual, interrupt_exit, nested_exit, nmi_exit, row_exit, shutdown_exit, virtual_exit}
use Rattle.svm_model.specs.Svm.Vmcb.{Fields}
use Rattle.svm_model.specs.Instructions.Locking.{lock_is_undefined}
use Rattle.svm_model.specs.Instructions.Exceptions.{general_protection, invalid_opcode}
use Rattle.svm_model.specs.Instructions.Operands.{State, rax, rcx, whole_register}
use Rattle.svm_model.specs.Memory.RegisterFile.{is_canonical}
use Rattle.svm_model.specs.Turn.Outsides.{Doing, back, behind, going, on_return, with_flush, with_gif, with_interrupt, with_outside, interrupt_exit_of, coming, with_output, with_page_dropped, with_priority, with_return, with_svm, went, where_done}
use Rattle.svm_model.specs.Turn.Return.{coming_back}
use Rattle.svm_model.specs.Instructions.Rows.{decoded}
use Rattle.svm_model.specs.Instructions.SystemState.{Systemic}
use Rattle.svm_model.specs.Instructions.UserRows.{is_user_row}
use Rattle.svm_model.specs.Turn.Work.{course_of, done, inject, next_work, take_interrupt, take_nmi, take_virtual, turn_course}
use Rattle.svm_model.specs.declared.vcpus.Inside.{Inside}
use Rattle.svm_model.specs.declared.vcpus.Kept.{Kept}
use Rattle.svm_model.specs.declared.names.End.TheVariants as end
use Rattle.svm_model.specs.declared.ports.PortWrite.{PortWrite}
use Rattle.svm_model.specs.declared.register_file.Registers.{Registers}
use Rattle.svm_model.specs.declared.rows.Decoded.{Decoded}
use Rattle.svm_model.specs.declared.rows.Decoded.TheVariants.{Row, More, Unlisted as NoForm}
use Rattle.svm_model.specs.declared.rows.Op.{Op}
use Rattle.svm_model.specs.declared.rows.Op.TheVariants as op
use Rattle.svm_model.specs.declared.rows.PlannedAccess.{PlannedAccess}
use Rattle.svm_model.specs.declared.system.Flush.{Flush}
use Rattle.svm_model.specs.declared.system.Flush.TheVariants as flush
use Rattle.svm_model.specs.declared.system.Outside.{Outside}
use Rattle.svm_model.specs.declared.system.Outside.TheVariants as outside
use Rattle.svm_model.specs.declared.traps.Combined.{Combined}
use Rattle.svm_model.specs.declared.traps.Combined.TheVariants.{Deliver, Shutdown}
use Rattle.svm_model.specs.declared.traps.Trap.{Trap}
use Rattle.svm_model.specs.declared.turns.Accessed.{Accessed}
use Rattle.svm_model.specs.declared.turns.ApicAnswer.{ApicAnswer}
use Rattle.svm_model.specs.declared.turns.ApicAnswer.TheVariants.{Value, Stored, Unoffered, Before, Behind}
use Rattle.svm_model.specs.declared.turns.Facts.{Facts}
use Rattle.svm_model.specs.declared.turns.Held.{Held}
use Rattle.svm_model.specs.declared.turns.Part.{Part}
use Rattle.svm_model.specs.declared.turns.Place.{Place}
use Rattle.svm_model.specs.declared.turns.Place.TheVariants.{Memory, Register}
use Rattle.svm_model.specs.declared.turns.Stepped.{Stepped}
use Rattle.svm_model.specs.declared.turns.Stepped.TheVariants.{Went, Leaves, Moves, Ends}
use Rattle.svm_model.specs.declared.turns.Stop.{Stop}
use Rattle.svm_model.specs.declared.turns.Stop.TheVariants as stop
use Rattle.svm_model.specs.declared.turns.Translation.{Translation}
use Rattle.svm_model.specs.declared.turns.Work.{Work}
use Rattle.svm_model.specs.declared.turns.Work.TheVariants.{Inject, Nmi, Interrupt, Virtual, Nothing, Instruction as OfInstruction}
use Rattle.svm_model.specs.declared.vcpus.Vcpu.{Vcpu}
use Rattle.svm_model.specs.declared.windows.OutsideMemory.{OutsideMemory}
use Rattle.svm_model.specs.declared.exits.Exit.{Exit}
use Rattle.svm_model.specs.declared.guards.Intercept.{Intercept}
use Rattle.svm_model.specs.declared.guards.Intercept.TheVariants as intercept

-- what a vcpu inside a VMCB goes back to
abbrev pub kept_in : Option Inside → Option Kept
kept_in None = None
kept_in (Some i) = Some i.kept

-- the vcpu has the registers of another, and goes back to the same
pub record IsLike (start vcpu : Vcpu) : Type 0 where
  pub kept : kept_in vcpu.inside ≡ kept_in start.inside
  pub registers : vcpu.registers ≡ start.registers

-- an end of the guest, and a row that moves a VMCB, find the registers as before the turn
abbrev pub keeps_registers : Stepped → Bool
keeps_registers Went = false
keeps_registers (Leaves exit delivering) = false
keeps_registers (Moves o next_rip) = true
keeps_registers (Ends e) = true

-- a turn that starts with one vcpu may leave it so
pub record IsFine (start vcpu : Vcpu) (stepped : Stepped) : Type 0 where
  pub kept : kept_in vcpu.inside ≡ kept_in start.inside
  pub registers : keeps_registers stepped ≡ true → vcpu.registers ≡ start.registers

-- the turn is over, and comes out so
abbrev pub IsDone : Vcpu → Stepped → Course → Type 0
IsDone start s (Done vcpu stepped) = IsFine start vcpu stepped × (stepped ≡ s)
IsDone start s (Release next) = ⊥
IsDone start s (Translate part next) = ⊥
IsDone start s (Read number address count next) = ⊥
IsDone start s (Write number address bytes next) = ⊥
IsDone start s (Look address count next) = ⊥
IsDone start s (Drop flush next) = ⊥
IsDone start s (In port width next) = ⊥
IsDone start s (Out write next) = ⊥
IsDone start s (ApicRead offset event next) = ⊥
IsDone start s (ApicWrite offset value event next) = ⊥
IsDone start s (Take next) = ⊥
IsDone start s (Priority tpr next) = ⊥

-- where a port is read or written to, the turn is then over, and has gone through
abbrev pub IsLast : Vcpu → Course → Type 0
IsLast start (Done vcpu stepped) = IsFine start vcpu stepped
IsLast start (Release next) = IsLast start next
IsLast start (Translate part next) = (found : Translation) → IsLast start (next found)
IsLast start (Read number address count next) = (bytes : List ℕ) → IsLast start (next bytes)
IsLast start (Write number address bytes next) = IsLast start next
IsLast start (Look address count next) = (found : Result (List ℕ) OutsideMemory) → IsLast start (next found)
IsLast start (Drop flush next) = (dropped : Bool) → IsLast start (next dropped)
IsLast start (In port width next) = (value : ℕ) → IsDone start Went (next value)
IsLast start (Out write next) = (taken : Bool) → IsDone start Went (next taken)
IsLast start (ApicRead offset event next) = (answer : ApicAnswer) → IsLast start (next answer)
IsLast start (ApicWrite offset value event next) = (answer : ApicAnswer) → IsLast start (next answer)
IsLast start (Take next) = IsLast start next
IsLast start (Priority tpr next) = IsLast start next

-- what follows a turn is over
pub record Closes (start : Vcpu) (next : Came → Course) : Type 0 where
  pub over : (c : Came) → IsFine start c.vcpu c.stepped → IsDone start c.stepped (next c)

-- what follows a row: the turn is over where it went, and goes on where it was stopped
pub record Finishes (start : Vcpu) (next : Result Came Stop → Course) : Type 0 where
  pub over : (c : Came) → IsFine start c.vcpu c.stepped → IsDone start c.stepped (next (Ok c))
  pub stops : (reason : Stop) → IsLast start (next (Err reason))

over_last : (start : Vcpu) (s : Stepped) (c : Course) → IsDone start s c → IsLast start c
over_last start s (Done vcpu stepped) h = h.0
over_last start s (Release next) h = absurd h
over_last start s (Translate part next) h = absurd h
over_last start s (Read number address count next) h = absurd h
over_last start s (Write number address bytes next) h = absurd h
over_last start s (Look address count next) h = absurd h
over_last start s (Drop flush next) h = absurd h
over_last start s (In port width next) h = absurd h
over_last start s (Out write next) h = absurd h
over_last start s (ApicRead offset event next) h = absurd h
over_last start s (ApicWrite offset value event next) h = absurd h
over_last start s (Take next) h = absurd h
over_last start s (Priority tpr next) h = absurd h

either : (start : Vcpu) (b : Bool) (x y : Course) → IsLast start x → IsLast start y → IsLast start (if b then x else y)
either start true x y h k = h
either start false x y h k = k

-- How a turn may come out.

went_fine : (start vcpu : Vcpu) → kept_in vcpu.inside ≡ kept_in start.inside → IsFine start vcpu Went
went_fine start vcpu e = record { kept = e; registers = λ f. absurd (cc) }

left_fine : (start vcpu : Vcpu) (exit : Exit) (delivering : Option Trap) → kept_in vcpu.inside ≡ kept_in start.inside → IsFine start vcpu (Leaves exit delivering)
left_fine start vcpu exit delivering e = record { kept = e; registers = λ f. absurd (cc) }

like_fine : (start vcpu : Vcpu) (stepped : Stepped) → IsLike start vcpu → IsFine start vcpu stepped
like_fine start vcpu stepped e = record { kept = e.kept; registers = λ f. e.registers }

-- Accesses.

place_last : (start : Vcpu) (part : Part) (trap : Trap) (next : Result Place Stop → Course) → ((r : Result Place Stop) → IsLast start (next r)) → IsLast start (with_place part trap next)
unfolding with_place
place_last start part trap next h =
    either start (is_canonical part.address) (Translate part (λ found. next (place_of part.address found))) (next (Err (stop.Trap trap)))
    (λ found. h (place_of part.address found)) (h (Err (stop.Trap trap)))

part_last : (start : Vcpu) (part : Part) (trap : Trap) (next : Result ℕ Stop → Course) → ((r : Result ℕ Stop) → IsLast start (next r)) → IsLast start (with_part part trap next)
unfolding with_part
part_last start part trap next h = place_last start part trap _ (λ r. h (number_of r))

read_last : (start : Vcpu) (a : PlannedAccess) (number address count : ℕ) (next : Piece → Course) → ((p : Piece) → IsLast start (next p)) → IsLast start (piece_read a number address count next)
unfolding piece_read
read_last start a number address count next h =
    either start (reads a.touch) (Read number address count (λ bytes. next (record { bytes = bytes; number = number }))) (next (record { bytes = []; number = number }))
    (λ bytes. h (record { bytes = bytes; number = number })) (h (record { bytes = []; number = number }))

on_part_last : (start : Vcpu) (a : PlannedAccess) (address count : ℕ) (next : Result Piece Stop → Course) → ((r : Result Piece Stop) → IsLast start (next r)) → (r : Result ℕ Stop) → IsLast start (on_part a address count next r)
on_part_last start a address count next h (Ok number) = read_last start a number address count _ (λ piece. h (Ok piece))
on_part_last start a address count next h (Err reason) = h (Err reason)

piece_last : (start : Vcpu) (user : Bool) (a : PlannedAccess) (address count : ℕ) (next : Result Piece Stop → Course) → ((r : Result Piece Stop) → IsLast start (next r)) → IsLast start (with_piece user a address count next)
unfolding with_piece
piece_last start user a address count next h = part_last start _ _ _ (on_part_last start a address count next h)

then_piece_last : (start : Vcpu) (user : Bool) (a : PlannedAccess) (address count : ℕ) (next : Result Piece Stop → Course) → ((r : Result Piece Stop) → IsLast start (next r)) → (r : Result Piece Stop) → IsLast start (then_piece user a address count next r)
then_piece_last start user a address count next h (Ok front) = piece_last start user a address count _ (λ back. h (joined front back))
then_piece_last start user a address count next h (Err reason) = h (Err reason)

two_last : (start : Vcpu) (user : Bool) (a : PlannedAccess) (left address count : ℕ) (next : Result Piece Stop → Course) → ((r : Result Piece Stop) → IsLast start (next r)) → IsLast start (with_two_pieces user a left address count next)
unfolding with_two_pieces
two_last start user a left address count next h = piece_last start user a a.address left _ (then_piece_last start user a address count next h)

access_last : (start : Vcpu) (user : Bool) (a : PlannedAccess) (next : Result Accessed Stop → Course) → ((r : Result Accessed Stop) → IsLast start (next r)) → IsLast start (with_access user a next)
unfolding with_access
access_last start user a next h =
    either start (is_in_one_page a) _ _ (piece_last start user a a.address a.length _ (λ piece. h (accessed piece)))
    (two_last start user a (left_in_page a.address) (in_next_page a) (a.length - left_in_page a.address) _ (λ piece. h (accessed piece)))

written_last : (start : Vcpu) (number : ℕ) (a : PlannedAccess) (bytes : List ℕ) (next : Course) → IsLast start next → IsLast start (with_written number a bytes next)
unfolding with_written
written_last start number a bytes next h =
    either start (is_in_one_page a) (Write number a.address bytes next)
    (Write number a.address (take (left_in_page a.address) bytes) (Write (number + 1) (in_next_page a) (drop (left_in_page a.address) bytes) next)) h h

result_last : (start : Vcpu) (number : ℕ) (a : PlannedAccess) (value : ℕ) (next : Course) → IsLast start next → IsLast start (with_result number a value next)
unfolding with_result
result_last start number a value next h = either start (writes a.touch) _ _ (written_last start number a (bytes_of_result a.length value) next h) h

then_on_last : (start : Vcpu) (place : ℕ) (values numbers : List ℕ) (next : Result Words Stop → Course) (more : List ℕ → List ℕ → Course) → ((r : Result Words Stop) → IsLast start (next r)) → ((v n : List ℕ) → IsLast start (more v n)) → (r : Result Accessed Stop) → IsLast start (then_on place values numbers next more r)
then_on_last start place values numbers next more h k (Ok one) = k (slice_set values place one.word) (slice_set numbers place one.number)
then_on_last start place values numbers next more h k (Err reason) = h (Err reason)

accesses_last : (start : Vcpu) (user : Bool) (place : ℕ) (plan : List PlannedAccess) (values numbers : List ℕ) (next : Result Words Stop → Course) → ((r : Result Words Stop) → IsLast start (next r)) → IsLast start (accesses user place plan values numbers next)
unfolding accesses
accesses_last start user place [] values numbers next h = h (Ok (record { values = values; numbers = numbers }))
accesses_last start user place (a ∷ plan) values numbers next h =
    let more : List ℕ → List ℕ → Course = λ v n. accesses user (place + 1) plan v n next in
    access_last start user a _ (then_on_last start place values numbers next more h (λ v n. accesses_last start user (place + 1) plan v n next h))

planned_last : (start : Vcpu) (user : Bool) (plan : List PlannedAccess) (next : Result Words Stop → Course) → ((r : Result Words Stop) → IsLast start (next r)) → IsLast start (planned_accesses user plan next)
unfolding planned_accesses
planned_last start user plan next h = accesses_last start user 0 plan no_values no_values next h

results_last : (start : Vcpu) (place : ℕ) (plan : List PlannedAccess) (numbers results : List ℕ) (next : Course) → IsLast start next → IsLast start (results_written place plan numbers results next)
unfolding results_written
results_last start place [] numbers results next h = h
results_last start place (a ∷ plan) numbers results next h =
    result_last start (slice_index numbers place) a (slice_index results place) _ (results_last start (place + 1) plan numbers results next h)

-- Errands.

released_last : (start : Vcpu) (held : List Held) (next : Course) → IsLast start next → IsLast start (released held next)
unfolding released
released_last start [] next h = h
released_last start (place ∷ held) next h = h

committed_last : (start : Vcpu) (held : List Held) (values : List ℕ) (next : Course) → IsLast start next → IsLast start (committed held values next)
unfolding committed
committed_last start [] values next h = h
committed_last start (place ∷ held) [] next h = h
committed_last start (place ∷ held) (value ∷ values) next h = result_last start place.number place.access value _ (committed_last start held values next h)

along_last : (start : Vcpu) (held : List Held) (errand : Errand) (next : Result Registers Stop → Course) → ((r : Result Registers Stop) → IsLast start (next r)) → IsLast start (along held errand next)
along_last start held (Over outcome) next h = h outcome
along_last start held (Word address length user stack more) next h =
    released_last start held _ (access_last start user _ _ (λ a. along_last start (held_after_word held a) (more (word_of a)) next h))
along_last start held (Hold address length user stack more) next h =
    released_last start held _ (access_last start user _ _ (λ a. along_last start (held_after address length stack held a) (more (done_of a)) next h))
along_last start held (Commit values more) next h = committed_last start held values _ (along_last start [] more next h)

-- Faults.

exit_last : (start : Vcpu) (exit : Option Exit) (vcpu : Vcpu) (delivering : Option Trap) (next : Came → Course) (rest : Course) → IsLike start vcpu → Closes start next → IsLast start rest → IsLast start (unless_exit exit vcpu delivering next rest)
exit_last start None vcpu delivering next rest e h k = k
exit_last start (Some exit) vcpu delivering next rest e h k = over_last start _ _ (h.over (leaves vcpu exit delivering) (left_fine start vcpu exit delivering e.kept))

shut_down_fine : (start : Vcpu) (asked : Bool) (vcpu : Vcpu) (trap : Trap) → IsLike start vcpu →
    IsFine start (if asked then leaves vcpu shutdown_exit (Some trap) else ends vcpu end.Shutdown).vcpu (if asked then leaves vcpu shutdown_exit (Some trap) else ends vcpu end.Shutdown).stepped
shut_down_fine start true vcpu trap e = left_fine start vcpu shutdown_exit (Some trap) e.kept
shut_down_fine start false vcpu trap e = like_fine start vcpu (Ends end.Shutdown) e

shut_down_last : (start : Vcpu) (control : Option Control) (vcpu : Vcpu) (trap : Trap) (next : Came → Course) → IsLike start vcpu → Closes start next → IsLast start (next (shut_down control vcpu trap))
shut_down_last start control vcpu trap next e h = over_last start _ _ (h.over (shut_down control vcpu trap) (shut_down_fine start (asks asks_shutdown control) vcpu trap e))

combined_last : (start : Vcpu) (control : Option Control) (vcpu : Vcpu) (trap : Trap) (more : Trap → Course) (next : Came → Course) → IsLike start vcpu → Closes start next → ((other : Trap) → IsLast start (more other)) →
    (c : Combined) → IsLast start (on_combined control vcpu trap more next c)
combined_last start control vcpu trap more next e h k (Deliver other) = exit_last start (exit_under control other 0) vcpu (Some trap) next (more other) e h (k other)
combined_last start control vcpu trap more next e h k Shutdown = shut_down_last start control vcpu trap next e h

on_delivery_last : (start : Vcpu) (control : Option Control) (vcpu : Vcpu) (trap : Trap) (more : Trap → Course) (next : Came → Course) → IsLike start vcpu → Closes start next → ((other : Trap) → IsLast start (more other)) →
    (r : Result Registers Stop) → IsLast start (on_delivery control vcpu trap more next r)
on_delivery_last start control vcpu trap more next e h k (Ok r) = over_last start _ _ (h.over (came (delivered vcpu trap r) Went) (went_fine start (delivered vcpu trap r) e.kept))
on_delivery_last start control vcpu trap more next e h k (Err (stop.Trap second)) =
    exit_last start (exit_under control second 0) vcpu (Some trap) next _ e h (combined_last start control vcpu trap more next e h k (combined trap second))
on_delivery_last start control vcpu trap more next e h k (Err (stop.Nested code address)) =
    over_last start _ _ (h.over (leaves vcpu (nested_exit code address) (Some trap)) (left_fine start vcpu (nested_exit code address) (Some trap) e.kept))
on_delivery_last start control vcpu trap more next e h k (Err (stop.Ended x)) = over_last start _ _ (h.over (ends vcpu x) (like_fine start vcpu (Ends x) e))

delivering_last : (start : Vcpu) (more : ℕ) (control : Option Control) (vcpu : Vcpu) (from : Registers) (trap : Trap) (next : Came → Course) → IsLike start vcpu → Closes start next → IsLast start (delivering more control vcpu from trap next)
unfolding delivering
delivering_last start zero control vcpu from trap next e h = over_last start _ _ (h.over (ends vcpu end.Shutdown) (like_fine start vcpu (Ends end.Shutdown) e))
delivering_last start (suc more) control vcpu from trap next e h =
    along_last start [] (delivery trap from) _ (on_delivery_last start control vcpu trap _ next e h (λ other. delivering_last start more control vcpu (again vcpu from) other next e h))

fault_last : (start : Vcpu) (control : Option Control) (vcpu : Vcpu) (trap : Trap) (next : Came → Course) → IsLike start vcpu → Closes start next → IsLast start (fault control vcpu trap next)
unfolding fault
fault_last start control vcpu trap next e h =
    exit_last start (exit_under control trap 0) vcpu None next _ e h (delivering_last start 4 control vcpu (without_shadow vcpu) trap next e h)

stop_last : (start : Vcpu) (control : Option Control) (vcpu : Vcpu) (next : Came → Course) → IsLike start vcpu → Closes start next → (reason : Stop) → IsLast start (finished control vcpu next (Err reason))
stop_last start control vcpu next e h (stop.Trap trap) = fault_last start control vcpu trap next e h
stop_last start control vcpu next e h (stop.Nested code address) = over_last start _ _ (h.over (leaves vcpu (nested_exit code address) None) (left_fine start vcpu (nested_exit code address) None e.kept))
stop_last start control vcpu next e h (stop.Ended x) = over_last start _ _ (h.over (ends vcpu x) (like_fine start vcpu (Ends x) e))

finishes : (start : Vcpu) (control : Option Control) (vcpu : Vcpu) (next : Came → Course) → IsLike start vcpu → Closes start next → Finishes start (finished control vcpu next)
finishes start control vcpu next e h = record { over = λ c f. h.over c f; stops = stop_last start control vcpu next e h }

-- what follows a row follows a delivery in it
closes : (start : Vcpu) (next : Result Came Stop → Course) → Finishes start next → Closes start (coming next)
closes start next f = record { over = λ c g. f.over c g }

-- What a row asks for.

interrupt_last : (start : Vcpu) (d : Doing) (vector : ℕ) (software : Bool) (next : Result Came Stop → Course) → IsLike start d.vcpu → Finishes start next → IsLast start (with_interrupt d vector software next)
unfolding with_interrupt
interrupt_last start d vector software next e f =
    exit_last start (interrupt_exit_of d vector software) d.vcpu None _ _ e (closes start next f) (delivering_last start 4 d.control d.vcpu _ _ _ e (closes start next f))

on_return_last : (start : Vcpu) (d : Doing) (next : Result Came Stop → Course) → IsLike start d.vcpu → Finishes start next → (r : Result Registers Stop) → IsLast start (on_return d next r)
on_return_last start d next e f (Ok r) = over_last start _ _ (f.over (back d r) (went_fine start _ e.kept))
on_return_last start d next e f (Err reason) = f.stops reason

return_last : (start : Vcpu) (d : Doing) (next : Result Came Stop → Course) → IsLike start d.vcpu → Finishes start next → IsLast start (with_return d next)
unfolding with_return
return_last start d next e f = along_last start [] (coming_back d.vcpu.registers) _ (on_return_last start d next e f)

where_done_over : (start : Vcpu) (d : Doing) (r : Registers) (next : Result Came Stop → Course) → IsLike start d.vcpu → Finishes start next → (b : Bool) → IsDone start Went (next (Ok (where_done d r b)))
where_done_over start d r next e f true = f.over (went d r) (went_fine start _ e.kept)
where_done_over start d r next e f false = f.over (came d.vcpu Went) (went_fine start _ e.kept)

output_last : (start : Vcpu) (d : Doing) (r : Registers) (write : PortWrite) (next : Result Came Stop → Course) → IsLike start d.vcpu → Finishes start next → IsLast start (with_output d r write next)
unfolding with_output
output_last start d r write next e f = where_done_over start d r next e f

flush_last : (start : Vcpu) (d : Doing) (r : Registers) (flush : Flush) (next : Result Came Stop → Course) → IsLike start d.vcpu → Finishes start next → IsLast start (with_flush d r flush next)
unfolding with_flush
flush_last start d r flush next e f = λ b. over_last start _ _ (where_done_over start d r next e f b)

went_last : (start : Vcpu) (d : Doing) (r : Registers) (next : Result Came Stop → Course) → IsLike start d.vcpu → Finishes start next → IsLast start (going d r next)
went_last start d r next e f = over_last start _ _ (f.over (went d r) (went_fine start _ e.kept))

live_tpr_kept : (o : Option Inside) (tpr : ℕ) → kept_in (with_live_tpr tpr o) ≡ kept_in o
live_tpr_kept None tpr = refl
live_tpr_kept (Some i) tpr = refl

live_gif_kept : (o : Option Inside) (gif : Bool) → kept_in (with_live_gif gif o) ≡ kept_in o
live_gif_kept None gif = refl
live_gif_kept (Some i) gif = refl

live_irq_kept : (o : Option Inside) (irq : Bool) → kept_in (with_live_irq irq o) ≡ kept_in o
live_irq_kept None irq = refl
live_irq_kept (Some i) irq = refl

priority_last : (start : Vcpu) (d : Doing) (r : Registers) (value : ℕ) (next : Result Came Stop → Course) → IsLike start d.vcpu → Finishes start next → IsLast start (with_priority d r value next)
unfolding with_priority
priority_last start d r value next e f =
    either start (masks_interrupts d.control) (next (Ok (came (record d.vcpu { registers = r; inside = with_live_tpr value d.vcpu.inside }) Went))) (Priority (16 * value) (going d r next))
    (over_last start _ _ (f.over _ (went_fine start (record d.vcpu { registers = r; inside = with_live_tpr value d.vcpu.inside }) (live_tpr_kept d.vcpu.inside value ∙ e.kept))))
    (went_last start d r next e f)

dropped_last : (start : Vcpu) (d : Doing) (next : Result Came Stop → Course) → IsLike start d.vcpu → Finishes start next → IsLast start (with_page_dropped d next)
dropped_last start d next e f =
    let asid = whole_register rcx d.vcpu.registers % 2 ^ 32 in
    let dropped = flush.Page asid (whole_register rax d.vcpu.registers) in
    either start (nat_le asid 15) (with_flush d (behind d) dropped next) (going d (behind d) next)
    (flush_last start d (behind d) dropped next e f) (went_last start d (behind d) next e f)

gif_fine : (start : Vcpu) (owned gif : Bool) (d : Doing) → IsLike start d.vcpu →
    IsFine start (if owned then came (record d.vcpu { registers = behind d; inside = with_live_gif gif d.vcpu.inside }) Went else came (record d.vcpu { registers = behind d; gif = gif }) Went).vcpu
    (if owned then came (record d.vcpu { registers = behind d; inside = with_live_gif gif d.vcpu.inside }) Went else came (record d.vcpu { registers = behind d; gif = gif }) Went).stepped
gif_fine start true gif d e = went_fine start _ (live_gif_kept d.vcpu.inside gif ∙ e.kept)
gif_fine start false gif d e = went_fine start _ e.kept

gif_last : (start : Vcpu) (gif : Bool) (d : Doing) (next : Result Came Stop → Course) → IsLike start d.vcpu → Finishes start next → IsLast start (next (Ok (with_gif gif d)))
gif_last start gif d next e f = over_last start _ _ (f.over (with_gif gif d) (gif_fine start (owns_gif d.control) gif d e))

moves_last : (start : Vcpu) (d : Doing) (o : Op) (next : Result Came Stop → Course) → IsLike start d.vcpu → Finishes start next → IsLast start (next (Ok (came d.vcpu (Moves o d.next_rip))))
moves_last start d o next e f = over_last start _ _ (f.over (came d.vcpu (Moves o d.next_rip)) (like_fine start d.vcpu (Moves o d.next_rip) e))

svm_last : (start : Vcpu) (d : Doing) (o : Op) (next : Result Came Stop → Course) → IsLike start d.vcpu → Finishes start next → IsLast start (with_svm o d next)
unfolding with_svm
svm_last start d op.Stgi next e f = gif_last start true d next e f
svm_last start d op.Clgi next e f = gif_last start false d next e f
svm_last start d op.Invlpga next e f = dropped_last start d next e f
svm_last start d o next e f = moves_last start d o next e f

outside_last : (start : Vcpu) (d : Doing) (plan : List PlannedAccess) (numbers results : List ℕ) (r : Registers) (o : Outside) (next : Result Came Stop → Course) → IsLike start d.vcpu → Finishes start next →
    IsLast start (with_outside d plan numbers results r o next)
unfolding with_outside
outside_last start d plan numbers results r outside.None next e f = results_last start 0 plan numbers results _ (went_last start d r next e f)
outside_last start d plan numbers results r outside.Halt next e f = over_last start _ _ (f.over (came (record d.vcpu { registers = r; halted = true }) Went) (went_fine start _ e.kept))
outside_last start d plan numbers results r outside.Shadow next e f = went_last start d (record r { shadow = true }) next e f
outside_last start d plan numbers results r (outside.Interrupt vector software) next e f = interrupt_last start d vector software next e f
outside_last start d plan numbers results r outside.Return next e f = return_last start d next e f
outside_last start d plan numbers results r (outside.PortRead port width) next e f = λ value. f.over _ (went_fine start _ e.kept)
outside_last start d plan numbers results r (outside.PortWrite port width value) next e f = output_last start d r _ next e f
outside_last start d plan numbers results r outside.DropLocal next e f = flush_last start d r _ next e f
outside_last start d plan numbers results r outside.DropAsid next e f = flush_last start d r _ next e f
outside_last start d plan numbers results r (outside.DropPage address) next e f = flush_last start d r _ next e f
outside_last start d plan numbers results r (outside.Priority value) next e f = priority_last start d r value next e f
outside_last start d plan numbers results r outside.Svm next e f = svm_last start d d.row.op next e f
outside_last start d plan numbers results r (outside.Ends x) next e f = f.stops (stop.Ended x)

-- Rows.

on_applied_last : (start : Vcpu) (vcpu : Vcpu) (plan : List PlannedAccess) (numbers : List ℕ) (next : Result Came Stop → Course) → IsLike start vcpu → Finishes start next → (r : Result State Trap) → IsLast start (on_applied vcpu plan numbers next r)
on_applied_last start vcpu plan numbers next e f (Ok s) = results_last start 0 plan numbers s.results _ (over_last start _ _ (f.over (came (after_row vcpu s) Went) (went_fine start _ e.kept)))
on_applied_last start vcpu plan numbers next e f (Err trap) = f.stops (stop.Trap trap)

on_values_last : (start : Vcpu) (d : Doing) (plan : List PlannedAccess) (next : Result Came Stop → Course) → IsLike start d.vcpu → Finishes start next → (r : Result Words Stop) → IsLast start (on_values d plan next r)
on_values_last start d plan next e f (Ok read) = on_applied_last start d.vcpu plan read.numbers next e f (applied_to d read.values)
on_values_last start d plan next e f (Err reason) = f.stops reason

plain_last : (start : Vcpu) (d : Doing) (plan : List PlannedAccess) (next : Result Came Stop → Course) → IsLike start d.vcpu → Finishes start next → IsLast start (plain_row d plan next)
unfolding plain_row
plain_last start d plan next e f = planned_last start _ plan _ (on_values_last start d plan next e f)

register_applied_last : (start : Vcpu) (d : Doing) (value : ℕ) (next : Result Came Stop → Course) → IsLike start d.vcpu → Finishes start next → IsLast start (register_applied d value next)
unfolding register_applied
register_applied_last start d value next e f = on_applied_last start d.vcpu [] no_values next e f _

on_register_read_last : (start : Vcpu) (d : Doing) (offset : ℕ) (next : Result Came Stop → Course) (more : ℕ → Course) → IsLike start d.vcpu → Finishes start next → ((value : ℕ) → IsLast start (more value)) → (answer : ApicAnswer) →
    IsLast start (on_register_read d offset next more answer)
on_register_read_last start d offset next more e f k (Value value) = k value
on_register_read_last start d offset next more e f k Stored = f.stops (stop.Ended (end.ApicAccess offset))
on_register_read_last start d offset next more e f k Unoffered = f.stops (stop.Ended (end.ApicAccess offset))
on_register_read_last start d offset next more e f k (Before exit) = over_last start _ _ (f.over (leaves d.vcpu exit None) (left_fine start d.vcpu exit None e.kept))
on_register_read_last start d offset next more e f k (Behind exit) = over_last start _ _ (f.over (leaves d.vcpu exit None) (left_fine start d.vcpu exit None e.kept))

on_register_written_last : (start : Vcpu) (d : Doing) (offset : ℕ) (vcpu : Vcpu) (next : Result Came Stop → Course) → IsLike start d.vcpu → kept_in vcpu.inside ≡ kept_in start.inside → Finishes start next → (answer : ApicAnswer) →
    IsLast start (next (on_register_written d offset vcpu answer))
on_register_written_last start d offset vcpu next e g f (Value value) = f.stops (stop.Ended (end.ApicAccess offset))
on_register_written_last start d offset vcpu next e g f Stored = over_last start _ _ (f.over (came vcpu Went) (went_fine start vcpu g))
on_register_written_last start d offset vcpu next e g f Unoffered = f.stops (stop.Ended (end.ApicAccess offset))
on_register_written_last start d offset vcpu next e g f (Before exit) = over_last start _ _ (f.over (leaves d.vcpu exit None) (left_fine start d.vcpu exit None e.kept))
on_register_written_last start d offset vcpu next e g f (Behind exit) = over_last start _ _ (f.over (leaves vcpu exit None) (left_fine start vcpu exit None g))

register_written_last : (start : Vcpu) (d : Doing) (offset : ℕ) (next : Result Came Stop → Course) → IsLike start d.vcpu → Finishes start next → (r : Result State Trap) → IsLast start (register_written_by d offset next r)
register_written_last start d offset next e f (Err trap) = f.stops (stop.Trap trap)
register_written_last start d offset next e f (Ok s) = on_register_written_last start d offset (after_row d.vcpu s) next e e.kept f

at_register_last : (start : Vcpu) (d : Doing) (offset : ℕ) (next : Result Came Stop → Course) → IsLike start d.vcpu → Finishes start next → IsLast start (at_register d offset next)
unfolding at_register
at_register_last start d offset next e f =
    either start (is_reading d.row.form) (register_read_by d offset next) (register_written_by d offset next (applied_to d no_values))
    (on_register_read_last start d offset next (λ value. register_applied d value next) e f (λ value. register_applied_last start d value next e f))
    (register_written_last start d offset next e f (applied_to d no_values))

on_place_last : (start : Vcpu) (d : Doing) (a : PlannedAccess) (next : Result Came Stop → Course) → IsLike start d.vcpu → Finishes start next → (r : Result Place Stop) → IsLast start (on_place d a next r)
on_place_last start d a next e f (Ok (Memory number)) = read_last start a number a.address a.length _ (λ piece. on_applied_last start d.vcpu (a ∷ []) _ next e f _)
on_place_last start d a next e f (Ok (Register offset)) = at_register_last start d offset next e f
on_place_last start d a next e f (Err reason) = f.stops reason

apic_last : (start : Vcpu) (d : Doing) (a : PlannedAccess) (next : Result Came Stop → Course) → IsLike start d.vcpu → Finishes start next → IsLast start (apic_row d a next)
unfolding apic_row
apic_last start d a next e f = place_last start _ _ _ (on_place_last start d a next e f)

user_accesses_last : (start : Vcpu) (d : Doing) (plan : List PlannedAccess) (next : Result Came Stop → Course) → IsLike start d.vcpu → Finishes start next → IsLast start (user_accesses d plan next)
user_accesses_last start d [] next e f = plain_last start d [] next e f
user_accesses_last start d (a ∷ []) next e f = either start (may_reach d.control d.row a) _ _ (apic_last start d a next e f) (plain_last start d (a ∷ []) next e f)
user_accesses_last start d (a ∷ b ∷ plan) next e f = plain_last start d (a ∷ b ∷ plan) next e f

user_last : (start : Vcpu) (d : Doing) (next : Result Came Stop → Course) → IsLike start d.vcpu → Finishes start next → IsLast start (user_row d next)
unfolding user_row
user_last start d next e f = either start (lock_is_undefined d.row) (next (raised invalid_opcode)) _ (f.stops (stop.Trap invalid_opcode)) (user_accesses_last start d _ next e f)

on_system_last : (start : Vcpu) (d : Doing) (plan : List PlannedAccess) (numbers : List ℕ) (next : Result Came Stop → Course) → IsLike start d.vcpu → Finishes start next → (r : Result Systemic Trap) → IsLast start (on_system d plan numbers next r)
on_system_last start d plan numbers next e f (Ok s) = outside_last start d plan numbers s.state.results s.state.registers s.outside next e f
on_system_last start d plan numbers next e f (Err trap) = f.stops (stop.Trap trap)

on_read_last : (start : Vcpu) (d : Doing) (plan : List PlannedAccess) (next : Result Came Stop → Course) → IsLike start d.vcpu → Finishes start next → (r : Result Words Stop) → IsLast start (on_read d plan next r)
on_read_last start d plan next e f (Ok read) = on_system_last start d plan read.numbers next e f _
on_read_last start d plan next e f (Err reason) = f.stops reason

row_accesses_last : (start : Vcpu) (d : Doing) (next : Result Came Stop → Course) → IsLike start d.vcpu → Finishes start next → IsLast start (row_accesses d next)
row_accesses_last start d next e f = planned_last start _ _ _ (on_read_last start d _ next e f)

priority_read_last : (start : Vcpu) (d : Doing) (next : Result Came Stop → Course) → IsLike start d.vcpu → Finishes start next → IsLast start (priority_read d next)
priority_read_last start d next e f =
    on_register_read_last start d 0x080 next (λ priority. row_accesses (knowing d priority) next) e f (λ priority. row_accesses_last start (knowing d priority) next e f)

unlocked_last : (start : Vcpu) (d : Doing) (next : Result Came Stop → Course) → IsLike start d.vcpu → Finishes start next → IsLast start (unlocked d next)
unfolding unlocked
unlocked_last start d next e f =
    either start (lock_is_undefined d.row) (next (raised invalid_opcode)) (informed d next) (f.stops (stop.Trap invalid_opcode))
    (either start (reads_priority d.row && not (masks_interrupts d.control)) (priority_read d next) (row_accesses d next) (priority_read_last start d next e f) (row_accesses_last start d next e f))

-- Intercepts of rows.

on_map_last : (start : Vcpu) (d : Doing) (test : List ℕ → Bool) (exit : Exit) (next : Result Came Stop → Course) (rest : Course) → IsLike start d.vcpu → Finishes start next → IsLast start rest → (found : Result (List ℕ) OutsideMemory) →
    IsLast start (on_map d test exit next rest found)
on_map_last start d test exit next rest e f k (Ok bytes) =
    either start (test bytes) (next (Ok (leaves d.vcpu exit None))) rest (over_last start _ _ (f.over (leaves d.vcpu exit None) (left_fine start d.vcpu exit None e.kept))) k
on_map_last start d test exit next rest e f k (Err outside) = f.stops (stop.Ended (end.OutsideMemory outside.address))

ports_last : (start : Vcpu) (d : Doing) (fields : Fields) (next : Result Came Stop → Course) (rest : Course) → IsLike start d.vcpu → Finishes start next → IsLast start rest → IsLast start (unless_ports d fields next rest)
ports_last start d fields next rest e f k = either start (asks_ports fields) _ rest (λ found. on_map_last start d _ _ next rest e f k found) k

at_msr_last : (start : Vcpu) (d : Doing) (fields : Fields) (next : Result Came Stop → Course) (rest : Course) → IsLike start d.vcpu → Finishes start next → IsLast start rest → (place : Option ℕ) → IsLast start (at_msr d fields next rest place)
at_msr_last start d fields next rest e f k None = over_last start _ _ (f.over (leaves d.vcpu _ None) (left_fine start d.vcpu _ None e.kept))
at_msr_last start d fields next rest e f k (Some place) = λ found. on_map_last start d _ _ next rest e f k found

msrs_last : (start : Vcpu) (d : Doing) (fields : Fields) (next : Result Came Stop → Course) (rest : Course) → IsLike start d.vcpu → Finishes start next → IsLast start rest → IsLast start (unless_msrs d fields next rest)
msrs_last start d fields next rest e f k = either start (asks_msrs fields) _ rest (at_msr_last start d fields next rest e f k _) k

map_last : (start : Vcpu) (i : Intercept) (d : Doing) (fields : Fields) (next : Result Came Stop → Course) (rest : Course) → IsLike start d.vcpu → Finishes start next → IsLast start rest → IsLast start (unless_map i d fields next rest)
map_last start intercept.Never d fields next rest e f k = k
map_last start (intercept.WordC place) d fields next rest e f k = k
map_last start (intercept.Word10 place) d fields next rest e f k = k
map_last start intercept.Control d fields next rest e f k = k
map_last start intercept.Debug d fields next rest e f k = k
map_last start intercept.Ports d fields next rest e f k = ports_last start d fields next rest e f k
map_last start intercept.Msrs d fields next rest e f k = msrs_last start d fields next rest e f k
map_last start (intercept.Always code) d fields next rest e f k = k

intercepted_last : (start : Vcpu) (control : Option Control) (d : Doing) (next : Result Came Stop → Course) (rest : Course) → IsLike start d.vcpu → Finishes start next → IsLast start rest → IsLast start (unless_intercepted control d next rest)
intercepted_last start None d next rest e f k = k
intercepted_last start (Some c) d next rest e f k =
    exit_last start (row_exit c.fields d.row d.next_rip) d.vcpu None _ _ e (closes start next f) (map_last start (guard_of d.row.op).intercept d c.fields next rest e f k)

unless_refused_last : (start : Vcpu) (o : Option Trap) (next : Result Came Stop → Course) (rest : Course) → Finishes start next → IsLast start rest → IsLast start (unless_refused o next rest)
unless_refused_last start None next rest f h = h
unless_refused_last start (Some trap) next rest f h = f.stops (stop.Trap trap)

system_last : (start : Vcpu) (d : Doing) (next : Result Came Stop → Course) → IsLike start d.vcpu → Finishes start next → IsLast start (system_row d next)
unfolding system_row
system_last start d next e f =
    unless_refused_last start (refusal d.row d.vcpu.registers) next _ f (intercepted_last start d.control d next (unlocked d next) e f (unlocked_last start d next e f))

row_last : (start : Vcpu) (d : Doing) (next : Result Came Stop → Course) → IsLike start d.vcpu → Finishes start next → IsLast start (done_row d next)
unfolding done_row
row_last start d next e f = either start (is_user_row d.row.op) _ _ (user_last start d next e f) (system_last start d next e f)

-- Fetch.

read_at_last : (start : Vcpu) (address count : ℕ) (next : Result (List ℕ) Stop → Course) → ((r : Result (List ℕ) Stop) → IsLast start (next r)) → (r : Result ℕ Stop) → IsLast start (read_at address count next r)
read_at_last start address count next h (Ok number) = λ bytes. h (Ok bytes)
read_at_last start address count next h (Err reason) = h (Err reason)

fetched_last : (start : Vcpu) (vcpu : Vcpu) (address count : ℕ) (next : Result (List ℕ) Stop → Course) → ((r : Result (List ℕ) Stop) → IsLast start (next r)) → IsLast start (fetched vcpu address count next)
unfolding fetched
fetched_last start vcpu address count next h = part_last start _ _ _ (read_at_last start address count next h)

on_all_last : (start : Vcpu) (control : Option Control) (facts : Facts) (vcpu : Vcpu) (next : Result Came Stop → Course) → IsLike start vcpu → Finishes start next → (d : Decoded) → IsLast start (on_all control facts vcpu next d)
on_all_last start control facts vcpu next e f (Row row size) = row_last start _ next e f
on_all_last start control facts vcpu next e f More = f.stops (stop.Trap general_protection)
on_all_last start control facts vcpu next e f (NoForm byte) = f.stops (stop.Ended (end.Unlisted byte))

on_back_last : (start : Vcpu) (control : Option Control) (facts : Facts) (vcpu : Vcpu) (front : List ℕ) (next : Result Came Stop → Course) → IsLike start vcpu → Finishes start next → (r : Result (List ℕ) Stop) → IsLast start (on_back control facts vcpu front next r)
on_back_last start control facts vcpu front next e f (Ok back) = on_all_last start control facts vcpu next e f _
on_back_last start control facts vcpu front next e f (Err reason) = f.stops reason

next_page_last : (start : Vcpu) (control : Option Control) (facts : Facts) (vcpu : Vcpu) (front : List ℕ) (next : Result Came Stop → Course) → IsLike start vcpu → Finishes start next → IsLast start (next_page control facts vcpu front next)
unfolding next_page
next_page_last start control facts vcpu front next e f = fetched_last start vcpu _ _ _ (on_back_last start control facts vcpu front next e f)

on_front_last : (start : Vcpu) (control : Option Control) (facts : Facts) (vcpu : Vcpu) (front : List ℕ) (next : Result Came Stop → Course) → IsLike start vcpu → Finishes start next → (d : Decoded) → IsLast start (on_front control facts vcpu front next d)
on_front_last start control facts vcpu front next e f (Row row size) = row_last start _ next e f
on_front_last start control facts vcpu front next e f More = next_page_last start control facts vcpu front next e f
on_front_last start control facts vcpu front next e f (NoForm byte) = f.stops (stop.Ended (end.Unlisted byte))

on_first_last : (start : Vcpu) (control : Option Control) (facts : Facts) (vcpu : Vcpu) (next : Result Came Stop → Course) → IsLike start vcpu → Finishes start next → (r : Result (List ℕ) Stop) → IsLast start (on_first control facts vcpu next r)
on_first_last start control facts vcpu next e f (Ok front) = on_front_last start control facts vcpu front next e f (decoded front)
on_first_last start control facts vcpu next e f (Err reason) = f.stops reason

instruction_last : (start : Vcpu) (control : Option Control) (facts : Facts) (vcpu : Vcpu) (next : Result Came Stop → Course) → IsLike start vcpu → Finishes start next → IsLast start (instruction control facts vcpu next)
unfolding instruction
instruction_last start control facts vcpu next e f = fetched_last start vcpu _ _ _ (on_first_last start control facts vcpu next e f)

-- Works.

asked_last : (start : Vcpu) (asked : Bool) (vcpu : Vcpu) (exit : Exit) (next : Came → Course) (rest : Course) → IsLike start vcpu → Closes start next → IsLast start rest → IsLast start (if asked then next (leaves vcpu exit None) else rest)
asked_last start asked vcpu exit next rest e h k =
    either start asked (next (leaves vcpu exit None)) rest (over_last start _ _ (h.over (leaves vcpu exit None) (left_fine start vcpu exit None e.kept))) k

-- a vcpu that has taken what was pending has its registers
like_by : (start vcpu other : Vcpu) → other.registers ≡ vcpu.registers → kept_in other.inside ≡ kept_in vcpu.inside → IsLike start vcpu → IsLike start other
like_by start vcpu other r l e = record { kept = l ∙ e.kept; registers = r ∙ e.registers }

inject_last : (start : Vcpu) (control : Option Control) (vcpu : Vcpu) (held : Option Trap) (next : Came → Course) → IsLike start vcpu → Closes start next → IsLast start (inject control vcpu held next)
inject_last start control vcpu None next e h = over_last start _ _ (h.over (came vcpu Went) (went_fine start vcpu e.kept))
inject_last start control vcpu (Some trap) next e h =
    delivering_last start 4 control (record vcpu { held = None }) vcpu.registers trap next (like_by start vcpu (record vcpu { held = None }) refl refl e) h

nmi_last : (start : Vcpu) (control : Option Control) (vcpu : Vcpu) (next : Came → Course) → IsLike start vcpu → Closes start next → IsLast start (take_nmi control vcpu next)
nmi_last start control vcpu next e h =
    asked_last start (asks asks_nmis control) vcpu nmi_exit next _ e h
    (delivering_last start 4 control (record vcpu { nmi = false }) vcpu.registers _ next (like_by start vcpu (record vcpu { nmi = false }) refl refl e) h)

interrupt_taken_last : (start : Vcpu) (control : Option Control) (vcpu : Vcpu) (vector : Option ℕ) (next : Came → Course) → IsLike start vcpu → Closes start next → IsLast start (take_interrupt control vcpu vector next)
interrupt_taken_last start control vcpu None next e h = over_last start _ _ (h.over (came vcpu Went) (went_fine start vcpu e.kept))
interrupt_taken_last start control vcpu (Some vector) next e h =
    asked_last start (asks asks_interrupts control) vcpu interrupt_exit next _ e h (delivering_last start 4 control vcpu vcpu.registers _ next e h)

virtual_last : (start : Vcpu) (control : Option Control) (vcpu : Vcpu) (next : Came → Course) → IsLike start vcpu → Closes start next → IsLast start (take_virtual control vcpu next)
virtual_last start control vcpu next e h =
    asked_last start (asks asks_virtual control) vcpu virtual_exit next _ e h
    (delivering_last start 4 control (record vcpu { inside = with_live_irq false vcpu.inside }) vcpu.registers _ next
    (like_by start vcpu (record vcpu { inside = with_live_irq false vcpu.inside }) refl (live_irq_kept vcpu.inside false) e) h)

work_last : (start : Vcpu) (work : Work) (control : Option Control) (facts : Facts) (vcpu : Vcpu) (interrupt : Option ℕ) (next : Came → Course) → IsLike start vcpu → Closes start next →
    IsLast start (course_of work control facts vcpu interrupt next)
unfolding course_of
work_last start Inject control facts vcpu interrupt next e h = inject_last start control vcpu vcpu.held next e h
work_last start Nmi control facts vcpu interrupt next e h = nmi_last start control vcpu next e h
work_last start Interrupt control facts vcpu interrupt next e h = interrupt_taken_last start control vcpu interrupt next e h
work_last start Virtual control facts vcpu interrupt next e h = virtual_last start control vcpu next e h
work_last start Nothing control facts vcpu interrupt next e h = over_last start _ _ (h.over (came vcpu Went) (went_fine start vcpu e.kept))
work_last start OfInstruction control facts vcpu interrupt next e h = instruction_last start control facts vcpu _ e (finishes start control vcpu next e h)

pub turn_last : (control : Option Control) (facts : Facts) (vcpu : Vcpu) (interrupt : Option ℕ) → IsLast vcpu (turn_course control facts vcpu interrupt)
turn_last control facts vcpu interrupt =
    work_last vcpu (next_work (turn_by control vcpu interrupt)) control facts vcpu interrupt done (record { kept = refl; registers = refl }) (record { over = λ c f. (f, refl) })
