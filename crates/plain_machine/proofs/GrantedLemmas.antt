-- A turn of which so many outward calls are granted is the one of which a later call would be refused.
use Rattle.std.proofs.Common.{◌≡◌, ◌∙◌, ◌≤◌, ℕ, Bool, true, false, not, List, [], Some, None, length, ap, refl, arith}
use Rattle.std.proofs.lemmas.Bool.Decides.{nat_tests}
use Rattle.std.specs.Prelude.{◌+◌, ◌==◌, take, drop, slice_index}
use Rattle.svm_model.specs.Machine.Apic.{taken}
use Rattle.svm_model.specs.Machine.ApicRegisters.{register_read, register_written}
use Rattle.svm_model.specs.Machine.Bus.{bus_after_read, device_of, value_read}
use Rattle.svm_model.specs.Memory.Bytes.{bytes_at, put_at}
use Rattle.svm_model.specs.Memory.NestedPaging.{walked_over}
use Rattle.svm_model.specs.Turn.Course.{Board, Course, Done, Release, Translate, Read, Write, Look, Drop, In, Out, ApicRead, ApicWrite, Take, Priority, Flushed, Way, after, told_of}
use Rattle.svm_model.specs.Turn.Play.{access_of, board_after, called, frames_after, heard, numbered, place_in, play, prioritized, read_answer, translated, with_apic, with_bus, with_out, written_answer}
use Rattle.svm_model.specs.declared.turns.Part.{Part}
use Rattle.svm_model.specs.declared.turns.Space.{Space}
use Rattle.svm_model.specs.declared.turns.Translated.{Translated}

-- no call is refused, or the one of this number
abbrev free : Space → Way
free space = record { space = space; refused = None }

abbrev cut_at : Space → ℕ → Way
cut_at space call = record { space = space; refused = Some call }

abbrev found : Space → List ℕ → Part → Translated
found space memory part = translated part (walked_over space.outer memory space.paging (access_of part)).answer (walked_over space.outer memory space.paging (access_of part)).memory

one_more : (a b : ℕ) → a + 1 ≤ b → a ≤ b
one_more a b h = omega (arith, h)

not_it : (calls last call : ℕ) → calls + 1 ≤ last → last ≤ call → (call == calls) ≡ false
not_it calls last call h k = grind (arith, nat_tests, h, k)

-- calls that are granted only grow in number
pub calls_grow : (space : Space) (board : Board) (memory frames : List ℕ) (c : Course) → board.calls ≤ (play (free space) board memory frames c).board.calls
calls_grow space board memory frames (Done vcpu stepped) = omega arith
calls_grow space board memory frames (Release next) = calls_grow space board memory [] next
calls_grow space board memory frames (Translate part next) =
    one_more board.calls _ (calls_grow space (called false board) (walked_over space.outer memory space.paging (access_of part)).memory (frames_after frames (found space memory part)) (next (numbered (length frames) (found space memory part))))
calls_grow space board memory frames (Read number address count next) = calls_grow space board memory frames (next (take count (drop (place_in (slice_index frames number) address) memory)))
calls_grow space board memory frames (Write number address bytes next) = calls_grow space board (put_at memory (place_in (slice_index frames number) address) bytes) frames next
calls_grow space board memory frames (Look address count next) = calls_grow space board memory frames (next (bytes_at memory address count))
calls_grow space board memory frames (Drop flush next) =
    one_more board.calls _ (calls_grow space (called false board) memory frames (next true))
calls_grow space board memory frames (In port width next) = calls_grow space (with_bus board (bus_after_read board.bus port)) memory frames (next (value_read (device_of board.bus port) width))
calls_grow space board memory frames (Out write next) =
    one_more board.calls _ (calls_grow space (called false (with_out false board write)) memory frames (next true))
calls_grow space board memory frames (ApicRead offset event next) = calls_grow space board memory frames (next (read_answer (register_read board.apic offset event)))
calls_grow space board memory frames (ApicWrite offset value event next) = calls_grow space (board_after (register_written board.apic offset value event) board) memory frames (next (written_answer (register_written board.apic offset value event)))
calls_grow space board memory frames (Take next) = calls_grow space (with_apic board (taken board.apic)) memory frames next
calls_grow space board memory frames (Priority tpr next) = calls_grow space (with_apic board (prioritized tpr board.apic)) memory frames next

pub granted : (space : Space) (call : ℕ) (board : Board) (memory frames : List ℕ) (c : Course) → (play (free space) board memory frames c).board.calls ≤ call → play (cut_at space call) board memory frames c ≡ play (free space) board memory frames c
granted space call board memory frames (Done vcpu stepped) h = refl
granted space call board memory frames (Release next) h = granted space call board memory [] next h
granted space call board memory frames (Translate part next) h =
    ap (λ (r : Bool). after (told_of space memory (access_of part)) (play (cut_at space call) (called r board) (walked_over space.outer memory space.paging (access_of part)).memory (frames_after frames (heard r (found space memory part))) (next (numbered (length frames) (heard r (found space memory part)))))) (not_it board.calls _ call (calls_grow space (called false board) (walked_over space.outer memory space.paging (access_of part)).memory (frames_after frames (found space memory part)) (next (numbered (length frames) (found space memory part)))) h)
    ∙ ap (after (told_of space memory (access_of part))) (granted space call (called false board) (walked_over space.outer memory space.paging (access_of part)).memory (frames_after frames (found space memory part)) (next (numbered (length frames) (found space memory part))) h)
granted space call board memory frames (Read number address count next) h = granted space call board memory frames (next (take count (drop (place_in (slice_index frames number) address) memory))) h
granted space call board memory frames (Write number address bytes next) h = granted space call board (put_at memory (place_in (slice_index frames number) address) bytes) frames next h
granted space call board memory frames (Look address count next) h = granted space call board memory frames (next (bytes_at memory address count)) h
granted space call board memory frames (Drop flush next) h =
    ap (λ (r : Bool). after (Flushed flush) (play (cut_at space call) (called r board) memory frames (next (not r)))) (not_it board.calls _ call (calls_grow space (called false board) memory frames (next true)) h)
    ∙ ap (after (Flushed flush)) (granted space call (called false board) memory frames (next true) h)
granted space call board memory frames (In port width next) h = granted space call (with_bus board (bus_after_read board.bus port)) memory frames (next (value_read (device_of board.bus port) width)) h
granted space call board memory frames (Out write next) h =
    ap (λ (r : Bool). play (cut_at space call) (called r (with_out r board write)) memory frames (next (not r))) (not_it board.calls _ call (calls_grow space (called false (with_out false board write)) memory frames (next true)) h)
    ∙ granted space call (called false (with_out false board write)) memory frames (next true) h
granted space call board memory frames (ApicRead offset event next) h = granted space call board memory frames (next (read_answer (register_read board.apic offset event))) h
granted space call board memory frames (ApicWrite offset value event next) h = granted space call (board_after (register_written board.apic offset value event) board) memory frames (next (written_answer (register_written board.apic offset value event))) h
granted space call board memory frames (Take next) h = granted space call (with_apic board (taken board.apic)) memory frames next h
granted space call board memory frames (Priority tpr next) h = granted space call (with_apic board (prioritized tpr board.apic)) memory frames next h
