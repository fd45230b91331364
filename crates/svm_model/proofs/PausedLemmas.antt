-- What is left of a turn leads where the whole leads.
use Rattle.std.proofs.Common.{◌≡◌, ◌∙◌, ℕ, suc, zero, List, [], ◌∷◌, length, ap, sym, refl, arith}
use Rattle.std.specs.Prelude.{not, take, drop, slice_index}
use Rattle.svm_model.specs.Machine.Apic.{taken}
use Rattle.svm_model.specs.Machine.ApicRegisters.{register_read, register_written}
use Rattle.svm_model.specs.Machine.Bus.{device_of, value_read, bus_after_read}
use Rattle.svm_model.specs.Memory.Bytes.{bytes_at, put_at}
use Rattle.svm_model.specs.Turn.Course.{Board, Course, Done, Release, Translate, Read, Write, Look, Drop, In, Out, ApicRead, ApicWrite, Take, Priority, Flushed, Way, after, told_of}
use Rattle.svm_model.specs.Turn.Play.{access_of, board_after, called, frames_after, heard, numbered, place_in, play, read_answer, prioritized, refuses, translated, with_apic, with_bus, with_out, written_answer}
use Rattle.svm_model.specs.Memory.NestedPaging.{walked_over}
use Rattle.svm_model.specs.Turn.Paused.{Answer, Found, Bytes, Looked, Input, Granted, Register, cut_after, left, taken_up}

pub taken_up-whole : (n : ℕ) (way : Way) (board : Board) (memory frames : List ℕ) (course : Course) → play way board memory frames course ≡ taken_up way (cut_after n way board memory frames course)
taken_up-whole zero way board memory frames course = refl
taken_up-whole (suc n) way board memory frames (Done vcpu stepped) = refl
taken_up-whole (suc n) way board memory frames (Release next) = taken_up-whole (suc n) way board memory [] next
taken_up-whole (suc n) way board memory frames (Translate part next) =
    let reached = walked_over way.space.outer memory way.space.paging (access_of part) in
    let refused = refuses way board in
    let found = heard refused (translated part reached.answer reached.memory) in
    ap (λ turned. after (told_of way.space memory (access_of part)) turned)
    (taken_up-whole n way (called refused board) reached.memory (frames_after frames found) (next (numbered (length frames) found)))
taken_up-whole (suc n) way board memory frames (Read number address count next) =
    taken_up-whole n way board memory frames (next (take count (drop (place_in (slice_index frames number) address) memory)))
taken_up-whole (suc n) way board memory frames (Write number address bytes next) =
    taken_up-whole (suc n) way board (put_at memory (place_in (slice_index frames number) address) bytes) frames next
taken_up-whole (suc n) way board memory frames (Look address count next) =
    taken_up-whole n way board memory frames (next (bytes_at memory address count))
taken_up-whole (suc n) way board memory frames (Drop flush next) =
    let refused = refuses way board in
    ap (λ turned. after (Flushed flush) turned) (taken_up-whole n way (called refused board) memory frames (next (not refused)))
taken_up-whole (suc n) way board memory frames (In port width next) =
    taken_up-whole n way (with_bus board (bus_after_read board.bus port)) memory frames (next (value_read (device_of board.bus port) width))
taken_up-whole (suc n) way board memory frames (Out write next) =
    let refused = refuses way board in
    taken_up-whole n way (called refused (with_out refused board write)) memory frames (next (not refused))
taken_up-whole (suc n) way board memory frames (ApicRead offset event next) =
    taken_up-whole n way board memory frames (next (read_answer (register_read board.apic offset event)))
taken_up-whole (suc n) way board memory frames (ApicWrite offset value event next) =
    let written = register_written board.apic offset value event in
    taken_up-whole n way (board_after written board) memory frames (next (written_answer written))
taken_up-whole (suc n) way board memory frames (Take next) =
    taken_up-whole (suc n) way (with_apic board (taken board.apic)) memory frames next
taken_up-whole (suc n) way board memory frames (Priority tpr next) =
    taken_up-whole (suc n) way (with_apic board (prioritized tpr board.apic)) memory frames next

-- The answers are all that is needed: what is left of the course is what they leave of it.

shorter : (n : ℕ) (a : Answer) (answers : List Answer) → length (a ∷ answers) ≡ suc n → length answers ≡ n
shorter n a answers e = omega (arith, e)

-- a step without an answer is stepped over where there are answers
skips : (n : ℕ) (step next : Course) (answers : List Answer) → ((a : Answer) (rest : List Answer) → left (a ∷ rest) step ≡ left (a ∷ rest) next) → length answers ≡ suc n → left answers step ≡ left answers next
skips n step next [] h e = absurd (omega (arith, e))
skips n step next (a ∷ rest) h e = h a rest

pub left-cut : (n : ℕ) (way : Way) (board : Board) (memory frames : List ℕ) (course : Course) →
    length (cut_after n way board memory frames course).answers ≡ n →
    (cut_after n way board memory frames course).course ≡ left (cut_after n way board memory frames course).answers course
left-cut zero way board memory frames course e = refl
left-cut (suc n) way board memory frames (Done vcpu stepped) e = refl
left-cut (suc n) way board memory frames (Release next) e =
    left-cut (suc n) way board memory [] next e ∙ sym (skips n (Release next) next (cut_after (suc n) way board memory [] next).answers (λ a rest. refl) e)
left-cut (suc n) way board memory frames (Translate part next) e =
    let reached = walked_over way.space.outer memory way.space.paging (access_of part) in
    let refused = refuses way board in
    let found = heard refused (translated part reached.answer reached.memory) in
    let answer = numbered (length frames) found in
    left-cut n way (called refused board) reached.memory (frames_after frames found) (next answer) (shorter n (Found answer (frames_after frames found)) _ e)
left-cut (suc n) way board memory frames (Read number address count next) e =
    let bytes = take count (drop (place_in (slice_index frames number) address) memory) in
    left-cut n way board memory frames (next bytes) (shorter n (Bytes bytes) _ e)
left-cut (suc n) way board memory frames (Write number address bytes next) e =
    let m = put_at memory (place_in (slice_index frames number) address) bytes in
    left-cut (suc n) way board m frames next e ∙ sym (skips n (Write number address bytes next) next (cut_after (suc n) way board m frames next).answers (λ a rest. refl) e)
left-cut (suc n) way board memory frames (Look address count next) e =
    left-cut n way board memory frames (next (bytes_at memory address count)) (shorter n (Looked (bytes_at memory address count)) _ e)
left-cut (suc n) way board memory frames (Drop flush next) e =
    let refused = refuses way board in
    left-cut n way (called refused board) memory frames (next (not refused)) (shorter n (Granted (not refused)) _ e)
left-cut (suc n) way board memory frames (In port width next) e =
    let value = value_read (device_of board.bus port) width in
    left-cut n way (with_bus board (bus_after_read board.bus port)) memory frames (next value) (shorter n (Input value) _ e)
left-cut (suc n) way board memory frames (Out write next) e =
    let refused = refuses way board in
    left-cut n way (called refused (with_out refused board write)) memory frames (next (not refused)) (shorter n (Granted (not refused)) _ e)
left-cut (suc n) way board memory frames (ApicRead offset event next) e =
    let answer = read_answer (register_read board.apic offset event) in
    left-cut n way board memory frames (next answer) (shorter n (Register answer) _ e)
left-cut (suc n) way board memory frames (ApicWrite offset value event next) e =
    let written = register_written board.apic offset value event in
    left-cut n way (board_after written board) memory frames (next (written_answer written)) (shorter n (Register (written_answer written)) _ e)
left-cut (suc n) way board memory frames (Take next) e =
    let b = with_apic board (taken board.apic) in
    left-cut (suc n) way b memory frames next e ∙ sym (skips n (Take next) next (cut_after (suc n) way b memory frames next).answers (λ a rest. refl) e)
left-cut (suc n) way board memory frames (Priority tpr next) e =
    let b = with_apic board (prioritized tpr board.apic) in
    left-cut (suc n) way b memory frames next e ∙ sym (skips n (Priority tpr next) next (cut_after (suc n) way b memory frames next).answers (λ a rest. refl) e)

pub ruleset pauses = (taken_up-whole, left-cut)
