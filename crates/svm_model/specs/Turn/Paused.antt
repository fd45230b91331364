-- A turn in its midst: the answers that its course has had, what is left of the course after them, and the turn as far as it
-- went. A processor that is stopped by a missing translation, a port or a register of the APIC is taken up from here: by the
-- answers alone, since a course sees words.
use Rattle.std.specs.Prelude.{ℕ, suc, zero, List, [], ◌∷◌, Bool, false, not, Result, Ok, length, take, drop, slice_index}
use Rattle.svm_model.specs.Machine.Apic.{taken}
use Rattle.svm_model.specs.Machine.ApicRegisters.{register_read, register_written}
use Rattle.svm_model.specs.Machine.Bus.{device_of, value_read, bus_after_read}
use Rattle.svm_model.specs.Memory.Bytes.{bytes_at, put_at}
use Rattle.svm_model.specs.Turn.Course.{Board, Course, Done, Release, Translate, Read, Write, Look, Drop, In, Out, ApicRead, ApicWrite, Take, Priority, Told, Flushed, Turned, Way, after, told_of}
use Rattle.svm_model.specs.Turn.Play.{access_of, board_after, called, frames_after, heard, numbered, place_in, play, read_answer, prioritized, refuses, translated, with_apic, with_bus, with_out, written_answer}
use Rattle.svm_model.specs.Memory.NestedPaging.{walked_over}
use Rattle.svm_model.specs.declared.turns.ApicAnswer.{ApicAnswer}
use Rattle.svm_model.specs.declared.turns.ApicAnswer.TheVariants.{Unoffered}
use Rattle.svm_model.specs.declared.turns.Translation.{Translation}
use Rattle.svm_model.specs.declared.turns.Translation.TheVariants.{OnApic}
use Rattle.svm_model.specs.declared.windows.OutsideMemory.{OutsideMemory}

-- what a course was told; with a translation go the frames that are held behind it
pub data Answer : Type 0 where
  Found : (translation : Translation) (frames : List ℕ) → Answer
  Bytes : (bytes : List ℕ) → Answer
  Looked : (found : Result (List ℕ) OutsideMemory) → Answer
  Input : (value : ℕ) → Answer
  Granted : (granted : Bool) → Answer
  Register : (answer : ApicAnswer) → Answer

-- an answer as each step takes it; one of another kind, which never comes, is read as a plain one
abbrev pub translation_in : Answer → Translation
translation_in (Found translation frames) = translation
translation_in _ = OnApic

abbrev pub bytes_in : Answer → List ℕ
bytes_in (Bytes bytes) = bytes
bytes_in _ = []

abbrev pub found_in : Answer → Result (List ℕ) OutsideMemory
found_in (Looked found) = found
found_in _ = Ok []

abbrev pub input_in : Answer → ℕ
input_in (Input value) = value
input_in _ = 0

abbrev pub granted_in : Answer → Bool
granted_in (Granted granted) = granted
granted_in _ = false

abbrev pub register_in : Answer → ApicAnswer
register_in (Register answer) = answer
register_in _ = Unoffered

-- what is left of a course after these answers
abbrev pub left : List Answer → Course → Course
left [] course = course
left (a ∷ answers) (Done vcpu stepped) = Done vcpu stepped
left (a ∷ answers) (Release next) = left (a ∷ answers) next
left (a ∷ answers) (Translate part next) = left answers (next (translation_in a))
left (a ∷ answers) (Read number address count next) = left answers (next (bytes_in a))
left (a ∷ answers) (Write number address bytes next) = left (a ∷ answers) next
left (a ∷ answers) (Look address count next) = left answers (next (found_in a))
left (a ∷ answers) (Drop flush next) = left answers (next (granted_in a))
left (a ∷ answers) (In port width next) = left answers (next (input_in a))
left (a ∷ answers) (Out write next) = left answers (next (granted_in a))
left (a ∷ answers) (ApicRead offset event next) = left answers (next (register_in a))
left (a ∷ answers) (ApicWrite offset value event next) = left answers (next (register_in a))
left (a ∷ answers) (Take next) = left (a ∷ answers) next
left (a ∷ answers) (Priority tpr next) = left (a ∷ answers) next

-- A turn as far as it went: what stands about the vcpu, memory, the frames held, what was told, the answers, and what is left.
pub record Cut : Type 0 where
  pub board : Board
  pub memory : List ℕ
  pub frames : List ℕ
  pub told : List Told
  pub answers : List Answer
  pub course : Course

abbrev pub cut_here : Board → List ℕ → List ℕ → Course → Cut
cut_here board memory frames course = record {
  board = board;
  memory = memory;
  frames = frames;
  told = [];
  answers = [];
  course = course;
}

abbrev pub answered : Answer → Cut → Cut
answered answer cut = record cut { answers = answer ∷ cut.answers }

abbrev pub told_before : Told → Cut → Cut
told_before told cut = record cut { told = told ∷ cut.told }

-- the turn cut off after so many answers, or where it ends before
abbrev pub cut_after : ℕ → Way → Board → List ℕ → List ℕ → Course → Cut
cut_after zero way board memory frames course = cut_here board memory frames course
cut_after (suc n) way board memory frames (Done vcpu stepped) = cut_here board memory frames (Done vcpu stepped)
cut_after (suc n) way board memory frames (Release next) = cut_after (suc n) way board memory [] next
cut_after (suc n) way board memory frames (Translate part next) =
    let reached = walked_over way.space.outer memory way.space.paging (access_of part) in
    let refused = refuses way board in
    let found = heard refused (translated part reached.answer reached.memory) in
    let held = frames_after frames found in
    let answer = numbered (length frames) found in
    told_before (told_of way.space memory (access_of part))
    (answered (Found answer held) (cut_after n way (called refused board) reached.memory held (next answer)))
cut_after (suc n) way board memory frames (Read number address count next) =
    let bytes = take count (drop (place_in (slice_index frames number) address) memory) in
    answered (Bytes bytes) (cut_after n way board memory frames (next bytes))
cut_after (suc n) way board memory frames (Write number address bytes next) =
    cut_after (suc n) way board (put_at memory (place_in (slice_index frames number) address) bytes) frames next
cut_after (suc n) way board memory frames (Look address count next) =
    let found = bytes_at memory address count in answered (Looked found) (cut_after n way board memory frames (next found))
cut_after (suc n) way board memory frames (Drop flush next) =
    let refused = refuses way board in
    told_before (Flushed flush) (answered (Granted (not refused)) (cut_after n way (called refused board) memory frames (next (not refused))))
cut_after (suc n) way board memory frames (In port width next) =
    let value = value_read (device_of board.bus port) width in
    answered (Input value) (cut_after n way (with_bus board (bus_after_read board.bus port)) memory frames (next value))
cut_after (suc n) way board memory frames (Out write next) =
    let refused = refuses way board in
    answered (Granted (not refused)) (cut_after n way (called refused (with_out refused board write)) memory frames (next (not refused)))
cut_after (suc n) way board memory frames (ApicRead offset event next) =
    let answer = read_answer (register_read board.apic offset event) in answered (Register answer) (cut_after n way board memory frames (next answer))
cut_after (suc n) way board memory frames (ApicWrite offset value event next) =
    let written = register_written board.apic offset value event in
    answered (Register (written_answer written)) (cut_after n way (board_after written board) memory frames (next (written_answer written)))
cut_after (suc n) way board memory frames (Take next) = cut_after (suc n) way (with_apic board (taken board.apic)) memory frames next
cut_after (suc n) way board memory frames (Priority tpr next) =
    cut_after (suc n) way (with_apic board (prioritized tpr board.apic)) memory frames next

-- what was told before a turn's end
abbrev pub after_all : List Told → Turned → Turned
after_all [] turned = turned
after_all (told ∷ rest) turned = after told (after_all rest turned)

-- the turn taken up from a cut
abbrev pub taken_up : Way → Cut → Turned
taken_up way cut = after_all cut.told (play way cut.board cut.memory cut.frames cut.course)
