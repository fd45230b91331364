-- What a course means: it is played over memory, a board and the frames of the parts that were translated so far, and
-- tells what was done.
use Rattle.std.specs.Prelude.{ℕ, ◌+◌, ◌*◌, ◌/◌, ◌%◌, ◌^◌, ◌==◌, ◌&&◌, ◌||◌, nat_lt, List, [], ◌∷◌, ◌++◌, Bool, false, not, if◌then◌else◌, Option, Some, None, length, take, drop, slice_index}
use Rattle.svm_model.specs.Machine.Apic.{Apic, taken}
use Rattle.svm_model.specs.Machine.ApicRegisters.{Written, register_read, register_written}
use Rattle.svm_model.specs.Machine.Bus.{Bus, device_of, value_read, bus_after_read, bus_after_write}
use Rattle.svm_model.specs.Memory.Bytes.{bytes_at, put_at}
use Rattle.svm_model.specs.Memory.NestedPaging.{walked_over}
use Rattle.svm_model.specs.declared.apics.Ipi.{Ipi}
use Rattle.svm_model.specs.declared.names.Access.{Access}
use Rattle.svm_model.specs.declared.page_tables.Nested.{Nested}
use Rattle.svm_model.specs.declared.page_tables.Nested.TheVariants.{Leaf, Bar, PageFault, NestedFault as Missed, Ended}
use Rattle.svm_model.specs.declared.ports.PortWrite.{PortWrite}
use Rattle.svm_model.specs.declared.turns.ApicAnswer.{ApicAnswer}
use Rattle.svm_model.specs.declared.turns.ApicAnswer.TheVariants.{Value, Stored, Unoffered}
use Rattle.svm_model.specs.declared.turns.Part.{Part}
use Rattle.svm_model.specs.declared.turns.Translated.{Translated}
use Rattle.svm_model.specs.declared.turns.Translated.TheVariants.{Here as InMemory, OnApic as AtApic, Faults as Unmapped, NestedFault as UnmappedOutside, Outside as Beyond}
use Rattle.svm_model.specs.declared.turns.Translation.{Translation}
use Rattle.svm_model.specs.declared.turns.Translation.TheVariants.{Here, OnApic, Faults, NestedFault, Outside}
use Rattle.svm_model.specs.Turn.Course.{Course, Done, Release, Translate, Read, Write, Look, Drop, In, Out, ApicRead, ApicWrite, Take, Priority, Way, Board, Flushed, told_of, Turned, after}

abbrev pub access_of : Part → Access
access_of part = record { page = record { 0 = part.address / 4096 }; kind = part.kind; user = part.user }

-- the physical address of a linear one in a page's frame
abbrev pub place_in : ℕ → ℕ → ℕ
place_in frame address = 4096 * frame + address % 4096

-- the frame of the APIC page, FEE00h
abbrev pub apic_frame : ℕ
apic_frame = 0xFEE00

-- where a part lies, by its frame
abbrev pub located : Part → ℕ → List ℕ → Translated
located part frame memory =
    if frame == apic_frame then AtApic
    else if nat_lt (4096 * frame) (length memory) then InMemory (record { 0 = frame })
    else Beyond (place_in frame part.address)

-- the address of a nested fault: that of a table entry (bit 33 of the code), or of the part's first byte in its final page
abbrev pub missed_at : Part → ℕ → ℕ → ℕ
missed_at part code address = if nat_lt code (2 ^ 33) then address + part.address % 4096 else address

-- where a part lies, by the walk for it
abbrev pub translated : Part → Nested → List ℕ → Translated
translated part (Leaf leaf guest_frame changed) memory = located part leaf.frame.0 memory
translated part (Bar leaf changed) memory = AtApic
translated part (PageFault code) memory = Unmapped code
translated part (Missed code address) memory = UnmappedOutside code (missed_at part code address)
translated part (Ended outside) memory = Beyond outside.address

-- Outward calls.

abbrev pub is_refused : Option ℕ → ℕ → Bool
is_refused None number = false
is_refused (Some refused) number = refused == number

-- the next outward call is refused
abbrev pub refuses : Way → Board → Bool
refuses way board = is_refused way.refused board.calls

-- a call that is granted counts; where one is refused the turn is cut off
abbrev pub called : Bool → Board → Board
called refused board = record board {
  calls = if refused then board.calls else board.calls + 1;
  cut = refused || board.cut;
}

-- What a course learns of a translation, where so many parts have a number.
abbrev pub numbered : ℕ → Translated → Translation
numbered number (InMemory frame) = Here number
numbered number AtApic = OnApic
numbered number (Unmapped code) = Faults code
numbered number (UnmappedOutside code address) = NestedFault code address
numbered number (Beyond address) = Outside address

-- where the notice of the access is refused the course goes on as if its guest ended there, and is at its end
abbrev pub heard : Bool → Translated → Translated
heard refused found = if refused then Beyond 0 else found

-- the frames behind a translation
abbrev pub frames_after : List ℕ → Translated → List ℕ
frames_after frames (InMemory frame) = frames ++ frame.0 ∷ []
frames_after frames AtApic = frames
frames_after frames (Unmapped code) = frames
frames_after frames (UnmappedOutside code address) = frames
frames_after frames (Beyond address) = frames

-- What stands about a vcpu, behind a step.

-- the bus after a write to a port, where it takes it
abbrev pub bus_after_out : Bool → Bus → PortWrite → Bus
bus_after_out refused bus write = if refused then bus else bus_after_write bus write

abbrev pub with_bus : Board → Bus → Board
with_bus board bus = record board { bus = bus }

-- the write that was refused, unless another call was refused before it
abbrev pub denied_after_out : Bool → Board → PortWrite → Option PortWrite
denied_after_out refused board write = if refused && not board.cut then Some write else board.denied

abbrev pub with_out : Bool → Board → PortWrite → Board
with_out refused board write = record board {
  bus = bus_after_out refused board.bus write;
  denied = denied_after_out refused board write;
}

abbrev pub read_answer : Option ℕ → ApicAnswer
read_answer None = Unoffered
read_answer (Some value) = Value value

abbrev pub written_answer : Option Written → ApicAnswer
written_answer None = Unoffered
written_answer (Some written) = Stored

-- the APIC, and what it has sent, behind a write
abbrev pub apic_after : Option Written → Apic → Apic
apic_after None apic = apic
apic_after (Some written) apic = written.apic

abbrev pub sent_after : Option Written → Option Ipi → Option Ipi
sent_after None sent = sent
sent_after (Some written) sent = written.sent

abbrev pub board_after : Option Written → Board → Board
board_after written board = record board { apic = apic_after written board.apic; sent = sent_after written board.sent }

abbrev pub with_apic : Board → Apic → Board
with_apic board apic = record board { apic = apic }

abbrev pub prioritized : ℕ → Apic → Apic
prioritized tpr apic = record apic { tpr = tpr }

-- the meaning of a course over what stands about the vcpu and memory, with the frames of the parts translated so far
abbrev pub play : Way → Board → List ℕ → List ℕ → Course → Turned
play way board memory frames (Done vcpu stepped) = record { memory = memory; board = board; vcpu = vcpu; stepped = stepped; told = [] }
play way board memory frames (Release next) = play way board memory [] next
play way board memory frames (Translate part next) =
    let reached = walked_over way.space.outer memory way.space.paging (access_of part) in
    let refused = refuses way board in
    let found = heard refused (translated part reached.answer reached.memory) in
    after (told_of way.space memory (access_of part))
    (play way (called refused board) reached.memory (frames_after frames found) (next (numbered (length frames) found)))
play way board memory frames (Read number address count next) =
    play way board memory frames (next (take count (drop (place_in (slice_index frames number) address) memory)))
play way board memory frames (Write number address bytes next) =
    play way board (put_at memory (place_in (slice_index frames number) address) bytes) frames next
play way board memory frames (Look address count next) = play way board memory frames (next (bytes_at memory address count))
play way board memory frames (Drop flush next) =
    let refused = refuses way board in after (Flushed flush) (play way (called refused board) memory frames (next (not refused)))
play way board memory frames (In port width next) =
    play way (with_bus board (bus_after_read board.bus port)) memory frames (next (value_read (device_of board.bus port) width))
play way board memory frames (Out write next) =
    let refused = refuses way board in
    play way (called refused (with_out refused board write)) memory frames (next (not refused))
play way board memory frames (ApicRead offset event next) =
    play way board memory frames (next (read_answer (register_read board.apic offset event)))
play way board memory frames (ApicWrite offset value event next) =
    let written = register_written board.apic offset value event in
    play way (board_after written board) memory frames (next (written_answer written))
play way board memory frames (Take next) = play way (with_apic board (taken board.apic)) memory frames next
play way board memory frames (Priority tpr next) =
    play way (with_apic board (prioritized tpr board.apic)) memory frames next
