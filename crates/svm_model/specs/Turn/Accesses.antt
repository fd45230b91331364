-- The course of accesses to linear memory: each is translated in order, part by part, and read where it is read; the writes
-- come behind the last translation (volume 2, 'Page Translation and Protection'; volume 1, 'Memory Organization'). What comes
-- next learns of a result: what was read, or why the turn stops.
use Rattle.std.specs.Prelude.{ℕ, ◌+◌, ◌-◌, ◌%◌, ◌^◌, nat_le, List, [], ◌∷◌, ◌++◌, Bool, true, false, if◌then◌else◌, Result, Ok, Err, take, drop, replicate, slice_index, slice_set}
use Rattle.svm_model.specs.Memory.Bytes.{value_of_bytes, bytes_of_result}
use Rattle.svm_model.specs.Turn.Course.{Course, Release, Translate, Read, Write}
use Rattle.svm_model.specs.Instructions.Exceptions.{page_fault, general_protection, stack_fault}
use Rattle.svm_model.specs.Memory.RegisterFile.{is_canonical}
use Rattle.svm_model.specs.declared.names.End.TheVariants.{OutsideMemory, ApicAccess}
use Rattle.svm_model.specs.declared.names.Kind.{Kind}
use Rattle.svm_model.specs.declared.names.Kind.TheVariants as kind
use Rattle.svm_model.specs.declared.rows.PlannedAccess.{PlannedAccess}
use Rattle.svm_model.specs.declared.rows.Touch.{Touch}
use Rattle.svm_model.specs.declared.rows.Touch.TheVariants as touch
use Rattle.svm_model.specs.declared.traps.Trap.{Trap}
use Rattle.svm_model.specs.declared.turns.Accessed.{Accessed}
use Rattle.svm_model.specs.declared.turns.Part.{Part}
use Rattle.svm_model.specs.declared.turns.Place.{Place}
use Rattle.svm_model.specs.declared.turns.Place.TheVariants.{Memory, Register}
use Rattle.svm_model.specs.declared.turns.Stop.{Stop}
use Rattle.svm_model.specs.declared.turns.Stop.TheVariants as stop
use Rattle.svm_model.specs.declared.turns.Translation.{Translation}
use Rattle.svm_model.specs.declared.turns.Translation.TheVariants.{Here, OnApic, Faults, NestedFault, Outside}

-- what is read and written is translated as a write
abbrev pub kind_of : Touch → Kind
kind_of touch.Read = kind.Read
kind_of touch.Write = kind.Write
kind_of touch.Update = kind.Write

abbrev pub reads : Touch → Bool
reads touch.Write = false
reads _ = true

abbrev pub writes : Touch → Bool
writes touch.Read = false
writes _ = true

-- an address of the stack that is not canonical is #SS(0)
abbrev pub refusal_of : PlannedAccess → Trap
refusal_of a = if a.stack then stack_fault else general_protection

abbrev pub data_part : Bool → PlannedAccess → ℕ → Part
data_part user a address = record { address = address; kind = kind_of a.touch; user = user }

-- how many bytes are left in a page, from an address on
abbrev pub left_in_page : ℕ → ℕ
left_in_page address = 4096 - address % 4096

-- the access lies in one page
abbrev pub is_in_one_page : PlannedAccess → Bool
is_in_one_page a = nat_le a.length (left_in_page a.address)

-- where the next page begins
abbrev pub in_next_page : PlannedAccess → ℕ
in_next_page a = (a.address + left_in_page a.address) % 2 ^ 64

-- Parts.

-- where a part is, or why the turn stops
abbrev pub place_of : ℕ → Translation → Result Place Stop
place_of address (Here number) = Ok (Memory number)
place_of address OnApic = Ok (Register (address % 4096))
place_of address (Faults code) = Err (stop.Trap (page_fault code address))
place_of address (NestedFault code at) = Err (stop.Nested code at)
place_of address (Outside at) = Err (stop.Ended (OutsideMemory at))

-- A part has to be canonical before it is walked for. Its first byte tells: addresses change from canonical to not only
-- at the end of a page.
unfoldable pub with_place : Part → Trap → (Result Place Stop → Course) → Course
with_place part refusal next =
    if is_canonical part.address then Translate part (λ found. next (place_of part.address found)) else next (Err (stop.Trap refusal))

-- the page of the local APIC is not offered
abbrev pub number_of : Result Place Stop → Result ℕ Stop
number_of (Ok (Memory number)) = Ok number
number_of (Ok (Register offset)) = Err (stop.Ended (ApicAccess offset))
number_of (Err reason) = Err reason

-- the number of a part that is in memory
unfoldable pub with_part : Part → Trap → (Result ℕ Stop → Course) → Course
with_part part refusal next = with_place part refusal (λ place. next (number_of place))

-- bytes that were read in a part of that number
pub record Piece : Type 0 where
  pub bytes : List ℕ
  pub number : ℕ

-- the bytes, where the access reads
unfoldable pub piece_read : PlannedAccess → ℕ → ℕ → ℕ → (Piece → Course) → Course
piece_read a number address count next =
    if reads a.touch then Read number address count (λ bytes. next (record { bytes = bytes; number = number }))
    else next (record { bytes = []; number = number })

abbrev pub on_part : PlannedAccess → ℕ → ℕ → (Result Piece Stop → Course) → Result ℕ Stop → Course
on_part a address count next (Ok number) = piece_read a number address count (λ piece. next (Ok piece))
on_part a address count next (Err reason) = next (Err reason)

-- a part of an access: translated, and read where the access reads
unfoldable pub with_piece : Bool → PlannedAccess → ℕ → ℕ → (Result Piece Stop → Course) → Course
with_piece user a address count next = with_part (data_part user a address) (refusal_of a) (on_part a address count next)

-- Accesses.

abbrev pub word_in : Piece → Accessed
word_in piece = record { word = value_of_bytes piece.bytes; number = piece.number }

abbrev pub accessed : Result Piece Stop → Result Accessed Stop
accessed (Ok piece) = Ok (word_in piece)
accessed (Err reason) = Err reason

abbrev pub joined : Piece → Result Piece Stop → Result Piece Stop
joined front (Ok back) = Ok (record { bytes = front.bytes ++ back.bytes; number = front.number })
joined front (Err reason) = Err reason

abbrev pub then_piece : Bool → PlannedAccess → ℕ → ℕ → (Result Piece Stop → Course) → Result Piece Stop → Course
then_piece user a address count next (Ok front) = with_piece user a address count (λ back. next (joined front back))
then_piece user a address count next (Err reason) = next (Err reason)

-- two parts of an access, one behind the other
unfoldable pub with_two_pieces : Bool → PlannedAccess → ℕ → ℕ → ℕ → (Result Piece Stop → Course) → Course
with_two_pieces user a left address count next = with_piece user a a.address left (then_piece user a address count next)

-- an access: in its page, or in that and the next one
unfoldable pub with_access : Bool → PlannedAccess → (Result Accessed Stop → Course) → Course
with_access user a next =
    if is_in_one_page a then with_piece user a a.address a.length (λ piece. next (accessed piece))
    else with_two_pieces user a (left_in_page a.address) (in_next_page a) (a.length - left_in_page a.address) (λ piece. next (accessed piece))

-- bytes written where an access is, whose first part has this number
unfoldable pub with_written : ℕ → PlannedAccess → List ℕ → Course → Course
with_written number a bytes next =
    if is_in_one_page a then Write number a.address bytes next
    else Write number a.address (take (left_in_page a.address) bytes) (Write (number + 1) (in_next_page a) (drop (left_in_page a.address) bytes) next)

-- a result, where the access writes
unfoldable pub with_result : ℕ → PlannedAccess → ℕ → Course → Course
with_result number a value next = if writes a.touch then with_written number a (bytes_of_result a.length value) next else next

-- Plans.

-- the words that accesses read, and the numbers of their first parts, in the places of the accesses
pub record Words : Type 0 where
  pub values : List ℕ
  pub numbers : List ℕ

-- so many values of 0
abbrev pub no_values : List ℕ
no_values = replicate 8 0

-- what comes behind an access: the others, with its word and number, or the stop
abbrev pub then_on : ℕ → List ℕ → List ℕ → (Result Words Stop → Course) → (List ℕ → List ℕ → Course) → Result Accessed Stop → Course
then_on place values numbers next more (Ok one) = more (slice_set values place one.word) (slice_set numbers place one.number)
then_on place values numbers next more (Err reason) = next (Err reason)

-- the accesses in order, from this place on
unfoldable pub accesses : Bool → ℕ → List PlannedAccess → List ℕ → List ℕ → (Result Words Stop → Course) → Course
accesses user place [] values numbers next = next (Ok (record { values = values; numbers = numbers }))
accesses user place (a ∷ plan) values numbers next =
    with_access user a (then_on place values numbers next (λ v n. accesses user (place + 1) plan v n next))

-- the accesses of a plan, from the first translation on
unfoldable pub planned_accesses : Bool → List PlannedAccess → (Result Words Stop → Course) → Course
planned_accesses user plan next = Release (accesses user 0 plan no_values no_values next)

-- the results, in planned order
unfoldable pub results_written : ℕ → List PlannedAccess → List ℕ → List ℕ → Course → Course
results_written place [] numbers results next = next
results_written place (a ∷ plan) numbers results next =
    with_result (slice_index numbers place) a (slice_index results place) (results_written (place + 1) plan numbers results next)
