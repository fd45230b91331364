-- The course of a user row: its accesses, in memory or at a register of the local APIC, and what it does.
use Rattle.std.specs.Prelude.{ℕ, ◌+◌, ◌%◌, ◌^◌, ◌==◌, List, [], ◌∷◌, Bool, true, false, ◌&&◌, if◌then◌else◌, Option, None, Result, Ok, Err, slice_index, slice_set}
use Rattle.svm_model.specs.Turn.Accesses.{Piece, Words, data_part, no_values, piece_read, planned_accesses, refusal_of, results_written, with_place, word_in}
use Rattle.svm_model.specs.Instructions.Apply.{applied}
use Rattle.svm_model.specs.Turn.Control.{Control, offers_apic}
use Rattle.svm_model.specs.Turn.Course.{Course, Release, ApicRead, ApicWrite}
use Rattle.svm_model.specs.Instructions.Exceptions.{invalid_opcode}
use Rattle.svm_model.specs.Turn.Faults.{Came, came, leaves}
use Rattle.svm_model.specs.declared.vcpus.Vcpu.{Vcpu}
use Rattle.svm_model.specs.Instructions.Locking.{lock_is_undefined}
use Rattle.svm_model.specs.Instructions.Operands.{State, state}
use Rattle.svm_model.specs.Turn.Outsides.{Doing}
use Rattle.svm_model.specs.Instructions.Planning.{planned}
use Rattle.svm_model.specs.Memory.RegisterFile.{is_user}
use Rattle.svm_model.specs.declared.names.End.TheVariants.{ApicAccess}
use Rattle.svm_model.specs.declared.rows.Form.{Form}
use Rattle.svm_model.specs.declared.rows.Form.TheVariants as form
use Rattle.svm_model.specs.declared.rows.PlannedAccess.{PlannedAccess}
use Rattle.svm_model.specs.declared.rows.Row.{Row as Instruction}
use Rattle.svm_model.specs.declared.rows.Width.{Width}
use Rattle.svm_model.specs.declared.rows.Width.TheVariants.{W32}
use Rattle.svm_model.specs.declared.traps.Trap.{Trap}
use Rattle.svm_model.specs.declared.turns.ApicAnswer.{ApicAnswer}
use Rattle.svm_model.specs.declared.turns.ApicAnswer.TheVariants.{Value, Stored, Unoffered, Before, Behind}
use Rattle.svm_model.specs.declared.turns.Place.{Place}
use Rattle.svm_model.specs.declared.turns.Place.TheVariants.{Memory, Register}
use Rattle.svm_model.specs.declared.turns.Stepped.TheVariants.{Went}
use Rattle.svm_model.specs.declared.turns.Stop.{Stop}
use Rattle.svm_model.specs.declared.turns.Stop.TheVariants as stop

-- the next instruction
abbrev pub rip_after : Vcpu → ℕ → ℕ
rip_after vcpu size = (vcpu.registers.rip + size) % 2 ^ 64

abbrev pub raised : Trap → Result Came Stop
raised trap = Err (stop.Trap trap)

-- User rows.

-- the vcpu behind a user row
abbrev pub after_row : Vcpu → State → Vcpu
after_row vcpu s = record vcpu { registers = record s.registers { shadow = false } }

-- what a user row gives: its results are written, or it faults
abbrev pub on_applied : Vcpu → List PlannedAccess → List ℕ → (Result Came Stop → Course) → Result State Trap → Course
on_applied vcpu plan numbers next (Ok s) = results_written 0 plan numbers s.results (next (Ok (came (after_row vcpu s) Went)))
on_applied vcpu plan numbers next (Err trap) = next (raised trap)

abbrev pub applied_to : Doing → List ℕ → Result State Trap
applied_to d values = applied d.row d.next_rip values (state d.vcpu.registers no_values)

abbrev pub on_values : Doing → List PlannedAccess → (Result Came Stop → Course) → Result Words Stop → Course
on_values d plan next (Ok read) = on_applied d.vcpu plan read.numbers next (applied_to d read.values)
on_values d plan next (Err reason) = next (Err reason)

-- a user row with its planned accesses
unfoldable pub plain_row : Doing → List PlannedAccess → (Result Came Stop → Course) → Course
plain_row d plan next = planned_accesses (is_user d.vcpu.registers) plan (on_values d plan next)

-- The page of the local APIC: reached by MOV of 32 bits from and to it, at a multiple of 16 (volume 2, 'Accessing APIC
-- Registers'). Such a row has one access, which lies in one page: in memory, or at a register.

unfoldable pub is_apic_move : Form → Bool
is_apic_move form.Mov89 = true
is_apic_move form.Mov8B = true
is_apic_move form.MovC7 = true
is_apic_move _ = false

abbrev pub width_is_32 : Width → Bool
width_is_32 W32 = true
width_is_32 _ = false

abbrev pub apic_end : ℕ → Result Came Stop
apic_end offset = Err (stop.Ended (ApicAccess offset))

-- a processor that serves the register may leave the guest before the access or behind the row
abbrev pub on_register_read : Doing → ℕ → (Result Came Stop → Course) → (ℕ → Course) → ApicAnswer → Course
on_register_read d offset next more (Value value) = more value
on_register_read d offset next more Stored = next (apic_end offset)
on_register_read d offset next more Unoffered = next (apic_end offset)
on_register_read d offset next more (Before exit) = next (Ok (leaves d.vcpu exit None))
on_register_read d offset next more (Behind exit) = next (Ok (leaves d.vcpu exit None))

abbrev pub on_register_written : Doing → ℕ → Vcpu → ApicAnswer → Result Came Stop
on_register_written d offset vcpu (Value value) = apic_end offset
on_register_written d offset vcpu Stored = Ok (came vcpu Went)
on_register_written d offset vcpu Unoffered = apic_end offset
on_register_written d offset vcpu (Before exit) = Ok (leaves d.vcpu exit None)
on_register_written d offset vcpu (Behind exit) = Ok (leaves vcpu exit None)

-- MOV never faults
abbrev pub register_written : Doing → ℕ → (Result Came Stop → Course) → Result State Trap → Course
register_written d offset next (Err trap) = next (raised trap)
register_written d offset next (Ok s) =
    ApicWrite offset (slice_index s.results 0 % 2 ^ 32) d.facts.event (λ answer. next (on_register_written d offset (after_row d.vcpu s) answer))

unfoldable pub register_applied : Doing → ℕ → (Result Came Stop → Course) → Course
register_applied d value next = on_applied d.vcpu [] no_values next (applied_to d (slice_set no_values 0 value))

abbrev pub register_read : Doing → ℕ → (Result Came Stop → Course) → Course
register_read d offset next = ApicRead offset d.facts.event (on_register_read d offset next (λ value. register_applied d value next))

abbrev pub is_reading : Form → Bool
is_reading form.Mov8B = true
is_reading _ = false

unfoldable pub at_register : Doing → ℕ → (Result Came Stop → Course) → Course
at_register d offset next =
    if is_reading d.row.form then register_read d offset next else register_written d offset next (applied_to d no_values)

-- the one access of such a row is in memory, or at a register
abbrev pub on_piece : Doing → PlannedAccess → (Result Came Stop → Course) → Piece → Course
on_piece d a next piece =
    on_applied d.vcpu (a ∷ []) (slice_set no_values 0 piece.number) next (applied_to d (slice_set no_values 0 (word_in piece).word))

abbrev pub on_place : Doing → PlannedAccess → (Result Came Stop → Course) → Result Place Stop → Course
on_place d a next (Ok (Memory number)) = piece_read a number a.address a.length (on_piece d a next)
on_place d a next (Ok (Register offset)) = at_register d offset next
on_place d a next (Err reason) = next (Err reason)

unfoldable pub apic_row : Doing → PlannedAccess → (Result Came Stop → Course) → Course
apic_row d a next = Release (with_place (data_part (is_user d.vcpu.registers) a a.address) (refusal_of a) (on_place d a next))

-- a row that may reach a register by this access
abbrev pub may_reach : Option Control → Instruction → PlannedAccess → Bool
may_reach control row a = is_apic_move row.form && width_is_32 row.width && (a.address % 16 == 0) && offers_apic control

abbrev pub user_accesses : Doing → List PlannedAccess → (Result Came Stop → Course) → Course
user_accesses d [] next = plain_row d [] next
user_accesses d (a ∷ []) next = if may_reach d.control d.row a then apic_row d a next else plain_row d (a ∷ []) next
user_accesses d (a ∷ b ∷ plan) next = plain_row d (a ∷ b ∷ plan) next

-- a LOCK prefix where none may stand is found before the first access
unfoldable pub user_row : Doing → (Result Came Stop → Course) → Course
user_row d next =
    if lock_is_undefined d.row then next (raised invalid_opcode)
    else user_accesses d (planned d.row d.vcpu.registers d.next_rip) next
