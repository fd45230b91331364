-- The course of a system row: the faults that come first, the intercept, the accesses, and what is left.
use Rattle.std.specs.Prelude.{ℕ, ◌+◌, ◌/◌, ◌%◌, ◌^◌, ◌==◌, ◌&&◌, List, Bool, true, false, not, if◌then◌else◌, Option, Some, None, Result, Ok, Err, slice_index}
use Rattle.svm_model.specs.Turn.Accesses.{Words, no_values, planned_accesses}
use Rattle.svm_model.specs.Turn.Control.{Control, facts_under, masks_interrupts}
use Rattle.svm_model.specs.Turn.Course.{ApicRead, Course, Look}
use Rattle.svm_model.specs.Instructions.Exceptions.{invalid_opcode}
use Rattle.svm_model.specs.Turn.Faults.{Came, leaves, unless_exit}
use Rattle.svm_model.specs.Instructions.Guards.{guard_of, refusal, writes_special}
use Rattle.svm_model.specs.declared.guards.Intercept.{Intercept}
use Rattle.svm_model.specs.declared.guards.Intercept.TheVariants.{Ports, Msrs}
use Rattle.svm_model.specs.Svm.Intercepts.{asks_msrs, asks_ports, map_base, msr_exit, msr_place, port_exit, ports_at, ports_count, ports_set, row_exit}
use Rattle.svm_model.specs.Instructions.Locking.{lock_is_undefined}
use Rattle.svm_model.specs.Instructions.Operands.{state, rcx, whole_register}
use Rattle.svm_model.specs.Turn.Outsides.{Doing, coming, with_outside}
use Rattle.svm_model.specs.Instructions.Planning.{planned}
use Rattle.svm_model.specs.Memory.RegisterFile.{is_user}
use Rattle.svm_model.specs.Memory.Bits.{bit, bits_where}
use Rattle.svm_model.specs.Instructions.SystemRows.{system}
use Rattle.svm_model.specs.Instructions.SystemState.{Systemic, port_of, port_bytes}
use Rattle.svm_model.specs.Svm.Vmcb.{Fields}
use Rattle.svm_model.specs.declared.exits.Exit.{Exit}
use Rattle.svm_model.specs.declared.names.End.TheVariants.{OutsideMemory}
use Rattle.svm_model.specs.declared.rows.Op.{Op}
use Rattle.svm_model.specs.declared.rows.Op.TheVariants as op
use Rattle.svm_model.specs.declared.rows.PlannedAccess.{PlannedAccess}
use Rattle.svm_model.specs.declared.rows.Row.{Row}
use Rattle.svm_model.specs.declared.traps.Trap.{Trap}
use Rattle.svm_model.specs.declared.turns.Stop.{Stop}
use Rattle.svm_model.specs.declared.turns.Stop.TheVariants as stop
use Rattle.svm_model.specs.declared.vmcbs.Field.TheVariants as f
use Rattle.svm_model.specs.declared.windows.OutsideMemory.{OutsideMemory as OutsideAt}
use Rattle.svm_model.specs.Turn.UserCourses.{on_register_read, raised}

abbrev pub on_system : Doing → List PlannedAccess → List ℕ → (Result Came Stop → Course) → Result Systemic Trap → Course
on_system d plan numbers next (Ok s) = with_outside d plan numbers s.state.results s.state.registers s.outside next
on_system d plan numbers next (Err trap) = next (raised trap)

abbrev pub system_with : Doing → List ℕ → Result Systemic Trap
system_with d values = system d.row d.next_rip values (facts_under d.control d.vcpu d.facts) (state d.vcpu.registers no_values)

abbrev pub on_read : Doing → List PlannedAccess → (Result Came Stop → Course) → Result Words Stop → Course
on_read d plan next (Ok read) = on_system d plan read.numbers next (system_with d read.values)
on_read d plan next (Err reason) = next (Err reason)

abbrev pub system_accesses : Doing → List PlannedAccess → (Result Came Stop → Course) → Course
system_accesses d plan next = planned_accesses (is_user d.vcpu.registers) plan (on_read d plan next)

-- MOV from CR8 reads the register of the task priority, 80h; under V_INTR_MASKING it reads V_TPR (volume 2, 'CR8', 'Virtual
-- TPR').

abbrev pub is_control_move : Op → Bool
is_control_move op.MovCr = true
is_control_move _ = false

abbrev pub reads_priority : Row → Bool
reads_priority row = is_control_move row.op && not (writes_special row.form) && (row.register == 8)

-- the row's facts, with a task priority
abbrev pub knowing : Doing → ℕ → Doing
knowing d priority = record d { facts = record d.facts { tpr = priority % 256 } }

abbrev pub row_accesses : Doing → (Result Came Stop → Course) → Course
row_accesses d next = system_accesses d (planned d.row d.vcpu.registers d.next_rip) next

abbrev pub priority_read : Doing → (Result Came Stop → Course) → Course
priority_read d next = ApicRead 0x080 d.facts.event (on_register_read d 0x080 next (λ priority. row_accesses (knowing d priority) next))

abbrev pub informed : Doing → (Result Came Stop → Course) → Course
informed d next = if reads_priority d.row && not (masks_interrupts d.control) then priority_read d next else row_accesses d next

unfoldable pub unlocked : Doing → (Result Came Stop → Course) → Course
unlocked d next = if lock_is_undefined d.row then next (raised invalid_opcode) else informed d next

-- Permission maps: an intercept where a bit is set.

abbrev pub on_map : Doing → (List ℕ → Bool) → Exit → (Result Came Stop → Course) → Course → Result (List ℕ) OutsideAt → Course
on_map d test exit next rest (Ok bytes) = if test bytes then next (Ok (leaves d.vcpu exit None)) else rest
on_map d test exit next rest (Err outside) = next (Err (stop.Ended (OutsideMemory outside.address)))

abbrev pub is_input : Op → Bool
is_input op.In = true
is_input _ = false

abbrev pub unless_ports : Doing → Fields → (Result Came Stop → Course) → Course → Course
unless_ports d fields next rest =
    let port = port_of d.row d.vcpu.registers in
    let width = port_bytes d.row.width in
    if asks_ports fields then
    Look (ports_at fields port) (ports_count port width)
    (on_map d (λ bytes. ports_set bytes port width) (port_exit (is_input d.row.op) port width d.next_rip) next rest)
    else rest

abbrev pub is_msr_write : Op → Bool
is_msr_write op.Wrmsr = true
is_msr_write _ = false

abbrev pub msr_bit : Doing → ℕ → ℕ
msr_bit d place = place + bits_where (is_msr_write d.row.op) 1

-- an MSR outside the map is intercepted
abbrev pub at_msr : Doing → Fields → (Result Came Stop → Course) → Course → Option ℕ → Course
at_msr d fields next rest None = next (Ok (leaves d.vcpu (msr_exit (is_msr_write d.row.op) d.next_rip) None))
at_msr d fields next rest (Some place) =
    Look (map_base fields f.MsrpmBase + msr_bit d place / 8) 1
    (on_map d (λ bytes. bit (msr_bit d place % 8) (slice_index bytes 0)) (msr_exit (is_msr_write d.row.op) d.next_rip) next rest)

abbrev pub unless_msrs : Doing → Fields → (Result Came Stop → Course) → Course → Course
unless_msrs d fields next rest =
    if asks_msrs fields then at_msr d fields next rest (msr_place (whole_register rcx d.vcpu.registers % 2 ^ 32)) else rest

abbrev pub unless_map : Intercept → Doing → Fields → (Result Came Stop → Course) → Course → Course
unless_map Ports d fields next rest = unless_ports d fields next rest
unless_map Msrs d fields next rest = unless_msrs d fields next rest
unless_map _ d fields next rest = rest

-- the intercept of a row
abbrev pub unless_intercepted : Option Control → Doing → (Result Came Stop → Course) → Course → Course
unless_intercepted None d next rest = rest
unless_intercepted (Some c) d next rest =
    unless_exit (row_exit c.fields d.row d.next_rip) d.vcpu None (coming next) (unless_map (guard_of d.row.op).intercept d c.fields next rest)

abbrev pub unless_refused : Option Trap → (Result Came Stop → Course) → Course → Course
unless_refused None next rest = rest
unless_refused (Some trap) next rest = next (raised trap)

unfoldable pub system_row : Doing → (Result Came Stop → Course) → Course
system_row d next = unless_refused (refusal d.row d.vcpu.registers) next (unless_intercepted d.control d next (unlocked d next))
