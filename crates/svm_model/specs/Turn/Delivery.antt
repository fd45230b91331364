-- The delivery of exceptions and interrupts in 64-bit mode (volume 2, 'Long-Mode Interrupt Control Transfers'): the gate, the
-- descriptor, the stack, the pushes, and the new state, in this order. Each step may stop; then nothing has changed.
use Rattle.std.specs.Prelude.{ℕ, suc, zero, ◌+◌, ◌-◌, ◌*◌, ◌/◌, ◌%◌, ◌^◌, nat_lt, List, [], ◌∷◌, Bool, true, false, ◌==◌, ◌&&◌, ◌||◌, not, if◌then◌else◌, Option, Some, None, Ok, slice_set}
use Rattle.svm_model.specs.Memory.Bits.{bits_where, without_bits}
use Rattle.svm_model.specs.Turn.Descriptors.{is_gate, gate_type, interrupt_gate, privilege, is_present, gate_selector, gate_stack, gate_offset, is_null, is_local, without_privilege, with_privilege, descriptor_offset, is_code, is_unoffered_code, descriptor_attributes}
use Rattle.svm_model.specs.Turn.Errand.{Errand, Over, Word, Hold, Commit, on_ok, refuse, unoffered}
use Rattle.svm_model.specs.Instructions.Operands.{rsp, whole_register}
use Rattle.svm_model.specs.Memory.RegisterFile.{is_canonical}
use Rattle.svm_model.specs.declared.gates.CodeEntry.{CodeEntry}
use Rattle.svm_model.specs.declared.gates.Gate.{Gate}
use Rattle.svm_model.specs.declared.register_file.Registers.{Registers}
use Rattle.svm_model.specs.declared.register_file.Segment.{Segment}
use Rattle.svm_model.specs.declared.traps.Cause.{Cause}
use Rattle.svm_model.specs.declared.traps.Cause.TheVariants as cause
use Rattle.svm_model.specs.declared.traps.Trap.{Trap}

-- Error codes (volume 2, 'Error Codes'). EXT is 1 for an external interrupt and NMI.
abbrev pub is_external : Cause → Bool
is_external cause.Fault = false
is_external cause.Software = false
is_external cause.External = true
is_external cause.Nmi = true

abbrev pub ext : Trap → ℕ
ext trap = bits_where (is_external trap.cause) 1

-- the code of a gate: its vector, IDT and EXT
abbrev pub gate_code : Trap → ℕ
gate_code trap = 8 * trap.vector + 2 + ext trap

abbrev pub selector_code : Trap → ℕ → ℕ
selector_code trap selector = without_privilege selector + ext trap

abbrev pub is_software : Cause → Bool
is_software cause.Fault = false
is_software cause.Software = true
is_software cause.External = false
is_software cause.Nmi = false

-- eight bytes from an offset on go past a limit
abbrev pub is_past : ℕ → ℕ → Bool
is_past limit offset = nat_lt limit (offset + 7)

-- the linear address of a table's entry
abbrev pub in_table : ℕ → ℕ → ℕ
in_table base offset = (base + offset) % 2 ^ 64

-- a quadword of a table, read as a supervisor
abbrev pub with_entry : ℕ → ℕ → (ℕ → Errand) → Errand
with_entry base offset next = Word (in_table base offset) 8 false false (λ a. on_ok a next)

-- 1. The gate: read whole, and then looked at.

abbrev pub gate_of : ℕ → ℕ → Gate
gate_of low high = record {
  offset = gate_offset low high;
  selector = gate_selector low;
  stack = gate_stack low;
  masks = gate_type low == interrupt_gate;
}

abbrev pub with_gate_read : Trap → Registers → ℕ → ℕ → (Gate → Errand) → Errand
with_gate_read trap r low high next =
    if not (is_gate low) then refuse 13 (gate_code trap)
    else if is_software trap.cause && nat_lt (privilege low) r.cpl then refuse 13 (gate_code trap)
    else if not (is_present low) then refuse 11 (gate_code trap)
    else next (gate_of low high)

unfoldable pub with_gate : Trap → Registers → (Gate → Errand) → Errand
with_gate trap r next =
    if is_past r.idtr.limit (16 * trap.vector + 8) then refuse 13 (gate_code trap)
    else with_entry r.idtr.base (16 * trap.vector) (λ low. with_entry r.idtr.base (16 * trap.vector + 8) (λ high. with_gate_read trap r low high next))

-- 2. The descriptor.

abbrev pub entry_of : ℕ → CodeEntry
entry_of d = record { attributes = descriptor_attributes d; privilege = privilege d }

abbrev pub with_code_read : Trap → Registers → Gate → ℕ → (CodeEntry → Errand) → Errand
with_code_read trap r gate d next =
    if not (is_code d) || nat_lt r.cpl (privilege d) then refuse 13 (selector_code trap gate.selector)
    else if not (is_present d) then refuse 11 (selector_code trap gate.selector)
    else if is_unoffered_code d then unoffered 5
    else if not (is_canonical gate.offset) then refuse 13 (ext trap)
    else next (entry_of d)

unfoldable pub with_code : Trap → Registers → Gate → (CodeEntry → Errand) → Errand
with_code trap r gate next =
    if is_null gate.selector then refuse 13 (ext trap)
    else if is_local gate.selector then unoffered 5
    else if is_past r.gdtr.limit (descriptor_offset gate.selector) then refuse 13 (selector_code trap gate.selector)
    else with_entry r.gdtr.base (descriptor_offset gate.selector) (λ d. with_code_read trap r gate d next)

-- 3. The stack: of the interrupt-stack table, of the lower privilege level, or the present one.

abbrev pub with_canonical : Trap → ℕ → (ℕ → Errand) → Errand
with_canonical trap stack next = if is_canonical stack then next stack else refuse 12 (ext trap)

-- a stack pointer of the task-state segment
unfoldable pub with_pointer : Trap → Registers → ℕ → (ℕ → Errand) → Errand
with_pointer trap r offset next =
    if is_past r.tr.limit offset then refuse 10 (r.tr.selector + ext trap)
    else with_entry r.tr.base offset (λ stack. with_canonical trap stack next)

unfoldable pub with_stack : Trap → Registers → Gate → CodeEntry → (ℕ → Errand) → Errand
with_stack trap r gate entry next =
    if not (gate.stack == 0) then with_pointer trap r (0x1C + 8 * gate.stack) next
    else if nat_lt entry.privilege r.cpl then with_pointer trap r (4 + 8 * entry.privilege) next
    else next (whole_register rsp r)

-- 4. The pushes. All places are held before the first is written.

-- the stack pointer, aligned down to 16
abbrev pub aligned : ℕ → ℕ
aligned stack = 16 * (stack / 16)

abbrev pub below : ℕ → ℕ
below top = (top + (2 ^ 64 - 8)) % 2 ^ 64

unfoldable pub with_places : Bool → ℕ → ℕ → Errand → Errand
with_places user top zero next = next
with_places user top (suc count) next = Hold (below top) 8 user true (λ a. on_ok a (λ done. with_places user (below top) count next))

-- the error code, where the event has one
abbrev pub code_pushed : Option ℕ → List ℕ
code_pushed None = []
code_pushed (Some code) = code ∷ []

abbrev pub push_count : Option ℕ → ℕ
push_count None = 5
push_count (Some code) = 6

abbrev pub pushed : Trap → Registers → List ℕ
pushed trap r = r.ss.selector ∷ whole_register rsp r ∷ r.rflags ∷ r.cs.selector ∷ r.rip ∷ code_pushed trap.code

-- 5. The new state.

abbrev pub entered_code : Gate → CodeEntry → Segment
entered_code gate entry = record {
  selector = with_privilege gate.selector entry.privilege;
  attributes = entry.attributes;
  limit = 0xFFFFFFFF;
  base = 0;
}

-- on a lower CPL SS is a null selector of that privilege
abbrev pub null_stack : ℕ → Segment → Segment
null_stack level ss = record ss { selector = level; attributes = 0x93 + 2 ^ 5 * level }

abbrev pub entered_stack : CodeEntry → Registers → Segment
entered_stack entry r = if nat_lt entry.privilege r.cpl then null_stack entry.privilege r.ss else r.ss

-- IF, bit 9, is cleared by an interrupt gate, and NT, bit 14, by each
abbrev pub cleared_flags : Gate → ℕ
cleared_flags gate = bits_where gate.masks (2 ^ 9) + 2 ^ 14

abbrev pub or_kept : Option ℕ → ℕ → ℕ
or_kept None kept = kept
or_kept (Some new) kept = new

abbrev pub entered : Trap → Registers → Gate → CodeEntry → ℕ → Registers
entered trap r gate entry stack = record r {
  general = slice_set r.general rsp stack;
  rip = gate.offset;
  rflags = without_bits r.rflags (cleared_flags gate);
  cr2 = or_kept trap.address r.cr2;
  cs = entered_code gate entry;
  ss = entered_stack entry r;
  cpl = entry.privilege;
}

-- below a stack pointer, behind so many pushes
abbrev pub behind_pushes : ℕ → ℕ → ℕ
behind_pushes stack count = (aligned stack + (2 ^ 64 - 8 * count)) % 2 ^ 64

unfoldable pub with_pushes : Trap → Registers → Gate → CodeEntry → ℕ → Errand
with_pushes trap r gate entry stack =
    with_places (entry.privilege == 3) (aligned stack) (push_count trap.code)
    (Commit (pushed trap r) (Over (Ok (entered trap r gate entry (behind_pushes stack (push_count trap.code))))))

-- the delivery of an event; RIP is the address that is pushed
unfoldable pub delivery : Trap → Registers → Errand
delivery trap r =
    with_gate trap r (λ gate. with_code trap r gate (λ entry. with_stack trap r gate entry (λ stack. with_pushes trap r gate entry stack)))
