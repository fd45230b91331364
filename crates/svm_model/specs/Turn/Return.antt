-- IRETQ (volume 3, 'IRETQ'; volume 2, 'Returning From Interrupt Procedures').
use Rattle.std.specs.Prelude.{ℕ, ◌%◌, ◌^◌, nat_lt, Bool, true, ◌==◌, ◌&&◌, ◌||◌, not, if◌then◌else◌, Ok, slice_set}
use Rattle.svm_model.specs.Memory.Bits.{bit, bits_where, without_bits, replaced}
use Rattle.svm_model.specs.Turn.Delivery.{in_table, is_past, null_stack, with_entry}
use Rattle.svm_model.specs.Turn.Descriptors.{privilege, is_present, is_null, is_local, requested_privilege, without_privilege, descriptor_offset, is_code, is_writable_data, is_unoffered_code, descriptor_attributes, descriptor_base, descriptor_limit}
use Rattle.svm_model.specs.Turn.Errand.{Errand, Over, Word, on_ok, refuse, unoffered}
use Rattle.svm_model.specs.Instructions.Operands.{rsp, whole_register}
use Rattle.svm_model.specs.Memory.RegisterFile.{is_canonical, is_user, io_privilege}
use Rattle.svm_model.specs.declared.gates.Popped.{Popped}
use Rattle.svm_model.specs.declared.register_file.Registers.{Registers}
use Rattle.svm_model.specs.declared.register_file.Segment.{Segment}

-- the bits of RFLAGS that POPFQ and IRETQ change: those of IOPL only where CPL is 0, and IF where IOPL allows it
abbrev pub popped_mask : Registers → ℕ
popped_mask r =
    let without_level = without_bits 0x207ED5 (bits_where (not (r.cpl == 0)) 0x3000) in
    without_bits without_level (bits_where (nat_lt (io_privilege r) r.cpl) (2 ^ 9))

unfoldable pub popped_flags : Registers → ℕ → ℕ
popped_flags r value = replaced (popped_mask r) r.rflags value

-- TF, bit 8: single-step is not offered
abbrev pub steps_singly : ℕ → Bool
steps_singly rflags = bit 8 rflags

-- The frame: the quadwords from RSP on; selectors have 16 bits.

abbrev pub with_popped : Registers → ℕ → (ℕ → Errand) → Errand
with_popped r offset next = Word (in_table (whole_register rsp r) offset) 8 (is_user r) true (λ a. on_ok a next)

unfoldable pub with_frame : Registers → (Popped → Errand) → Errand
with_frame r next =
    with_popped r 0 (λ rip. with_popped r 8 (λ cs. with_popped r 16 (λ rflags. with_popped r 24 (λ top. with_popped r 32 (λ ss.
    next (record { rip = rip; cs = cs % 2 ^ 16; rflags = rflags; rsp = top; ss = ss % 2 ^ 16 }))))))

-- CS.

abbrev pub returned_code : ℕ → ℕ → Segment
returned_code selector d = record { selector = selector; attributes = descriptor_attributes d; limit = 0xFFFFFFFF; base = 0 }

abbrev pub with_code_looked : Registers → ℕ → ℕ → (Segment → Errand) → Errand
with_code_looked r selector d next =
    if nat_lt (requested_privilege selector) r.cpl || not (privilege d == requested_privilege selector) || not (is_code d)
    then refuse 13 (without_privilege selector)
    else if not (is_present d) then refuse 11 (without_privilege selector)
    else if is_unoffered_code d then unoffered 5
    else next (returned_code selector d)

unfoldable pub with_return_code : Registers → ℕ → (Segment → Errand) → Errand
with_return_code r selector next =
    if is_null selector then refuse 13 0
    else if is_local selector then unoffered 5
    else if is_past r.gdtr.limit (descriptor_offset selector) then refuse 13 (without_privilege selector)
    else with_entry r.gdtr.base (descriptor_offset selector) (λ d. with_code_looked r selector d next)

-- SS, of the privilege that CS asks for.

abbrev pub returned_stack : ℕ → ℕ → Segment
returned_stack selector d = record {
  selector = selector;
  attributes = descriptor_attributes d;
  limit = descriptor_limit d;
  base = descriptor_base d;
}

abbrev pub with_stack_looked : ℕ → ℕ → ℕ → (Segment → Errand) → Errand
with_stack_looked level selector d next =
    if not (is_writable_data d) || not (privilege d == level) || not (requested_privilege selector == level)
    then refuse 13 (without_privilege selector)
    else if not (is_present d) then refuse 12 (without_privilege selector)
    else next (returned_stack selector d)

-- a null selector of the new privilege is allowed below level 3
unfoldable pub with_return_stack : Registers → ℕ → ℕ → (Segment → Errand) → Errand
with_return_stack r level selector next =
    if is_null selector then
    if (requested_privilege selector == level) && nat_lt level 3 then next (null_stack level r.ss) else refuse 13 0
    else if is_local selector then unoffered 5
    else if is_past r.gdtr.limit (descriptor_offset selector) then refuse 13 (without_privilege selector)
    else with_entry r.gdtr.base (descriptor_offset selector) (λ d. with_stack_looked level selector d next)

-- RIP, RFLAGS and the new state.

abbrev pub returned : Registers → Popped → Segment → Segment → Registers
returned r p code ss = record r {
  general = slice_set r.general rsp p.rsp;
  rip = p.rip;
  rflags = popped_flags r p.rflags;
  cs = code;
  ss = ss;
  cpl = requested_privilege p.cs;
}

abbrev pub finished : Registers → Popped → Segment → Segment → Errand
finished r p code ss =
    if not (is_canonical p.rip) then refuse 13 0
    else if steps_singly p.rflags then unoffered 6
    else Over (Ok (returned r p code ss))

-- IRETQ; NT, bit 14, asks for a task switch, which 64-bit mode has not
unfoldable pub coming_back : Registers → Errand
coming_back r =
    if bit 14 r.rflags then refuse 13 0
    else with_frame r (λ p. with_return_code r p.cs (λ code. with_return_stack r (requested_privilege p.cs) p.ss (λ ss. finished r p code ss)))
