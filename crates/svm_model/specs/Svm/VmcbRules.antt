-- What VMRUN refuses (volume 2, 'Canonicalization and Consistency Checks'), and what this machine does not offer beyond it.
use Rattle.std.specs.Prelude.{ℕ, ◌+◌, ◌-◌, ◌*◌, ◌/◌, ◌^◌, nat_le, nat_lt, List, [], ◌∷◌, Bool, true, false, ◌==◌, ◌&&◌, ◌||◌, not, if◌then◌else◌, Option, Some, None}
use Rattle.svm_model.specs.Memory.Bits.{bit, bits_from, has_some}
use Rattle.svm_model.specs.Svm.Vmcb.{Fields, value, field_bit}
use Rattle.svm_model.specs.declared.traps.Cause.{Cause}
use Rattle.svm_model.specs.declared.traps.Cause.TheVariants as cause
use Rattle.svm_model.specs.declared.traps.Injection.{Injection}
use Rattle.svm_model.specs.declared.traps.Injection.TheVariants as injection
use Rattle.svm_model.specs.declared.traps.Trap.{Trap}
use Rattle.svm_model.specs.declared.vmcbs.Field.{Field}
use Rattle.svm_model.specs.declared.vmcbs.Field.TheVariants as f
use Rattle.svm_model.specs.declared.vmcbs.Offered.{Offered}

-- EVENTINJ ('Event Injection').

-- the code is there where EV, bit 11, is 1
abbrev pub injected_code : ℕ → Option ℕ
injected_code word = if bit 11 word then Some (bits_from 32 32 word) else None

abbrev pub injected : ℕ → Cause → ℕ → Injection
injected vector cause word = injection.Event (record { vector = vector; code = injected_code word; address = None; cause = cause })

-- an exception has a vector of at most 31, and not that of NMI
abbrev pub injected_exception : ℕ → ℕ → Injection
injected_exception vector word = if (vector == 2) || nat_lt 31 vector then injection.Illegal else injected vector cause.Fault word

-- by its type: 0 an interrupt, 2 NMI whatever the vector is, 3 an exception, 4 software
abbrev pub injected_type : ℕ → ℕ → Injection
injected_type type word =
    if type == 0 then injected (bits_from 0 8 word) cause.External word
    else if type == 2 then injected 2 cause.Nmi word
    else if type == 3 then injected_exception (bits_from 0 8 word) word
    else if type == 4 then injected (bits_from 0 8 word) cause.Software word
    else injection.Illegal

unfoldable pub injection_of : ℕ → Injection
injection_of word = if bit 31 word then injected_type (bits_from 8 3 word) word else injection.None

abbrev pub is_illegal_injection : Injection → Bool
is_illegal_injection injection.Illegal = true
is_illegal_injection _ = false

-- the form of an event in EXITINTINFO
abbrev pub type_of : Cause → ℕ
type_of cause.External = 0
type_of cause.Nmi = 2
type_of cause.Fault = 3
type_of cause.Software = 4

abbrev pub code_bits : Option ℕ → ℕ
code_bits None = 0
code_bits (Some code) = 2 ^ 32 * code + 2 ^ 11

abbrev pub form_of : Trap → ℕ
form_of trap = trap.vector + 2 ^ 8 * type_of trap.cause + 2 ^ 31 + code_bits trap.code

unfoldable pub interrupt_information : Option Trap → ℕ
interrupt_information None = 0
interrupt_information (Some trap) = form_of trap

-- The rules.

-- long mode with paging: EFER.LME and CR0.PG
abbrev pub is_long : Fields → Bool
is_long v = field_bit f.Efer 8 v && field_bit f.Cr0 31 v

-- a field has a bit outside these
abbrev pub exceeds : Field → ℕ → Fields → Bool
exceeds field bits v = has_some (value v field) (2 ^ 64 - 1 - bits)

-- a map of so many bytes goes past the physical width; bits 11:0 of its base are taken as 0
abbrev pub is_past_width : Field → ℕ → Fields → Bool
is_past_width field size v = nat_lt (2 ^ 40) (4096 * (value v field / 4096) + size)

abbrev pub offers_flush : Offered → ℕ → Bool
offers_flush offered control = nat_le control 1 || (offered.flush_by_asid && ((control == 3) || (control == 7)))

-- whether each rule is broken, in their order
abbrev pub rules : Fields → Offered → List Bool
rules v offered =
    -- 1 EFER.SVME is 0
    not (field_bit f.Efer 12 v) ∷
    -- 2 CR0.NW is 1 and CR0.CD is 0
    (field_bit f.Cr0 29 v && not (field_bit f.Cr0 30 v)) ∷
    -- 3 CR0 bits 63:32 are not 0
    exceeds f.Cr0 0xFFFFFFFF v ∷
    -- 4 CR3 bits 63:40 are not 0
    exceeds f.Cr3 0xFFFFFFFFFF v ∷
    -- 5 CR4 has a bit outside those that are offered
    exceeds f.Cr4 0x6B4 v ∷
    -- 6 EFER has a bit outside those that are offered
    exceeds f.Efer 0x1D01 v ∷
    -- 7 DR6 bits 63:32 are not 0
    exceeds f.Dr6 0xFFFFFFFF v ∷
    -- 8 DR7 bits 63:32 are not 0
    exceeds f.Dr7 0xFFFFFFFF v ∷
    -- 9 long mode with paging, where PAE is 0
    (is_long v && not (field_bit f.Cr4 5 v)) ∷
    -- 10 long mode with paging, where PE is 0
    (is_long v && not (field_bit f.Cr0 0 v)) ∷
    -- 11 long mode with paging and PAE, where the code segment has both L and D
    (is_long v && field_bit f.Cr4 5 v && field_bit f.CsAttributes 9 v && field_bit f.CsAttributes 10 v) ∷
    -- 12 the VMRUN intercept is clear
    not (field_bit f.InterceptWord10 0 v) ∷
    -- 13 the ASID is 0
    (value v f.Asid == 0) ∷
    -- 14 the ASID is not offered
    nat_le offered.asids (value v f.Asid) ∷
    -- 15 a permission map, that of ports with three pages or that of MSRs with two, does not end within 2^40
    (is_past_width f.IopmBase 0x3000 v || is_past_width f.MsrpmBase 0x2000 v) ∷
    -- 16 EVENTINJ is illegal
    is_illegal_injection (injection_of (value v f.EventInj)) ∷
    -- 17 TLB_CONTROL is not offered
    not (offers_flush offered (value v f.TlbControl)) ∷
    []

abbrev pub first_broken : ℕ → List Bool → Option ℕ
first_broken rule [] = None
first_broken rule (broken ∷ rules) = if broken then Some rule else first_broken (rule + 1) rules

-- the least rule that the fields break
unfoldable pub broken : Fields → Offered → Option ℕ
broken fields offered = first_broken 1 (rules fields offered)

-- Modes that are not offered: a legal VMRUN of these ends the guest.

-- 4: another mode than 64-bit mode, alignment checks, single-step, virtual-8086 mode
abbrev pub is_other_mode : Fields → Bool
is_other_mode v =
    not (field_bit f.Efer 8 v && field_bit f.Efer 10 v && field_bit f.Cr0 31 v && field_bit f.Cr0 0 v && field_bit f.Cr4 5 v && field_bit f.CsAttributes 9 v)
    || field_bit f.CsAttributes 10 v || field_bit f.Cr0 18 v || has_some (value v f.Rflags) (2 ^ 8 + 2 ^ 17 + 2 ^ 18)

-- 6: breakpoints, DR7 bits 7:0 and 13
abbrev pub breakpoints : ℕ
breakpoints = 0x20FF

-- 8: the selective intercept of CR0
unfoldable pub unoffered_mode : Fields → Option ℕ
unoffered_mode v =
    if is_other_mode v then Some 4
    else if has_some (value v f.Dr7) breakpoints then Some 6
    else if field_bit f.InterceptWordC 5 v then Some 8
    else None
