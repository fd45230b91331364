-- Gates of the interrupt table, and segment descriptors (volume 2, '64-Bit Mode Gate Descriptors', 'Code-Segment Descriptors',
-- 'Data-Segment Descriptors').
use Rattle.std.specs.Prelude.{ℕ, ◌+◌, ◌*◌, ◌/◌, ◌%◌, ◌^◌, Bool, ◌==◌, ◌&&◌, ◌||◌, not, if◌then◌else◌}
use Rattle.svm_model.specs.Memory.Bits.{bit, bits_from}

-- A gate, by its two quadwords.

abbrev pub gate_type : ℕ → ℕ
gate_type low = bits_from 40 4 low

abbrev pub interrupt_gate : ℕ
interrupt_gate = 0xE

abbrev pub trap_gate : ℕ
trap_gate = 0xF

abbrev pub is_gate : ℕ → Bool
is_gate low = (gate_type low == interrupt_gate) || (gate_type low == trap_gate)

-- the DPL and the present bit have the same places in a gate and in a descriptor
abbrev pub privilege : ℕ → ℕ
privilege low = bits_from 45 2 low

abbrev pub is_present : ℕ → Bool
is_present low = bit 47 low

abbrev pub gate_selector : ℕ → ℕ
gate_selector low = bits_from 16 16 low

abbrev pub gate_stack : ℕ → ℕ
gate_stack low = bits_from 32 3 low

abbrev pub gate_offset : ℕ → ℕ → ℕ
gate_offset low high = low % 2 ^ 16 + 2 ^ 16 * bits_from 48 16 low + 2 ^ 32 * (high % 2 ^ 32)

-- A selector.

abbrev pub is_null : ℕ → Bool
is_null selector = selector / 4 == 0

-- the LDT bit
abbrev pub is_local : ℕ → Bool
is_local selector = bit 2 selector

abbrev pub requested_privilege : ℕ → ℕ
requested_privilege selector = selector % 4

-- the selector with its privilege cleared, as error codes have it
abbrev pub without_privilege : ℕ → ℕ
without_privilege selector = 4 * (selector / 4)

abbrev pub with_privilege : ℕ → ℕ → ℕ
with_privilege selector level = without_privilege selector + level

-- where its descriptor lies in the table
abbrev pub descriptor_offset : ℕ → ℕ
descriptor_offset selector = 8 * (selector / 8)

-- A descriptor of a segment.

abbrev pub is_code : ℕ → Bool
is_code d = bit 44 d && bit 43 d

abbrev pub is_writable_data : ℕ → Bool
is_writable_data d = bit 44 d && not (bit 43 d) && bit 41 d

-- conforming, or not of 64-bit mode: L 0 or D 1
abbrev pub is_unoffered_code : ℕ → Bool
is_unoffered_code d = bit 42 d || not (bit 53 d) || bit 54 d

-- attributes as the VMCB has them
abbrev pub descriptor_attributes : ℕ → ℕ
descriptor_attributes d = bits_from 40 8 d + 2 ^ 8 * bits_from 52 4 d

abbrev pub descriptor_base : ℕ → ℕ
descriptor_base d = bits_from 16 24 d + 2 ^ 24 * bits_from 56 8 d

abbrev pub whole_limit : ℕ → ℕ
whole_limit d = d % 2 ^ 16 + 2 ^ 16 * bits_from 48 4 d

-- with G in pages of 4 KiB
abbrev pub descriptor_limit : ℕ → ℕ
descriptor_limit d = if bit 55 d then 4096 * whole_limit d + 4095 else whole_limit d
