-- Rows that set flags, and rows that do nothing (volume 3, 'CLC', 'CLD', 'CMC', 'STC', 'STD', 'NOP', 'LFENCE', 'MFENCE',
-- 'SFENCE').
use Rattle.std.specs.Prelude.{ℕ, ◌-◌, ◌^◌, Bool, not, if◌then◌else◌, bit_and, bit_or}
use Rattle.svm_model.specs.Instructions.Operands.{State, flags_of, after_flags, at_rip}

abbrev pub with_carry : Bool → State → State
with_carry carry s = after_flags (record (flags_of s.registers) { cf = carry }) s

-- STC, CLC
abbrev pub sets_carry : Bool → ℕ → State → State
sets_carry carry next s = at_rip next (with_carry carry s)

-- CMC
abbrev pub complements_carry : ℕ → State → State
complements_carry next s = at_rip next (with_carry (not (flags_of s.registers).cf) s)

-- DF, bit 10
abbrev pub direction_flag : ℕ
direction_flag = 2 ^ 10

abbrev pub with_direction : Bool → State → State
with_direction direction s =
    let rflags = s.registers.rflags in
    let changed = if direction then bit_or rflags direction_flag else bit_and rflags (2 ^ 64 - 1 - direction_flag) in
    record s { registers = record s.registers { rflags = changed } }

-- STD, CLD
abbrev pub sets_direction : Bool → ℕ → State → State
sets_direction direction next s = at_rip next (with_direction direction s)

-- NOP and the fences: accesses are made one by one, in order, so there is nothing to wait for
abbrev pub does_nothing : ℕ → State → State
does_nothing next s = at_rip next s
