-- Rows that test bits, and rows that exchange (volume 3, 'BT', 'BTC', 'BTR', 'BTS', 'CMPXCHG', 'XADD', 'XCHG').
use Rattle.std.specs.Prelude.{ℕ, ◌-◌, ◌%◌, ◌^◌, ◌==◌, false, if◌then◌else◌, List, bit_and, bit_or, bit_xor}
use Rattle.svm_model.specs.Memory.Bits.{has}
use Rattle.svm_model.specs.Instructions.Widths.{bits}
use Rattle.svm_model.specs.Instructions.StatusFlags.{sum_of, flags_of_sum, flags_of_difference}
use Rattle.svm_model.specs.Instructions.Operands.{State, operand_value, with_operand, is_memory, register_named, accumulator, after_flags, at_rip}
use Rattle.svm_model.specs.Instructions.Sources.{source_value}
use Rattle.svm_model.specs.Instructions.FlagRows.{with_carry}
use Rattle.svm_model.specs.declared.register_file.Registers.{Registers}
use Rattle.svm_model.specs.declared.rows.Op.{Op}
use Rattle.svm_model.specs.declared.rows.Op.TheVariants.{Bts, Btr, Btc}
use Rattle.svm_model.specs.declared.rows.Row.{Row}

-- the bit that a row names, by its place: the offset is taken modulo the width
abbrev pub selected_bit : Row → Registers → List ℕ → ℕ
selected_bit row r values = 2 ^ (source_value row r values % bits row.width)

-- BT
unfoldable pub bt_copies_bit : Row → ℕ → List ℕ → State → State
bt_copies_bit row next values s =
    let value = operand_value row.width row.operand s.registers values in
    at_rip next (with_carry (has value (selected_bit row s.registers values)) s)

-- what becomes of an operand whose bit was copied to CF
abbrev pub changed_bit : Op → ℕ → ℕ → ℕ
changed_bit Bts value bit = bit_or value bit
changed_bit Btr value bit = bit_and value (2 ^ 64 - 1 - bit)
changed_bit Btc value bit = bit_xor value bit
changed_bit _ value bit = value

-- BTS, BTR, BTC
unfoldable pub changes_bit : Op → Row → ℕ → List ℕ → State → State
changes_bit op row next values s =
    let value = operand_value row.width row.operand s.registers values in
    let bit = selected_bit row s.registers values in
    at_rip next (with_carry (has value bit) (with_operand row.width row.operand (changed_bit op value bit) s))

-- XCHG
unfoldable pub exchanges : Row → ℕ → List ℕ → State → State
exchanges row next values s =
    let named = register_named row.register in
    let left = operand_value row.width row.operand s.registers values in
    let right = operand_value row.width named s.registers values in
    at_rip next (with_operand row.width named left (with_operand row.width row.operand right s))

-- XADD: the register takes the operand, and then the operand the sum
unfoldable pub exchanges_and_adds : Row → ℕ → List ℕ → State → State
exchanges_and_adds row next values s =
    let named = register_named row.register in
    let left = operand_value row.width row.operand s.registers values in
    let right = operand_value row.width named s.registers values in
    let sum = sum_of row.width left right false in
    let flags = flags_of_sum row.width left right false in
    at_rip next (after_flags flags (with_operand row.width row.operand sum (with_operand row.width named left s)))

-- memory is written with its own value, and a register keeps all its bits
abbrev pub written_back : Row → ℕ → State → State
written_back row value s = if is_memory row.operand then with_operand row.width row.operand value s else s

-- CMPXCHG: where the accumulator equals the operand, the operand takes the register; else the accumulator takes the
-- operand. Memory is written in both cases.
unfoldable pub compares_and_exchanges : Row → ℕ → List ℕ → State → State
compares_and_exchanges row next values s =
    let expected = operand_value row.width accumulator s.registers values in
    let value = operand_value row.width row.operand s.registers values in
    let new = operand_value row.width (register_named row.register) s.registers values in
    let flags = flags_of_difference row.width expected value false in
    let equal = with_operand row.width row.operand new s in
    let unequal = with_operand row.width accumulator value (written_back row value s) in
    at_rip next (after_flags flags (if expected == value then equal else unequal))
