-- Rows of arithmetic and logic (volume 3, 'ADC', 'ADD', 'AND', 'CMP', 'DEC', 'INC', 'NEG', 'NOT', 'OR', 'SBB', 'SUB',
-- 'TEST', 'XOR').
use Rattle.std.specs.Prelude.{ℕ, ◌-◌, ◌^◌, Bool, false, List}
use Rattle.svm_model.specs.Instructions.Widths.{bits}
use Rattle.svm_model.specs.Instructions.StatusFlags.{sum_of, flags_of_sum, difference_of, flags_of_difference, logic_of, flags_of_logic}
use Rattle.svm_model.specs.Instructions.Operands.{State, operand_value, with_operand, flags_of, after_flags, at_rip}
use Rattle.svm_model.specs.Instructions.Sources.{destination, destination_value, source_value}
use Rattle.svm_model.specs.declared.flags.LogicKind.{LogicKind}
use Rattle.svm_model.specs.declared.flags.LogicKind.TheVariants.{And}
use Rattle.svm_model.specs.declared.rows.Row.{Row}

-- ADD, and ADC with CF as the carry
unfoldable pub adds : Bool → Row → ℕ → List ℕ → State → State
adds carry row next values s =
    let left = destination_value row s.registers values in
    let right = source_value row s.registers values in
    let sum = sum_of row.width left right carry in
    let flags = flags_of_sum row.width left right carry in
    at_rip next (after_flags flags (with_operand row.width (destination row) sum s))

-- SUB, and SBB with CF as the borrow
unfoldable pub subtracts : Bool → Row → ℕ → List ℕ → State → State
subtracts borrow row next values s =
    let left = destination_value row s.registers values in
    let right = source_value row s.registers values in
    let difference = difference_of row.width left right borrow in
    let flags = flags_of_difference row.width left right borrow in
    at_rip next (after_flags flags (with_operand row.width (destination row) difference s))

-- CMP
unfoldable pub compares : Row → ℕ → List ℕ → State → State
compares row next values s =
    let left = destination_value row s.registers values in
    let right = source_value row s.registers values in
    at_rip next (after_flags (flags_of_difference row.width left right false) s)

-- AND, OR, XOR
unfoldable pub combines : LogicKind → Row → ℕ → List ℕ → State → State
combines kind row next values s =
    let left = destination_value row s.registers values in
    let right = source_value row s.registers values in
    let result = logic_of kind left right in
    let flags = flags_of_logic row.width result (flags_of s.registers) in
    at_rip next (after_flags flags (with_operand row.width (destination row) result s))

-- TEST
unfoldable pub tests_bits : Row → ℕ → List ℕ → State → State
tests_bits row next values s =
    let left = destination_value row s.registers values in
    let right = source_value row s.registers values in
    let flags = flags_of_logic row.width (logic_of And left right) (flags_of s.registers) in
    at_rip next (after_flags flags s)

-- NOT: each bit turned, and no flag set
unfoldable pub not_inverts : Row → ℕ → List ℕ → State → State
not_inverts row next values s =
    let value = operand_value row.width row.operand s.registers values in
    at_rip next (with_operand row.width row.operand (2 ^ bits row.width - 1 - value) s)

-- NEG: the operand taken from 0
unfoldable pub negates : Row → ℕ → List ℕ → State → State
negates row next values s =
    let value = operand_value row.width row.operand s.registers values in
    let flags = flags_of_difference row.width 0 value false in
    at_rip next (after_flags flags (with_operand row.width row.operand (difference_of row.width 0 value false) s))

-- INC: 1 is added, and CF stays
unfoldable pub increments : Row → ℕ → List ℕ → State → State
increments row next values s =
    let value = operand_value row.width row.operand s.registers values in
    let flags = record (flags_of_sum row.width value 1 false) { cf = (flags_of s.registers).cf } in
    at_rip next (after_flags flags (with_operand row.width row.operand (sum_of row.width value 1 false) s))

-- DEC: 1 is taken away, and CF stays
unfoldable pub decrements : Row → ℕ → List ℕ → State → State
decrements row next values s =
    let value = operand_value row.width row.operand s.registers values in
    let flags = record (flags_of_difference row.width value 1 false) { cf = (flags_of s.registers).cf } in
    at_rip next (after_flags flags (with_operand row.width row.operand (difference_of row.width value 1 false) s))
