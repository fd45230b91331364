-- Rows that move data (volume 3, 'MOV', 'MOVSX', 'MOVSXD', 'MOVZX', 'LEA', 'CMOVcc', 'SETcc', 'CBW', 'CWD').
use Rattle.std.specs.Prelude.{ℕ, ◌-◌, ◌^◌, false, if◌then◌else◌, List}
use Rattle.svm_model.specs.Instructions.Widths.{bits, top_bit, as_signed, bits_for}
use Rattle.svm_model.specs.Instructions.StatusFlags.{one_where}
use Rattle.svm_model.specs.Instructions.Operands.{State, operand_value, with_operand, register_named, accumulator, rdx, flags_of, at_rip, effective_address}
use Rattle.svm_model.specs.Instructions.Sources.{destination, source_value, operand_width}
use Rattle.svm_model.specs.Instructions.Conditions.{condition_holds}
use Rattle.svm_model.specs.declared.rows.Operand.TheVariants.{Register}
use Rattle.svm_model.specs.declared.rows.Row.{Row}
use Rattle.svm_model.specs.declared.rows.Width.{Width}
use Rattle.svm_model.specs.declared.rows.Width.TheVariants.{W8, W16, W32, W64}

-- MOV
unfoldable pub moves : Row → ℕ → List ℕ → State → State
moves row next values s =
    let value = source_value row s.registers values in
    at_rip next (with_operand row.width (destination row) value s)

-- MOVZX
unfoldable pub movzx_extends : Row → ℕ → List ℕ → State → State
movzx_extends row next values s =
    let value = operand_value (operand_width row) row.operand s.registers values in
    at_rip next (with_operand row.width (register_named row.register) value s)

-- an operand of a width as 64 bits of the same signed number
unfoldable pub extended_by_sign : Width → ℕ → ℕ
extended_by_sign w value = bits_for 64 (as_signed (bits w) value)

-- MOVSX, MOVSXD
unfoldable pub movsx_extends : Row → ℕ → List ℕ → State → State
movsx_extends row next values s =
    let from = operand_width row in
    let value = extended_by_sign from (operand_value from row.operand s.registers values) in
    at_rip next (with_operand row.width (register_named row.register) value s)

-- LEA
unfoldable pub lea_loads : Row → ℕ → State → State
lea_loads row next s =
    let address = effective_address row.operand next s.registers in
    at_rip next (with_operand row.width (register_named row.register) address s)

-- CMOVcc: where the condition does not hold, the register is written with its own value
unfoldable pub cmovcc_moves : Row → ℕ → List ℕ → State → State
cmovcc_moves row next values s =
    let target = register_named row.register in
    let source = operand_value row.width row.operand s.registers values in
    let old = operand_value row.width target s.registers values in
    let value = if condition_holds row.condition (flags_of s.registers) then source else old in
    at_rip next (with_operand row.width target value s)

-- SETcc
unfoldable pub setcc_sets : Row → ℕ → State → State
setcc_sets row next s =
    at_rip next (with_operand W8 row.operand (one_where (condition_holds row.condition (flags_of s.registers))) s)

abbrev pub half_of : Width → Width
half_of W64 = W32
half_of W32 = W16
half_of _ = W8

-- CBW, CWDE, CDQE
unfoldable pub cbw_extends : Row → ℕ → List ℕ → State → State
cbw_extends row next values s =
    let half = half_of row.width in
    let value = extended_by_sign half (operand_value half accumulator s.registers values) in
    at_rip next (with_operand row.width accumulator value s)

-- CWD, CDQ, CQO: each bit of rDX is the sign of rAX
unfoldable pub cwd_spreads_sign : Row → ℕ → List ℕ → State → State
cwd_spreads_sign row next values s =
    let negative = top_bit row.width (operand_value row.width accumulator s.registers values) in
    at_rip next (with_operand row.width (Register rdx false) (if negative then 2 ^ bits row.width - 1 else 0) s)
