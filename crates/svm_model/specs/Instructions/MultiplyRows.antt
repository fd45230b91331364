-- Rows that multiply and divide (volume 3, 'DIV', 'IDIV', 'IMUL', 'MUL').
use Rattle.std.specs.Prelude.{ℕ, Bool, true, if◌then◌else◌, List, Result, Ok, Err}
use Rattle.svm_model.specs.Instructions.Products.{product_of, low_half, high_half, flags_of_product, division_of}
use Rattle.svm_model.specs.Instructions.Exceptions.{divide_error}
use Rattle.svm_model.specs.Instructions.Operands.{State, cut, operand_value, with_operand, register_named, accumulator, upper_accumulator, flags_of, after_flags, at_rip}
use Rattle.svm_model.specs.Instructions.RowTable.{operands_of, is_absent}
use Rattle.svm_model.specs.Instructions.Sources.{has_immediate}
use Rattle.svm_model.specs.declared.flags.NoQuotient.{NoQuotient}
use Rattle.svm_model.specs.declared.register_file.Registers.{Registers}
use Rattle.svm_model.specs.declared.rows.Form.{Form}
use Rattle.svm_model.specs.declared.rows.Row.{Row}
use Rattle.svm_model.specs.declared.rows.Width.{Width}
use Rattle.svm_model.specs.declared.traps.Trap.{Trap}

-- the accumulator and what goes with it, written: AX, DX:AX, EDX:EAX or RDX:RAX
abbrev pub with_accumulators : Width → ℕ → ℕ → State → State
with_accumulators w high low s = with_operand w (upper_accumulator w) high (with_operand w accumulator low s)

-- MUL, and IMUL with one operand: a product of twice the width
unfoldable pub multiplies : Bool → Row → ℕ → List ℕ → State → State
multiplies signed row next values s =
    let left = operand_value row.width accumulator s.registers values in
    let right = operand_value row.width row.operand s.registers values in
    let product = product_of row.width signed left right in
    let flags = flags_of_product row.width signed product (flags_of s.registers) in
    at_rip next (after_flags flags (with_accumulators row.width (high_half row.width product) (low_half row.width product) s))

-- what IMUL with two or three operands multiplies r/m by: its register, or its immediate
abbrev pub factor_of : Row → Registers → List ℕ → ℕ
factor_of row r values =
    if has_immediate row.form then cut row.width row.immediate
    else operand_value row.width (register_named row.register) r values

-- IMUL with two or three operands: the low half of the product
unfoldable pub multiplies_into_register : Row → ℕ → List ℕ → State → State
multiplies_into_register row next values s =
    let left = operand_value row.width row.operand s.registers values in
    let right = factor_of row s.registers values in
    let product = product_of row.width true left right in
    let flags = flags_of_product row.width true product (flags_of s.registers) in
    at_rip next (after_flags flags (with_operand row.width (register_named row.register) (low_half row.width product) s))

-- IMUL with one operand
unfoldable pub has_one_operand : Form → Bool
has_one_operand form = is_absent (operands_of form).second

-- IMUL
unfoldable pub multiplies_signed : Row → ℕ → List ℕ → State → State
multiplies_signed row next values s =
    if has_one_operand row.form then multiplies true row next values s else multiplies_into_register row next values s

-- quotient and remainder written, or #DE where there is no quotient that fits
abbrev pub divided : Width → ℕ → State → Result (ℕ × ℕ) NoQuotient → Result State Trap
divided w next s (Ok (quotient, remainder)) = Ok (at_rip next (with_accumulators w remainder quotient s))
divided w next s (Err none) = Err divide_error

-- DIV, IDIV
unfoldable pub divides : Bool → Row → ℕ → List ℕ → State → Result State Trap
divides signed row next values s =
    let high = operand_value row.width (upper_accumulator row.width) s.registers values in
    let low = operand_value row.width accumulator s.registers values in
    let divisor = operand_value row.width row.operand s.registers values in
    divided row.width next s (division_of row.width signed high low divisor)
