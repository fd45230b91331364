-- Rows that shift and rotate (volume 3, 'ROL', 'ROR', 'SAL SHL', 'SAR', 'SHR').
use Rattle.std.specs.Prelude.{ℕ, Bool, false, if◌then◌else◌, List}
use Rattle.svm_model.specs.Instructions.Shifts.{shift_of, flags_of_shift}
use Rattle.svm_model.specs.Instructions.Operands.{State, cut, register_value, operand_value, with_operand, rcx, flags_of, after_flags, at_rip}
use Rattle.svm_model.specs.Instructions.RowTable.{operands_of, is_cl}
use Rattle.svm_model.specs.declared.flags.ShiftKind.{ShiftKind}
use Rattle.svm_model.specs.declared.register_file.Registers.{Registers}
use Rattle.svm_model.specs.declared.rows.Form.{Form}
use Rattle.svm_model.specs.declared.rows.Row.{Row}
use Rattle.svm_model.specs.declared.rows.Width.TheVariants.{W8}

-- the count stands in CL
unfoldable pub counts_by_cl : Form → Bool
counts_by_cl form = is_cl (operands_of form).second

abbrev pub count_of : Row → Registers → ℕ
count_of row r = if counts_by_cl row.form then register_value W8 rcx false r else cut W8 row.immediate

-- ROL, ROR, SHL, SHR, SAR. A count of 0 writes the operand as it was, so it clears the upper half of a 32-bit register.
unfoldable pub shifts : ShiftKind → Row → ℕ → List ℕ → State → State
shifts kind row next values s =
    let value = operand_value row.width row.operand s.registers values in
    let count = count_of row s.registers in
    let flags = flags_of_shift row.width kind value count (flags_of s.registers) in
    at_rip next (after_flags flags (with_operand row.width row.operand (shift_of row.width kind value count) s))
