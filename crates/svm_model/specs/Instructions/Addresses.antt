-- The linear addresses of operands in memory (volume 3, 'Segment-Override Prefixes'; volume 2, 'Segment Registers in
-- 64-Bit Mode').
use Rattle.std.specs.Prelude.{ℕ, ◌+◌, ◌%◌, ◌^◌, ◌==◌, ◌||◌, ◌&&◌, Bool, false, if◌then◌else◌, Option, Some, None}
use Rattle.svm_model.specs.Instructions.Operands.{rsp, rbp, effective_address}
use Rattle.svm_model.specs.declared.rows.Operand.{Operand}
use Rattle.svm_model.specs.declared.rows.Operand.TheVariants.{Memory}
use Rattle.svm_model.specs.declared.register_file.Registers.{Registers}

-- the base of FS or GS under their prefixes; in 64-bit mode the other segments have base 0
abbrev pub segment_base : Operand → Registers → ℕ
segment_base (Memory base index scale displacement next segment) r =
    if segment == 4 then r.fs.base else (if segment == 5 then r.gs.base else 0)
segment_base _ r = 0

-- the linear address of a memory operand
abbrev pub linear_address : Operand → Registers → ℕ → ℕ
linear_address operand r next = (effective_address operand next r + segment_base operand r) % 2 ^ 64

abbrev pub is_stack_register : Option ℕ → Bool
is_stack_register (Some index) = index == rsp || index == rbp
is_stack_register None = false

-- an operand in the stack segment: its base is RSP or RBP, and no prefix names FS or GS
abbrev pub is_on_stack : Operand → Bool
is_on_stack (Memory base index scale displacement next segment) = segment == 0 && is_stack_register base
is_on_stack _ = false
