-- What each system row does to the registers, what it writes, and what it asks for beyond them (volume 3, 'System
-- Instruction Reference').
use Rattle.std.specs.Prelude.{ℕ, ◌%◌, List, true, false, if◌then◌else◌, Option, Some, None, Result, Err}
use Rattle.svm_model.specs.Instructions.Exceptions.{invalid_opcode}
use Rattle.svm_model.specs.Instructions.Guards.{refusal}
use Rattle.svm_model.specs.Instructions.Locking.{lock_is_undefined}
use Rattle.svm_model.specs.Instructions.Operands.{State}
use Rattle.svm_model.specs.declared.rows.Op.{Op}
use Rattle.svm_model.specs.declared.rows.Op.TheVariants as op
use Rattle.svm_model.specs.declared.rows.Row.{Row}
use Rattle.svm_model.specs.declared.system.Outside.TheVariants as outside
use Rattle.svm_model.specs.declared.traps.Trap.{Trap}
use Rattle.svm_model.specs.declared.turns.Facts.{Facts}
use Rattle.svm_model.specs.Instructions.SystemState.{Systemic, asking, plainly, at_next, clears_interrupts, sets_interrupts, pushes_flags, pops_flags, reads_port, writes_port}
use Rattle.svm_model.specs.Instructions.ControlRows.{moves_control, moves_debug, with_pair, msr_named, reads_named, writes_named, identifies, loads_table, drops_page, swapped}

-- The rows. Those that ask for an interrupt, IRETQ and those of SVM leave the registers to what is asked for.

unfoldable pub system_op : Op → Row → ℕ → List ℕ → Facts → State → Result Systemic Trap
system_op op.Pause row next values facts s = plainly (at_next next s)
system_op op.Hlt row next values facts s = asking outside.Halt (at_next next s)
system_op op.Ud2 row next values facts s = Err invalid_opcode
system_op op.Cli row next values facts s = clears_interrupts next s
system_op op.Sti row next values facts s = sets_interrupts next s
system_op op.Pushfq row next values facts s = pushes_flags next s
system_op op.Popfq row next values facts s = pops_flags next values s
system_op op.Int3 row next values facts s = asking (outside.Interrupt 3 false) s
system_op op.Int row next values facts s = asking (outside.Interrupt (row.immediate % 256) true) s
system_op op.Iretq row next values facts s = asking outside.Return s
system_op op.In row next values facts s = reads_port row next s
system_op op.Out row next values facts s = writes_port row next s
system_op op.MovCr row next values facts s = moves_control row next facts s
system_op op.MovDr row next values facts s = moves_debug row next s
system_op op.Rdmsr row next values facts s = reads_named (msr_named s.registers) next facts s
system_op op.Wrmsr row next values facts s = writes_named (msr_named s.registers) next facts s
system_op op.Cpuid row next values facts s = identifies next facts s
system_op op.Rdtsc row next values facts s = plainly (at_next next (with_pair facts.tsc s))
system_op op.Lgdt row next values facts s = loads_table op.Lgdt next values s
system_op op.Lidt row next values facts s = loads_table op.Lidt next values s
system_op op.Invlpg row next values facts s = drops_page row next s
system_op op.Swapgs row next values facts s = plainly (at_next next (record s { registers = swapped s.registers }))
system_op op.Vmrun row next values facts s = asking outside.Svm s
system_op op.Vmmcall row next values facts s = Err invalid_opcode
system_op op.Vmload row next values facts s = asking outside.Svm s
system_op op.Vmsave row next values facts s = asking outside.Svm s
system_op op.Stgi row next values facts s = asking outside.Svm s
system_op op.Clgi row next values facts s = asking outside.Svm s
system_op op.Invlpga row next values facts s = asking outside.Svm s
system_op _ row next values facts s = Err invalid_opcode

abbrev pub on_refusal : Option Trap → Result Systemic Trap → Result Systemic Trap
on_refusal None rest = rest
on_refusal (Some trap) rest = Err trap

-- What a system row does. `next` is the address of the next row, `values` what the planned accesses read. A fault changes
-- nothing.
unfoldable pub system : Row → ℕ → List ℕ → Facts → State → Result Systemic Trap
system row next values facts s =
    on_refusal (refusal row s.registers) (if lock_is_undefined row then Err invalid_opcode else system_op row.op row next values facts s)
