-- A row in its turn, of its parts.
use Rattle.std.specs.Prelude.{Option, Result, Ok, Err}
use Rattle.svm_model.specs.Turn.Control.{Control}
use Rattle.svm_model.specs.Turn.Outsides.{Doing}
use Rattle.svm_model.specs.declared.vcpus.Vcpu.{Vcpu}
use Rattle.svm_model.specs.Instructions.Operands.{state}
use Rattle.svm_model.specs.Instructions.SystemState.{Systemic as SystemicRecord}
use Rattle.svm_model.specs.declared.traps.Trap.{Trap}
use Rattle.turn_exec.specs.declared.instructions.Instruction.{Instruction}
use Rattle.turn_exec.specs.declared.system_rows.Systemic.{Systemic}

-- what it is under, the vcpu before it, and its instruction
abbrev pub doing : Option Control → Vcpu → Instruction → Doing
doing control vcpu instruction = record {
  control = control;
  facts = instruction.facts.now;
  vcpu = vcpu;
  row = instruction.row.now;
  next_rip = instruction.next_rip;
}

-- what a system row gave
abbrev pub systemic_of : Result Systemic Trap → Result SystemicRecord Trap
systemic_of (Ok done) = Ok (record { state = state done.registers done.results; outside = done.outside })
systemic_of (Err trap) = Err trap
