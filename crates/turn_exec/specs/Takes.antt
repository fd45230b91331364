-- When a vcpu takes the interrupts of its APIC.
use Rattle.std.specs.Prelude.{Bool, ◌&&◌, not, Option}
use Rattle.svm_model.specs.Turn.Control.{Control, physical_flag}
use Rattle.svm_model.specs.declared.vcpus.Vcpu.{Vcpu}

-- GIF and the flag that they go by are set, and no interrupt shadow holds them off
abbrev pub takes : Option Control → Vcpu → Bool
takes control vcpu = vcpu.gif && not vcpu.registers.shadow && physical_flag control vcpu
