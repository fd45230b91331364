-- A guest and its vcpus.
use Rattle.std.specs.Prelude.{ℕ, List, Option, Some, None}
use Rattle.svm_model.specs.Machine.Apic.{Apic}
use Rattle.svm_model.specs.declared.names.Ended.{Ended}
use Rattle.svm_model.specs.declared.vcpus.Inside.{Inside}
use Rattle.svm_model.specs.declared.vcpus.Vcpu.{Vcpu}

-- L1, or L2 inside a VMCB
abbrev pub level_in : Option Inside → ℕ
level_in None = 1
level_in (Some i) = 2

-- a guest: its memory by guest-physical address, its end where it was ended, its vcpus, and the APIC of each
pub record Guest : Type 0 where
  pub memory : List ℕ
  pub ended : Option Ended
  pub vcpus : List Vcpu
  pub apics : List Apic
