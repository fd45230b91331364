-- The vcpus and the APICs of a guest behind what one of its vcpus sent.
use Rattle.std.specs.Prelude.{ℕ, ◌==◌, List, if◌then◌else◌, Option, Some, None}
use Rattle.svm_model.specs.Machine.Apic.{Apic}
use Rattle.svm_model.specs.Machine.ApicTargets.{targets_of}
use Rattle.svm_model.specs.Machine.Turns.{all_accepted, with_nmis}
use Rattle.svm_model.specs.declared.apics.Ipi.{Ipi}
use Rattle.svm_model.specs.declared.vcpus.Vcpu.{Vcpu}
use Rattle.plain_machine.specs.Slots.{Kept}

abbrev pub vcpus_sent_to : Option Ipi → ℕ → List Apic → List Vcpu → List Vcpu
vcpus_sent_to None sender apics vcpus = vcpus
vcpus_sent_to (Some ipi) sender apics vcpus = if ipi.mode == 4 then with_nmis (targets_of ipi sender apics) vcpus else vcpus

abbrev pub apics_sent_to : Option Ipi → ℕ → List Apic → List Apic
apics_sent_to None sender apics = apics
apics_sent_to (Some ipi) sender apics = if ipi.mode == 4 then apics else all_accepted (targets_of ipi sender apics) ipi.vector apics

abbrev pub sent_to : Option Ipi → ℕ → Kept → Kept
sent_to sent sender slot = record slot {
  vcpus = vcpus_sent_to sent sender slot.apics slot.vcpus;
  apics = apics_sent_to sent sender slot.apics;
}
