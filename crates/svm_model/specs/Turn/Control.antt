-- What a turn is under: nothing in L1, or the VMCB that was entered. The same turn under another control is that of an L2, or
-- that of a guest on a physical processor.
use Rattle.std.specs.Prelude.{ℕ, ◌+◌, ◌*◌, ◌%◌, ◌^◌, nat_lt, Bool, true, false, ◌&&◌, ◌||◌, not, if◌then◌else◌, Option, Some, None}
use Rattle.svm_model.specs.declared.vcpus.Vcpu.{Vcpu}
use Rattle.svm_model.specs.Memory.RegisterFile.{paging_of, no_execute_enable}
use Rattle.svm_model.specs.Memory.Bits.{bit, has}
use Rattle.svm_model.specs.Svm.Vmcb.{Fields, value, has_nested_paging, v_intr_masking, v_intr_prio, v_ign_tpr, has_v_gif}
use Rattle.svm_model.specs.declared.names.Frame.{Frame}
use Rattle.svm_model.specs.declared.page_tables.Outer.{Outer}
use Rattle.svm_model.specs.declared.page_tables.Outer.TheVariants.{Direct, Tables}
use Rattle.svm_model.specs.declared.register_file.Registers.{Registers}
use Rattle.svm_model.specs.declared.traps.Trap.{Trap}
use Rattle.svm_model.specs.declared.turns.Facts.{Facts}
use Rattle.svm_model.specs.declared.turns.Space.{Space}
use Rattle.svm_model.specs.declared.turns.Turn.{Turn}
use Rattle.svm_model.specs.declared.vcpus.Inside.{Inside}
use Rattle.svm_model.specs.declared.vmcbs.Field.TheVariants as f

-- the fields of the VMCB in use, and the page of the local APIC where the guest is offered one there
pub record Control : Type 0 where
  pub fields : Fields
  pub bar : Option Frame

-- The fields that a turn heeds: none in L1.
abbrev pub asks : (Fields → Bool) → Option Control → Bool
asks test None = false
asks test (Some c) = test c.fields

-- CR8 and virtual interrupts go by V_TPR, and physical ones by the IF of the host
abbrev pub masks_interrupts : Option Control → Bool
masks_interrupts = asks v_intr_masking

abbrev pub owns_gif : Option Control → Bool
owns_gif = asks has_v_gif

-- L1 reaches its APIC by its page; an L2 does not; a guest on a physical processor does where it has AVIC
abbrev pub is_some : Option Frame → Bool
is_some None = false
is_some (Some frame) = true

abbrev pub offers_apic : Option Control → Bool
offers_apic None = true
offers_apic (Some c) = is_some c.bar

-- What a vcpu in a VMCB has.

abbrev pub live_tpr : Option Inside → ℕ
live_tpr None = 0
live_tpr (Some i) = i.v_tpr

abbrev pub live_irq : Option Inside → Bool
live_irq None = false
live_irq (Some i) = i.v_irq

abbrev pub live_gif : Option Inside → Bool
live_gif None = false
live_gif (Some i) = i.v_gif

abbrev pub with_live_tpr : ℕ → Option Inside → Option Inside
with_live_tpr tpr None = None
with_live_tpr tpr (Some i) = Some (record i { v_tpr = tpr })

abbrev pub with_live_irq : Bool → Option Inside → Option Inside
with_live_irq irq None = None
with_live_irq irq (Some i) = Some (record i { v_irq = irq })

abbrev pub with_live_gif : Bool → Option Inside → Option Inside
with_live_gif gif None = None
with_live_gif gif (Some i) = Some (record i { v_gif = gif })

-- the registers that VMRUN kept: those of the host
abbrev pub host_of : Vcpu → Option Inside → Registers
host_of vcpu None = vcpu.registers
host_of vcpu (Some i) = i.kept.registers

-- The address space (volume 2, 'Nested Paging', 'Address Space Identifier').

abbrev pub asid_of : Option Control → ℕ
asid_of None = 0
asid_of (Some c) = value c.fields f.Asid

-- nested paging goes by N_CR3, and by the host's EFER.NXE
abbrev pub outer_of : Registers → Option Control → Outer
outer_of host None = Direct
outer_of host (Some c) =
    if has_nested_paging c.fields then Tables (record { root = value c.fields f.NCr3; no_execute = has host.efer no_execute_enable; bar = c.bar })
    else Direct

abbrev pub space_of : Option Control → Vcpu → Space
space_of control vcpu = record {
  asid = asid_of control;
  outer = outer_of (host_of vcpu vcpu.inside) control;
  paging = paging_of vcpu.registers;
}

-- What a turn knows under a control: TSC_OFFSET is added to the time-stamp counter (volume 2, 'TSC Offset'), and under
-- V_INTR_MASKING the task priority is V_TPR.
abbrev pub tsc_under : Option Control → ℕ → ℕ
tsc_under None tsc = tsc
tsc_under (Some c) tsc = (tsc + value c.fields f.TscOffset) % 2 ^ 64

abbrev pub facts_under : Option Control → Vcpu → Facts → Facts
facts_under control vcpu facts = record facts {
  tsc = tsc_under control facts.tsc;
  tpr = if masks_interrupts control then live_tpr vcpu.inside % 16 * 16 else facts.tpr;
}

-- What the work of a turn is chosen by (volume 2, 'Interrupt and Local APIC Support', 'Virtual Interrupts').

-- IF, bit 9
abbrev pub interrupt_flag : Registers → Bool
interrupt_flag r = bit 9 r.rflags

abbrev pub physical_flag : Option Control → Vcpu → Bool
physical_flag control vcpu =
    if masks_interrupts control then interrupt_flag (host_of vcpu vcpu.inside) else interrupt_flag vcpu.registers

-- V_IRQ, V_GIF where it is enabled, the priority, and IF
abbrev pub is_virtual_ready : Option Control → Vcpu → Bool
is_virtual_ready None vcpu = false
is_virtual_ready (Some c) vcpu =
    live_irq vcpu.inside && (not (has_v_gif c.fields) || live_gif vcpu.inside)
    && (v_ign_tpr c.fields || nat_lt (live_tpr vcpu.inside % 16) (v_intr_prio c.fields)) && interrupt_flag vcpu.registers

abbrev pub holds : Option Trap → Bool
holds None = false
holds (Some trap) = true

-- a vcpu and the vector that its APIC gives
abbrev pub turn_by : Option Control → Vcpu → Option ℕ → Turn
turn_by control vcpu interrupt = record {
  injection = holds vcpu.held;
  nmi = vcpu.nmi;
  nmi_blocked = vcpu.nmi_blocked;
  gif = vcpu.gif;
  interrupt = interrupt;
  interrupt_flag = physical_flag control vcpu;
  virtual_ready = is_virtual_ready control vcpu;
  shadow = vcpu.registers.shadow;
  halted = vcpu.halted;
}
