-- #VMEXIT: what it stores in the VMCB, and what it brings back (volume 2, '#VMEXIT').
use Rattle.std.specs.Prelude.{ℕ, ◌+◌, ◌^◌, List, [], ◌∷◌, ◌++◌, Bool, false, if◌then◌else◌, Option, None, slice_set}
use Rattle.svm_model.specs.Memory.Bits.{bits_where, replaced}
use Rattle.svm_model.specs.declared.vcpus.Vcpu.{Vcpu}
use Rattle.svm_model.specs.Instructions.Operands.{rax, rsp, whole_register}
use Rattle.svm_model.specs.Svm.Vmcb.{Fields, FieldValue, value, has_nested_paging}
use Rattle.svm_model.specs.Svm.VmcbRules.{interrupt_information}
use Rattle.svm_model.specs.declared.exits.Exit.{Exit}
use Rattle.svm_model.specs.declared.register_file.Registers.{Registers}
use Rattle.svm_model.specs.declared.register_file.Segment.{Segment}
use Rattle.svm_model.specs.declared.traps.Trap.{Trap}
use Rattle.svm_model.specs.declared.vcpus.Inside.{Inside}
use Rattle.svm_model.specs.declared.vmcbs.Field.{Field}
use Rattle.svm_model.specs.declared.vmcbs.Field.TheVariants as f

-- what a processor is behind each exit, in its registers
abbrev pub host_registers : Registers → Registers
host_registers r = record r { dr7 = 0x400; cpl = 0; shadow = false }

-- what is brought back; PAT only where nested paging was in use
unfoldable pub brought_back : Bool → Registers → Registers → Registers
brought_back nested kept r = host_registers (record r {
  general = slice_set (slice_set r.general rsp (whole_register rsp kept)) rax (whole_register rax kept);
  rip = kept.rip;
  rflags = kept.rflags;
  cr0 = kept.cr0;
  cr3 = kept.cr3;
  cr4 = kept.cr4;
  efer = kept.efer;
  es = kept.es;
  cs = kept.cs;
  ss = kept.ss;
  ds = kept.ds;
  gdtr = kept.gdtr;
  idtr = kept.idtr;
  pat = if nested then kept.pat else r.pat;
})

-- GIF, a halt and an injection that was held are cleared
abbrev pub left_vcpu : Registers → Vcpu → Vcpu
left_vcpu r vcpu = record vcpu { registers = r; gif = false; held = None; halted = false; inside = None }

-- What is stored, one line a field; `v` are the fields as they are found there.

abbrev pub stored : Field → ℕ → FieldValue
stored field value = record { field = field; value = value }

-- a segment or table register, by the field of its selector and the three that follow
abbrev pub stored_segment : Field → Field → Field → Field → Segment → List FieldValue
stored_segment selector attributes limit base s =
    stored selector s.selector ∷ stored attributes s.attributes ∷ stored limit s.limit ∷ stored base s.base ∷ []

-- some bits of a field; the others stay
abbrev pub stored_bits : Field → ℕ → ℕ → Fields → FieldValue
stored_bits field mask bits v = stored field (replaced mask (value v field) bits)

unfoldable pub stored_segments : Registers → List FieldValue
stored_segments r =
    stored_segment f.EsSelector f.EsAttributes f.EsLimit f.EsBase r.es
    ++ stored_segment f.CsSelector f.CsAttributes f.CsLimit f.CsBase r.cs
    ++ stored_segment f.SsSelector f.SsAttributes f.SsLimit f.SsBase r.ss
    ++ stored_segment f.DsSelector f.DsAttributes f.DsLimit f.DsBase r.ds
    ++ stored_segment f.GdtrSelector f.GdtrAttributes f.GdtrLimit f.GdtrBase r.gdtr
    ++ stored_segment f.IdtrSelector f.IdtrAttributes f.IdtrLimit f.IdtrBase r.idtr

-- PAT only where nested paging was in use
abbrev pub stored_pat : Bool → Registers → List FieldValue
stored_pat nested r = if nested then stored f.GPat r.pat ∷ [] else []

-- CPL, the control registers and the debug registers
abbrev pub stored_controls : Registers → List FieldValue
stored_controls r =
    stored f.Cpl r.cpl ∷
    stored f.Efer r.efer ∷
    stored f.Cr4 r.cr4 ∷
    stored f.Cr3 r.cr3 ∷
    stored f.Cr0 r.cr0 ∷
    stored f.Dr7 r.dr7 ∷
    stored f.Dr6 r.dr6 ∷
    []

-- RFLAGS, RIP, RSP, RAX, CR2 and the interrupt shadow
abbrev pub stored_flow : Registers → Fields → List FieldValue
stored_flow r v =
    stored f.Rflags r.rflags ∷
    stored f.Rip r.rip ∷
    stored f.Rsp (whole_register rsp r) ∷
    stored f.Rax (whole_register rax r) ∷
    stored f.Cr2 r.cr2 ∷
    stored_bits f.Shadow 1 (bits_where r.shadow 1) v ∷
    []

unfoldable pub stored_state : Bool → Registers → Fields → List FieldValue
stored_state nested r v = stored_controls r ++ stored_flow r v ++ stored_segments r ++ stored_pat nested r

-- the exit, with the event that was in delivery; EVENTINJ's bit 31 is cleared
unfoldable pub stored_exit : Exit → Option Trap → Fields → List FieldValue
stored_exit exit delivering v =
    stored f.ExitCode exit.code ∷
    stored f.ExitInfo1 exit.info1 ∷
    stored f.ExitInfo2 exit.info2 ∷
    stored f.ExitIntInfo (interrupt_information delivering) ∷
    stored f.NextRip exit.next_rip ∷
    stored_bits f.EventInj (2 ^ 31) 0 v ∷
    []

-- bits 9:0 of the virtual-interrupt word: V_TPR, V_IRQ and V_GIF
abbrev pub live_word : Inside → ℕ
live_word i = i.v_tpr + bits_where i.v_irq (2 ^ 8) + bits_where i.v_gif (2 ^ 9)

abbrev pub stored_live : Inside → Fields → List FieldValue
stored_live i v = stored_bits f.VirtualInterrupt 0x3FF (live_word i) v ∷ []

-- all that a #VMEXIT stores but for the virtual-interrupt word, whose live bits are the caller's to put there
unfoldable pub stored_on_exit : Registers → Exit → Option Trap → Fields → List FieldValue
stored_on_exit r exit delivering v = stored_state (has_nested_paging v) r v ++ stored_exit exit delivering v
