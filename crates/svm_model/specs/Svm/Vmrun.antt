-- VMRUN: what it keeps, loads and holds (volume 2, 'VMRUN Instruction').
use Rattle.std.specs.Prelude.{ℕ, true, if◌then◌else◌, Option, Some, None, slice_set}
use Rattle.svm_model.specs.declared.vcpus.Vcpu.{Vcpu}
use Rattle.svm_model.specs.Instructions.Operands.{rax, rsp}
use Rattle.svm_model.specs.Svm.Vmcb.{Fields, value, field_bit, segment_in, has_nested_paging, v_tpr, v_irq, v_gif}
use Rattle.svm_model.specs.Svm.VmcbRules.{injection_of}
use Rattle.svm_model.specs.declared.register_file.Registers.{Registers}
use Rattle.svm_model.specs.declared.traps.Injection.{Injection}
use Rattle.svm_model.specs.declared.traps.Injection.TheVariants as injection
use Rattle.svm_model.specs.declared.traps.Trap.{Trap}
use Rattle.svm_model.specs.declared.vcpus.Inside.{Inside}
use Rattle.svm_model.specs.declared.vcpus.Kept.{Kept}
use Rattle.svm_model.specs.declared.vmcbs.Field.TheVariants as f

-- what is kept: the registers, with RIP at the next instruction
abbrev pub kept_of : Registers → ℕ → ℕ → Kept
kept_of r vmcb next_rip = record { registers = record r { rip = next_rip }; vmcb = vmcb }

-- PAT is loaded only with nested paging
unfoldable pub loaded : Fields → Registers → Registers
loaded v r = record r {
  general = slice_set (slice_set r.general rsp (value v f.Rsp)) rax (value v f.Rax);
  rip = value v f.Rip;
  rflags = value v f.Rflags;
  cr0 = value v f.Cr0;
  cr2 = value v f.Cr2;
  cr3 = value v f.Cr3;
  cr4 = value v f.Cr4;
  efer = value v f.Efer;
  dr6 = value v f.Dr6;
  dr7 = value v f.Dr7;
  es = segment_in f.EsSelector v;
  cs = segment_in f.CsSelector v;
  ss = segment_in f.SsSelector v;
  ds = segment_in f.DsSelector v;
  gdtr = segment_in f.GdtrSelector v;
  idtr = segment_in f.IdtrSelector v;
  cpl = value v f.Cpl;
  pat = if has_nested_paging v then value v f.GPat else r.pat;
  shadow = field_bit f.Shadow 0 v;
}

abbrev pub held_by : Injection → Option Trap
held_by (injection.Event trap) = Some trap
held_by injection.None = None
held_by injection.Illegal = None

abbrev pub inside_of : Registers → Fields → ℕ → ℕ → Inside
inside_of r v vmcb next_rip = record {
  kept = kept_of r vmcb next_rip;
  v_tpr = v_tpr v;
  v_irq = v_irq v;
  v_gif = v_gif v;
}

-- a legal VMRUN: the guest's state is loaded, GIF is set, and an injection is held for the next turn
unfoldable pub entered : Fields → ℕ → ℕ → Vcpu → Vcpu
entered v vmcb next_rip vcpu = record vcpu {
  registers = loaded v vcpu.registers;
  gif = true;
  held = held_by (injection_of (value v f.EventInj));
  inside = Some (inside_of vcpu.registers v vmcb next_rip);
}
