-- VMLOAD and VMSAVE: what they move (volume 3, 'VMLOAD', 'VMSAVE').
use Rattle.std.specs.Prelude.{ℕ, ◌+◌, ◌%◌, ◌^◌, nat_le, List, [], ◌∷◌, ◌++◌, if◌then◌else◌, Option, Some, None, length, max}
use Rattle.svm_model.specs.Svm.Vmcb.{Fields, FieldValue, value, segment_in}
use Rattle.svm_model.specs.declared.register_file.Registers.{Registers}
use Rattle.svm_model.specs.declared.vmcbs.Field.TheVariants as f
use Rattle.svm_model.specs.declared.windows.OutsideMemory.{OutsideMemory}
use Rattle.svm_model.specs.Svm.Vmexit.{stored, stored_segment}

-- the least byte that they touch is that of FS; an address has 64 bits
abbrev pub moved_at : List ℕ → ℕ → Option OutsideMemory
moved_at memory vmcb =
    if nat_le (vmcb + 4096) (length memory) then None else Some (record { address = max ((vmcb + 0x440) % 2 ^ 64) (length memory) })

unfoldable pub vmloaded : Fields → Registers → Registers
vmloaded v r = record r {
  fs = segment_in f.FsSelector v;
  gs = segment_in f.GsSelector v;
  tr = segment_in f.TrSelector v;
  ldtr = segment_in f.LdtrSelector v;
  kernel_gs = value v f.KernelGsBase;
  star = value v f.Star;
  lstar = value v f.Lstar;
  cstar = value v f.Cstar;
  sfmask = value v f.Sfmask;
  sysenter_cs = value v f.SysenterCs;
  sysenter_esp = value v f.SysenterEsp;
  sysenter_eip = value v f.SysenterEip;
}

-- What VMSAVE stores: the base of GS that SWAPGS takes, and the MSRs of SYSCALL.
abbrev pub saved_syscall : Registers → List FieldValue
saved_syscall r =
    stored f.KernelGsBase r.kernel_gs ∷
    stored f.Star r.star ∷
    stored f.Lstar r.lstar ∷
    stored f.Cstar r.cstar ∷
    stored f.Sfmask r.sfmask ∷
    []

-- the MSRs of SYSENTER
abbrev pub saved_sysenter : Registers → List FieldValue
saved_sysenter r =
    stored f.SysenterCs r.sysenter_cs ∷
    stored f.SysenterEsp r.sysenter_esp ∷
    stored f.SysenterEip r.sysenter_eip ∷
    []

-- FS, GS, TR and LDTR
abbrev pub saved_segments : Registers → List FieldValue
saved_segments r =
    stored_segment f.FsSelector f.FsAttributes f.FsLimit f.FsBase r.fs
    ++ stored_segment f.GsSelector f.GsAttributes f.GsLimit f.GsBase r.gs
    ++ stored_segment f.TrSelector f.TrAttributes f.TrLimit f.TrBase r.tr
    ++ stored_segment f.LdtrSelector f.LdtrAttributes f.LdtrLimit f.LdtrBase r.ldtr

unfoldable pub vmsaved : Registers → List FieldValue
vmsaved r = saved_syscall r ++ saved_sysenter r ++ saved_segments r
