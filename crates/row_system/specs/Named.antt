-- What the code's names of MSRs, of their writes and of the leaves of CPUID mean.
use Rattle.std.specs.Prelude.{◌≡◌, ℕ, Option, Some, None}
use Rattle.svm_model.specs.Instructions.Cpuid.{Leaf, leaf}
use Rattle.svm_model.specs.Instructions.Msrs as msr
use Rattle.svm_model.specs.Instructions.Msrs.{MsrWritten}
use Rattle.svm_model.specs.declared.register_file.Registers.{Registers}
use Rattle.row_system.specs.declared.cpuid.CpuidLeaf.{CpuidLeaf}
use Rattle.row_system.specs.declared.msrs.Msr.{Msr}
use Rattle.row_system.specs.declared.msrs.Msr.TheVariants as code
use Rattle.row_system.specs.declared.msrs.Written.{Written}
use Rattle.row_system.specs.declared.msrs.Written.TheVariants as written

abbrev pub named : Msr → msr.Msr
named code.Tsc = msr.Tsc
named code.ApicBase = msr.ApicBase
named code.SysenterCs = msr.SysenterCs
named code.SysenterEsp = msr.SysenterEsp
named code.SysenterEip = msr.SysenterEip
named code.Pat = msr.Pat
named code.Efer = msr.Efer
named code.Star = msr.Star
named code.Lstar = msr.Lstar
named code.Cstar = msr.Cstar
named code.Sfmask = msr.Sfmask
named code.FsBase = msr.FsBase
named code.GsBase = msr.GsBase
named code.KernelGsBase = msr.KernelGsBase
named code.VmCr = msr.VmCr
named code.VmHsavePa = msr.VmHsavePa

abbrev pub named_of : Option Msr → Option msr.Msr
named_of None = None
named_of (Some m) = Some (named m)

-- what a write came to, with the registers that it left
abbrev pub write_of : Written → Registers → MsrWritten
write_of written.Done r = msr.Wrote r
write_of written.Refused r = msr.Refused
write_of (written.Leaves rule) r = msr.Leaves rule

-- a write that is not done leaves the registers as they were
abbrev pub KeptUnlessDone : Written → Registers → Registers → Type 0
KeptUnlessDone written.Done old new = Unit {0}
KeptUnlessDone written.Refused old new = new ≡ old
KeptUnlessDone (written.Leaves rule) old new = new ≡ old

abbrev pub leaf_in : ℕ → CpuidLeaf → Leaf
leaf_in number l = leaf number l.eax l.ebx l.ecx l.edx
