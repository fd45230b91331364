-- The model-specific registers that are offered (volume 2, 'Cross-Listing of MSRs'). Any other is #GP(0).
use Rattle.std.specs.Prelude.{ℕ, ◌+◌, ◌-◌, ◌%◌, ◌^◌, nat_le, List, [], ◌∷◌, Bool, ◌==◌, ◌&&◌, ◌||◌, not, if◌then◌else◌, Option, Some, None}
use Rattle.svm_model.specs.Memory.Bits.{bit, bits_from, has_some, with_bits}
use Rattle.svm_model.specs.Instructions.Guards.{is_page}
use Rattle.svm_model.specs.Memory.RegisterFile.{is_canonical}
use Rattle.svm_model.specs.declared.register_file.Registers.{Registers}
use Rattle.svm_model.specs.declared.turns.Facts.{Facts}

pub data Msr : Type 0 where
  Tsc : Msr
  ApicBase : Msr
  SysenterCs : Msr
  SysenterEsp : Msr
  SysenterEip : Msr
  Pat : Msr
  Efer : Msr
  Star : Msr
  Lstar : Msr
  Cstar : Msr
  Sfmask : Msr
  FsBase : Msr
  GsBase : Msr
  KernelGsBase : Msr
  VmCr : Msr
  VmHsavePa : Msr

pub record MsrLine : Type 0 where
  pub number : ℕ
  pub msr : Msr

abbrev pub line : ℕ → Msr → MsrLine
line number msr = record { number = number; msr = msr }

abbrev pub msr_lines : List MsrLine
msr_lines =
    line 0x00000010 Tsc ∷
    line 0x0000001B ApicBase ∷
    line 0x00000174 SysenterCs ∷
    line 0x00000175 SysenterEsp ∷
    line 0x00000176 SysenterEip ∷
    line 0x00000277 Pat ∷
    line 0xC0000080 Efer ∷
    line 0xC0000081 Star ∷
    line 0xC0000082 Lstar ∷
    line 0xC0000083 Cstar ∷
    line 0xC0000084 Sfmask ∷
    line 0xC0000100 FsBase ∷
    line 0xC0000101 GsBase ∷
    line 0xC0000102 KernelGsBase ∷
    line 0xC0010114 VmCr ∷
    line 0xC0010117 VmHsavePa ∷
    []

abbrev pub msr_among : List MsrLine → ℕ → Option Msr
msr_among [] number = None
msr_among (l ∷ lines) number = if l.number == number then Some l.msr else msr_among lines number

unfoldable pub msr_of : ℕ → Option Msr
msr_of number = msr_among msr_lines number

-- the APIC's page, enabled; vcpu 0 is the bootstrap processor
abbrev pub apic_base : Facts → ℕ
apic_base facts = if facts.apic_id == 0 then 0xFEE00900 else 0xFEE00800

-- Reads.

unfoldable pub msr_value : Msr → Facts → Registers → ℕ
msr_value Tsc facts r = facts.tsc
msr_value ApicBase facts r = apic_base facts
msr_value SysenterCs facts r = r.sysenter_cs
msr_value SysenterEsp facts r = r.sysenter_esp
msr_value SysenterEip facts r = r.sysenter_eip
msr_value Pat facts r = r.pat
msr_value Efer facts r = r.efer
msr_value Star facts r = r.star
msr_value Lstar facts r = r.lstar
msr_value Cstar facts r = r.cstar
msr_value Sfmask facts r = r.sfmask
msr_value FsBase facts r = r.fs.base
msr_value GsBase facts r = r.gs.base
msr_value KernelGsBase facts r = r.kernel_gs
msr_value VmCr facts r = 0
msr_value VmHsavePa facts r = r.hsave

-- Writes.

-- a write is done, faults, or leaves the modes that are offered
pub data MsrWritten : Type 0 where
  Wrote : (registers : Registers) → MsrWritten
  Refused : MsrWritten
  Leaves : (rule : ℕ) → MsrWritten

abbrev pub wrote_where : Bool → Registers → MsrWritten
wrote_where test r = if test then Wrote r else Refused

-- a memory type of PAT: 0, 1, 4, 5, 6 or 7
abbrev pub is_memory_type : ℕ → Bool
is_memory_type n = nat_le n 1 || (nat_le 4 n && nat_le n 7)

abbrev pub is_pat : ℕ → Bool
is_pat value =
    is_memory_type (bits_from 0 8 value) && is_memory_type (bits_from 8 8 value) && is_memory_type (bits_from 16 8 value) && is_memory_type (bits_from 24 8 value)
    && is_memory_type (bits_from 32 8 value) && is_memory_type (bits_from 40 8 value) && is_memory_type (bits_from 48 8 value) && is_memory_type (bits_from 56 8 value)

-- EFER: a bit that is not offered; LME 0 leaves long mode; LMA stays 1
abbrev pub with_efer : ℕ → Registers → MsrWritten
with_efer value r =
    if has_some value (2 ^ 64 - 1 - 0x1D01) then Refused
    else if not (bit 8 value) then Leaves 3
    else Wrote (record r { efer = with_bits value (2 ^ 10) })

abbrev pub with_fs_base : ℕ → Registers → Registers
with_fs_base value r = record r { fs = record r.fs { base = value } }

abbrev pub with_gs_base : ℕ → Registers → Registers
with_gs_base value r = record r { gs = record r.gs { base = value } }

-- the time-stamp counter is the event's number and an addend
unfoldable pub with_msr : Msr → ℕ → Facts → Registers → MsrWritten
with_msr Tsc value facts r = Wrote (record r { tsc_add = (value + (2 ^ 64 - facts.event)) % 2 ^ 64 })
with_msr ApicBase value facts r = if value == apic_base facts then Wrote r else Leaves 7
with_msr SysenterCs value facts r = Wrote (record r { sysenter_cs = value })
with_msr SysenterEsp value facts r = Wrote (record r { sysenter_esp = value % 2 ^ 32 })
with_msr SysenterEip value facts r = Wrote (record r { sysenter_eip = value % 2 ^ 32 })
with_msr Pat value facts r = wrote_where (is_pat value) (record r { pat = value })
with_msr Efer value facts r = with_efer value r
with_msr Star value facts r = Wrote (record r { star = value })
with_msr Lstar value facts r = wrote_where (is_canonical value) (record r { lstar = value })
with_msr Cstar value facts r = wrote_where (is_canonical value) (record r { cstar = value })
with_msr Sfmask value facts r = Wrote (record r { sfmask = value })
with_msr FsBase value facts r = wrote_where (is_canonical value) (with_fs_base value r)
with_msr GsBase value facts r = wrote_where (is_canonical value) (with_gs_base value r)
with_msr KernelGsBase value facts r = wrote_where (is_canonical value) (record r { kernel_gs = value })
with_msr VmCr value facts r = Wrote r
with_msr VmHsavePa value facts r = wrote_where (is_page value) (record r { hsave = value })
