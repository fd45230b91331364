-- How a vcpu of an image starts, and what its record says.
use Rattle.std.specs.Prelude.{ℕ, [], ◌∷◌, false, Result, Ok}
use Rattle.std.specs.Int.{w16}
use Rattle.svm_model.specs.declared.register_file.Registers.{Registers}
use Rattle.svm_model.specs.declared.register_file.Segment.{Segment}
use Rattle.svm_model.specs.Formats.Image.{ImageFault}
use Rattle.svm_model.specs.Formats.ImageFields.{Source, ◌>>=◌, number_in, zero_in, root_in, linear_in, flags_in}

abbrev pub no_segment : Segment
no_segment = record { selector = 0; attributes = 0; limit = 0; base = 0 }

-- a register with a base and a limit alone
abbrev pub table_register : ℕ → ℕ → Segment
table_register base limit = record { selector = 0; attributes = 0; limit = limit; base = base }

-- CS: selector 8, a 64-bit code segment; SS: selector 10h, a writable data segment; TR: a busy task-state segment
abbrev pub start_cs : Segment
start_cs = record { selector = 0x08; attributes = 0x029B; limit = 0xFFFF_FFFF; base = 0 }

abbrev pub start_ss : Segment
start_ss = record { selector = 0x10; attributes = 0x0093; limit = 0; base = 0 }

abbrev pub start_tr : ℕ → ℕ → Segment
start_tr base limit = record { selector = 0; attributes = 0x008B; limit = limit; base = base }

-- what an image says of a vcpu
pub record Start : Type 0 where
  pub cr3 : ℕ
  pub rip : ℕ
  pub rsp : ℕ
  pub rflags : ℕ
  pub gdtr : Segment
  pub idtr : Segment
  pub tr : Segment

-- a vcpu starts in 64-bit mode with paging, CR0.WP and EFER.NXE, at CPL 0
unfoldable pub start_registers : Start → Registers
start_registers start = record {
  general = 0 ∷ 0 ∷ 0 ∷ 0 ∷ start.rsp ∷ 0 ∷ 0 ∷ 0 ∷ 0 ∷ 0 ∷ 0 ∷ 0 ∷ 0 ∷ 0 ∷ 0 ∷ 0 ∷ [];
  rip = start.rip;
  rflags = start.rflags;
  cr0 = 0x8001_0033;
  cr2 = 0;
  cr3 = start.cr3;
  cr4 = 0x00A0;
  efer = 0x0D00;
  dr6 = 0xFFFF_0FF0;
  dr7 = 0x0400;
  es = no_segment;
  cs = start_cs;
  ss = start_ss;
  ds = no_segment;
  fs = no_segment;
  gs = no_segment;
  ldtr = no_segment;
  tr = start.tr;
  gdtr = start.gdtr;
  idtr = start.idtr;
  cpl = 0;
  kernel_gs = 0;
  star = 0;
  lstar = 0;
  cstar = 0;
  sfmask = 0;
  sysenter_cs = 0;
  sysenter_esp = 0;
  sysenter_eip = 0;
  pat = 0x0007_0406_0007_0406;
  hsave = 0;
  tsc_add = 0;
  shadow = false;
}

-- CR3, RIP, RSP, RFLAGS; the bases of GDTR, IDTR and TR; their limits; two zero bytes
unfoldable pub vcpu_in : Source → Result (Registers × Source) ImageFault
vcpu_in s = do
  cr3 ← root_in s
  rip ← linear_in cr3.1
  rsp ← linear_in rip.1
  rflags ← flags_in rsp.1
  gdtr ← linear_in rflags.1
  idtr ← linear_in gdtr.1
  tr ← linear_in idtr.1
  gdtr_limit ← number_in w16 tr.1
  idtr_limit ← number_in w16 gdtr_limit.1
  tr_limit ← number_in w16 idtr_limit.1
  pad ← zero_in w16 tr_limit.1
  Ok (
    start_registers (record {
      cr3 = cr3.0;
      rip = rip.0;
      rsp = rsp.0;
      rflags = rflags.0;
      gdtr = table_register gdtr.0 gdtr_limit.0;
      idtr = table_register idtr.0 idtr_limit.0;
      tr = start_tr tr.0 tr_limit.0;
    }),
    pad.1,
  )
