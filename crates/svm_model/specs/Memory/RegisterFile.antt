-- What the registers of a vcpu say (volume 2, 'System Resources').
use Rattle.std.specs.Prelude.{◌≡◌, ℕ, ◌+◌, ◌-◌, ◌/◌, ◌%◌, ◌^◌, ◌<◌, nat_le, nat_lt, Bool, ◌||◌}
use Rattle.svm_model.specs.Memory.Bits.{has}
use Rattle.svm_model.specs.declared.page_tables.Paging.{Paging}
use Rattle.svm_model.specs.declared.register_file.Registers.{Registers}

-- CR0.WP, bit 16: supervisor writes heed read-only pages
abbrev pub write_protect : ℕ
write_protect = 2 ^ 16

-- CR4.PGE, bit 7: leaves may be global
abbrev pub page_global : ℕ
page_global = 2 ^ 7

-- EFER.NXE, bit 11: entries may forbid fetches
abbrev pub no_execute_enable : ℕ
no_execute_enable = 2 ^ 11

-- bits 63:48 of the address copy bit 47
abbrev pub is_canonical : ℕ → Bool
is_canonical address = nat_lt address (2 ^ 47) || nat_le (2 ^ 64 - 2 ^ 47) address

-- so many bytes from an address on are canonical where the first is, and are not where it is not
abbrev pub AreCanonicalAlike : ℕ → ℕ → Type 0
AreCanonicalAlike address count = (offset : ℕ) → offset < count → is_canonical (address + offset) ≡ is_canonical address

-- what the walk takes from the control registers
abbrev pub paging_of : Registers → Paging
paging_of r = record {
  root = r.cr3;
  write_protect = has r.cr0 write_protect;
  no_execute = has r.efer no_execute_enable;
  page_global = has r.cr4 page_global;
}

-- accesses at privilege level 3 are those of a user
abbrev pub is_user : Registers → Bool
is_user r = nat_le 3 r.cpl

-- the I/O privilege level, bits 13:12 of RFLAGS
abbrev pub io_privilege : Registers → ℕ
io_privilege r = r.rflags / 2 ^ 12 % 4
