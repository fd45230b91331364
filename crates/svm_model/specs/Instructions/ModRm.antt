-- ModRM, SIB and displacement (volume 3, 'ModRM and SIB Bytes', 'Displacement Bytes' and 'RIP-Relative Addressing').
use Rattle.std.specs.Prelude.{ℕ, ◌+◌, ◌-◌, ◌/◌, ◌%◌, List, Bool, true, false, not, ◌&&◌, ◌==◌, nat_le, nat_lt, if◌then◌else◌, Option, Some, None, Result, Ok}
use Rattle.svm_model.specs.Instructions.InstructionBytes.{◌>>=◌, byte_at, double_at}
use Rattle.svm_model.specs.declared.row_lines.Displacement.{Displacement}
use Rattle.svm_model.specs.declared.row_lines.Displacement.TheVariants as sizes
use Rattle.svm_model.specs.declared.row_lines.Rex.{Rex}
use Rattle.svm_model.specs.declared.row_lines.Unread.{Unread}
use Rattle.svm_model.specs.declared.rows.Operand.{Operand}
use Rattle.svm_model.specs.declared.rows.Operand.TheVariants.{Register, Memory}

-- the fields of a ModRM byte: mod in bits 7:6, reg in bits 5:3, r/m in bits 2:0
abbrev pub mode_of : ℕ → ℕ
mode_of modrm = modrm / 64

abbrev pub reg_of : ℕ → ℕ
reg_of modrm = modrm / 8 % 8

abbrev pub rm_of : ℕ → ℕ
rm_of modrm = modrm % 8

-- a number of 8 or 32 bits, extended by its sign to 64
abbrev pub extended_8 : ℕ → ℕ
extended_8 n = if nat_lt n 0x80 then n else n + 0xffff_ffff_ffff_ff00

abbrev pub extended_32 : ℕ → ℕ
extended_32 n = if nat_lt n 0x8000_0000 then n else n + 0xffff_ffff_0000_0000

unfoldable pub displacement_at : Displacement → List ℕ → Result (ℕ × List ℕ) Unread
displacement_at sizes.Absent bytes = Ok (0, bytes)
displacement_at sizes.Small bytes = do
  d ← byte_at bytes
  Ok (extended_8 d.0, d.1)
displacement_at sizes.Large bytes = do
  d ← double_at bytes
  Ok (extended_32 d.0, d.1)

-- the displacement that mod asks for
abbrev pub size_of_mode : ℕ → Displacement
size_of_mode mode = if mode == 1 then sizes.Small else (if mode == 2 then sizes.Large else sizes.Absent)

-- with mod 0 a base of 5 is none, whatever REX.B is, and a displacement of 32 bits follows
abbrev pub is_baseless : ℕ → ℕ → Bool
is_baseless mode number = mode == 0 && number == 5

abbrev pub base_of : Rex → ℕ → ℕ → Option ℕ
base_of rex mode number = if is_baseless mode number then None else Some (number + rex.base)

abbrev pub displacement_size : ℕ → ℕ → Displacement
displacement_size mode number = if is_baseless mode number then sizes.Large else size_of_mode mode

-- the fields of a SIB byte: the factor in bits 7:6, the index in bits 5:3, where 4 with REX.X clear is none, and the base
-- in bits 2:0
abbrev pub index_of : Rex → ℕ → Option ℕ
index_of rex sib = if sib / 8 % 8 + rex.index == 4 then None else Some (sib / 8 % 8 + rex.index)

-- the factor of an index; where there is none it is 1 whatever the byte says, so that equal operands are equal
abbrev pub scale_of : Option ℕ → ℕ → ℕ
scale_of None sib = 1
scale_of (Some index) sib =
    if sib / 64 == 0 then 1 else (if sib / 64 == 1 then 2 else (if sib / 64 == 2 then 4 else 8))

unfoldable pub sib_at : ℕ → Rex → ℕ → List ℕ → Result (Operand × List ℕ) Unread
sib_at segment rex mode bytes = do
  sib ← byte_at bytes
  d ← displacement_at (displacement_size mode (sib.0 % 8)) sib.1
  Ok (Memory (base_of rex mode (sib.0 % 8)) (index_of rex sib.0) (scale_of (index_of rex sib.0) sib.0) d.0 false segment, d.1)

-- among registers of 8 bits 4 to 7 are AH, CH, DH and BH where there is no REX prefix
abbrev pub is_high : Rex → Bool → ℕ → Bool
is_high rex small number = small && (not rex.given && nat_le 4 number)

-- a register as an operand
abbrev pub register_operand : Rex → Bool → ℕ → Operand
register_operand rex small number =
    if is_high rex small number then Register (number - 4) true else Register (number + rex.base) false

-- a register that reg names: 16 to 19 are AH, CH, DH and BH
abbrev pub register_code : Rex → Bool → ℕ → ℕ
register_code rex small number = if is_high rex small number then number + 12 else number + rex.register

-- the operand that mod and r/m name; `small` says that a register has 8 bits
unfoldable pub operand_at : ℕ → Rex → Bool → ℕ → List ℕ → Result (Operand × List ℕ) Unread
operand_at segment rex small modrm bytes =
    if mode_of modrm == 3 then Ok (register_operand rex small (rm_of modrm), bytes)
    else (if rm_of modrm == 4 then sib_at segment rex (mode_of modrm) bytes
    else (do
      d ← displacement_at (displacement_size (mode_of modrm) (rm_of modrm)) bytes
      Ok (Memory (base_of rex (mode_of modrm) (rm_of modrm)) None 1 d.0 (is_baseless (mode_of modrm) (rm_of modrm)) segment, d.1)))
