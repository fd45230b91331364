-- Each part of a form after its opcode is a reader.
use Rattle.std.proofs.Common.{◌≡◌, ◌==◌, ℕ, ◌+◌, ◌*◌, ◌%◌, inl, List, [], ◌∷◌, Bool, false, None, refl, lit<}
use Rattle.row_table.proofs.Bind.{then, IsReader-then}
use Rattle.row_table.proofs.Readers.{Reader, IsReader}
use Rattle.row_table.proofs.Single.{pure, IsReader-pure, IsReader-same, IsReader-cond, IsReader-on_byte, on_byte}
use Rattle.svm_model.specs.Instructions.Operands.{cut}
use Rattle.svm_model.specs.Instructions.RowParts.{full_at, whole_at, immediate_at, is_of_byte, operand_by, operand_field_at}
use Rattle.svm_model.specs.Instructions.InstructionBytes.{byte_at, word_at, double_at, quad_at}
use Rattle.svm_model.specs.Instructions.ModRm.{extended_8, extended_32, displacement_at, displacement_size, base_of, index_of, scale_of, is_baseless, mode_of, rm_of, register_operand, sib_at, operand_at}
use Rattle.svm_model.specs.declared.row_lines.Displacement.{Displacement}
use Rattle.svm_model.specs.declared.row_lines.Displacement.TheVariants as sizes
use Rattle.svm_model.specs.declared.row_lines.OperandFields.{OperandFields}
use Rattle.svm_model.specs.declared.row_lines.OperandFields.TheVariants as fields
use Rattle.svm_model.specs.declared.row_lines.Immediate.{Immediate}
use Rattle.svm_model.specs.declared.row_lines.Immediate.TheVariants as immediate
use Rattle.svm_model.specs.declared.row_lines.OpenedLine.{OpenedLine}
use Rattle.svm_model.specs.declared.row_lines.Rex.{Rex}
use Rattle.svm_model.specs.declared.rows.Operand.TheVariants as operand
use Rattle.svm_model.specs.declared.rows.Width.{Width}
use Rattle.svm_model.specs.declared.rows.Width.TheVariants as width

-- a value made of one that was read
abbrev pub mapped : {X Y : Type 0} → (X → Y) → Reader X → Reader Y
mapped f p = then p (λ x. pure (f x))

pub IsReader-mapped : {X Y : Type 0} (f : X → Y) (p : Reader X) → IsReader p → IsReader (mapped f p)
IsReader-mapped f p r = IsReader-then p (λ x. pure (f x)) r (λ x. IsReader-pure (f x))

by_cases : (bs : List ℕ) → byte_at bs ≡ on_byte pure bs
unfolding byte_at
by_cases [] = refl
by_cases (b ∷ bs) = refl

pub IsReader-byte : IsReader byte_at
unfolding byte_at
IsReader-byte = IsReader-same byte_at (on_byte pure) by_cases (IsReader-on_byte pure (λ b. inl (IsReader-pure b)) 0 (lit< tt) (IsReader-pure 0))

pub IsReader-word : IsReader word_at
unfolding word_at
IsReader-word = IsReader-then byte_at _ IsReader-byte (λ low. IsReader-mapped (λ high. low + 0x100 * high) byte_at IsReader-byte)

pub IsReader-double : IsReader double_at
unfolding double_at
IsReader-double = IsReader-then word_at _ IsReader-word (λ low. IsReader-mapped (λ high. low + 0x1_0000 * high) word_at IsReader-word)

pub IsReader-quad : IsReader quad_at
unfolding quad_at
IsReader-quad = IsReader-then double_at _ IsReader-double (λ low. IsReader-mapped (λ high. low + 0x1_0000_0000 * high) double_at IsReader-double)

pub IsReader-displacement : (s : Displacement) → IsReader (displacement_at s)
unfolding displacement_at
IsReader-displacement sizes.Absent = IsReader-pure 0
IsReader-displacement sizes.Small = IsReader-mapped extended_8 byte_at IsReader-byte
IsReader-displacement sizes.Large = IsReader-mapped extended_32 double_at IsReader-double

pub IsReader-sib : (segment : ℕ) (rex : Rex) (mode : ℕ) → IsReader (sib_at segment rex mode)
unfolding sib_at
IsReader-sib segment rex mode =
    IsReader-then byte_at _ IsReader-byte (λ sib.
    IsReader-mapped (λ d. operand.Memory (base_of rex mode (sib % 8)) (index_of rex sib) (scale_of (index_of rex sib) sib) d false segment) (displacement_at (displacement_size mode (sib % 8))) (IsReader-displacement (displacement_size mode (sib % 8))))

pub IsReader-operand : (segment : ℕ) (rex : Rex) (small : Bool) (modrm : ℕ) → IsReader (operand_at segment rex small modrm)
unfolding operand_at
IsReader-operand segment rex small modrm =
    let mode = mode_of modrm in
    let number = rm_of modrm in
    let register = register_operand rex small number in
    let memory = λ (d : ℕ). operand.Memory (base_of rex mode number) None 1 d (is_baseless mode number) segment in
    let size = displacement_size mode number in
    IsReader-cond (mode == 3) (pure register) _ (IsReader-pure register)
    (IsReader-cond (number == 4) (sib_at segment rex mode) _ (IsReader-sib segment rex mode)
    (IsReader-mapped memory (displacement_at size) (IsReader-displacement size)))

IsReader-operand_by : (f : OperandFields) (segment : ℕ) (rex : Rex) (o : OpenedLine) → IsReader (operand_by f segment rex o)
IsReader-operand_by fields.Absent segment rex o = IsReader-pure operand.None
IsReader-operand_by fields.Accumulator segment rex o = IsReader-pure (operand.Register 0 false)
IsReader-operand_by fields.Opcode segment rex o = IsReader-pure (register_operand rex (is_of_byte o.line.size) (o.opcode % 8))
IsReader-operand_by fields.Control segment rex o = IsReader-pure (register_operand rex false (rm_of o.modrm))
IsReader-operand_by fields.Debug segment rex o = IsReader-pure (register_operand rex false (rm_of o.modrm))
IsReader-operand_by (fields.Exact byte) segment rex o = IsReader-pure operand.None
IsReader-operand_by fields.Any segment rex o = IsReader-operand segment rex (is_of_byte o.line.size) o.modrm
IsReader-operand_by fields.AnyDigit segment rex o = IsReader-operand segment rex (is_of_byte o.line.size) o.modrm
IsReader-operand_by fields.ShiftDigit segment rex o = IsReader-operand segment rex (is_of_byte o.line.size) o.modrm
IsReader-operand_by fields.Direct segment rex o = IsReader-operand segment rex (is_of_byte o.line.size) o.modrm
IsReader-operand_by fields.Memory segment rex o = IsReader-operand segment rex (is_of_byte o.line.size) o.modrm
IsReader-operand_by (fields.Digit d) segment rex o = IsReader-operand segment rex (is_of_byte o.line.size) o.modrm
IsReader-operand_by (fields.DigitMemory d) segment rex o = IsReader-operand segment rex (is_of_byte o.line.size) o.modrm

pub IsReader-operand_field : (segment : ℕ) (rex : Rex) (o : OpenedLine) → IsReader (operand_field_at segment rex o)
unfolding operand_field_at
IsReader-operand_field segment rex o = IsReader-operand_by o.line.fields segment rex o

IsReader-full : (w : Width) → IsReader (full_at w)
IsReader-full width.W8 = IsReader-byte
IsReader-full width.W16 = IsReader-word
IsReader-full width.W32 = IsReader-double
IsReader-full width.W64 = IsReader-mapped extended_32 double_at IsReader-double

IsReader-whole : (w : Width) → IsReader (whole_at w)
IsReader-whole width.W8 = IsReader-byte
IsReader-whole width.W16 = IsReader-word
IsReader-whole width.W32 = IsReader-double
IsReader-whole width.W64 = IsReader-quad

pub IsReader-immediate : (i : Immediate) (w : Width) → IsReader (immediate_at i w)
unfolding immediate_at
IsReader-immediate immediate.Nothing w = IsReader-pure 0
IsReader-immediate immediate.One w = IsReader-pure 1
IsReader-immediate immediate.Byte w = IsReader-byte
IsReader-immediate immediate.Word w = IsReader-word
IsReader-immediate immediate.Signed w = IsReader-mapped (λ n. cut w (extended_8 n)) byte_at IsReader-byte
IsReader-immediate immediate.Full w = IsReader-full w
IsReader-immediate immediate.Whole w = IsReader-whole w
