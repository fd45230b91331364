-- Generated input, by a seed and a size: a guest of four vcpus on two processors. Each vcpu adds as many numbers to RAX as the
-- size says, one after another from the seed and its own number on, and halts.
use Rattle.std.specs.Prelude.{ℕ, ◌+◌, ◌*◌, ◌%◌, List, [], ◌∷◌, ◌++◌, map}
use Rattle.std.specs.Int.{w64, to_le_bytes}
use Rattle.std.specs.List.{flat_map, range_with_len}
use Rattle.svm_model.specs.Formats.Image.{Image, ImageGuest, ImageSegment}
use Rattle.svm_model.specs.Formats.ImageVcpus.{start_registers, start_tr, table_register}
use Rattle.svm_model.specs.Formats.Script.{Script}
use Rattle.svm_model.specs.Formats.ScriptLines.{line_of}
use Rattle.svm_model.specs.declared.formats.ScriptLine.{ScriptLine}
use Rattle.svm_model.specs.declared.names.CpuId.{CpuId}
use Rattle.svm_model.specs.declared.names.Event.{Event}
use Rattle.svm_model.specs.declared.names.Event.TheVariants.{Place, Run}
use Rattle.svm_model.specs.declared.names.VcpuId.{VcpuId}
use Rattle.svm_model.specs.declared.register_file.Registers.{Registers}

abbrev pub cpu_count : ℕ
cpu_count = 2

abbrev pub vcpu_count : ℕ
vcpu_count = 4

-- the most numbers that a vcpu adds
abbrev pub size_limit : ℕ
size_limit = 100000

-- The image.

-- the guest has 16 MiB, which its tables map to themselves by leaves of 2 MiB; the code of each vcpu begins one of these
abbrev pub page_count : ℕ
page_count = 4096

abbrev pub leaf_size : ℕ
leaf_size = 0x20_0000

abbrev pub code_address : ℕ → ℕ
code_address vcpu = leaf_size * (vcpu + 1)

-- a vcpu starts at its code, with the root of the tables in CR3 and no flag
abbrev pub start_of : ℕ → Registers
start_of vcpu = start_registers (record {
  cr3 = 0x1000;
  rip = code_address vcpu;
  rsp = 0;
  rflags = 2;
  gdtr = table_register 0 0;
  idtr = table_register 0 0;
  tr = start_tr 0 0;
})

abbrev pub segment : ℕ → List ℕ → ImageSegment
segment address bytes = record { address = address; bytes = bytes }

-- an entry of 2 MiB: present, writable, for users, PS (volume 2, '2-Mbyte Page Translation')
abbrev pub leaf_bytes : ℕ → List ℕ
leaf_bytes place = to_le_bytes w64 (leaf_size * place + 0x87)

-- one PML4 entry, one PDP entry, and eight leaves
abbrev pub tables : List ImageSegment
tables =
    segment 0x1000 (to_le_bytes w64 0x2007)
    ∷ segment 0x2000 (to_le_bytes w64 0x3007)
    ∷ segment 0x3000 (flat_map leaf_bytes (range_with_len 0 8))
    ∷ []

-- ADD RAX, imm8 (volume 3, 'ADD'): REX.W, the opcode 83h, ModRM, and the number, which has no sign
abbrev pub add_bytes : ℕ → ℕ → ℕ → List ℕ
add_bytes seed vcpu place = 0x48 ∷ 0x83 ∷ 0xC0 ∷ (seed + vcpu + place) % 128 ∷ []

-- so many of these, and HLT
unfoldable pub code_bytes : ℕ → ℕ → ℕ → List ℕ
code_bytes seed size vcpu = flat_map (add_bytes seed vcpu) (range_with_len 0 size) ++ 0xF4 ∷ []

abbrev pub code_segment : ℕ → ℕ → ℕ → ImageSegment
code_segment seed size vcpu = segment (code_address vcpu) (code_bytes seed size vcpu)

abbrev pub made_guest : ℕ → ℕ → ImageGuest
made_guest seed size = record {
  pages = page_count;
  vcpus = map start_of (range_with_len 0 vcpu_count);
  segments = tables ++ map (code_segment seed size) (range_with_len 0 vcpu_count);
}

unfoldable pub made_image : ℕ → ℕ → Image
made_image seed size = record { version = 1; features = 0; cpus = cpu_count; guests = made_guest seed size ∷ [] }

-- The script: each vcpu in turn is placed, the odd ones on processor 1, and runs to its halt.

abbrev pub one_vcpu : ℕ → VcpuId
one_vcpu vcpu = record { guest = record { 0 = 0 }; index = vcpu }

abbrev pub cpu_for : ℕ → CpuId
cpu_for vcpu = record { 0 = vcpu % cpu_count }

-- the events of a vcpu: its placing, each number that it adds, and the halt
abbrev pub events_each : ℕ → ℕ
events_each size = size + 2

abbrev pub vcpu_lines : ℕ → ℕ → List ScriptLine
vcpu_lines size vcpu =
    line_of (Place (cpu_for vcpu) (one_vcpu vcpu)) (events_each size * vcpu) 1
    ∷ line_of (Run (cpu_for vcpu)) (events_each size * vcpu + 1) (size + 1)
    ∷ []

unfoldable pub made_script : ℕ → Script
made_script size = record { lines = flat_map (vcpu_lines size) (range_with_len 0 vcpu_count); events = events_each size * vcpu_count }
