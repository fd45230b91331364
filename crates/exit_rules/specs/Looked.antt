-- What is found in a permission map, or the first address outside the guest's memory.
use Rattle.std.specs.Prelude.{ℕ, ◌+◌, ◌/◌, ◌%◌, List, Bool, true, Option, Some, None, Result, Ok, Err, slice_index}
use Rattle.svm_model.specs.Memory.Bits.{bit, bits_where}
use Rattle.svm_model.specs.Memory.Bytes.{bytes_at}
use Rattle.svm_model.specs.Svm.Intercepts.{map_base, ports_at, ports_count, ports_set}
use Rattle.svm_model.specs.Svm.Vmcb.{Fields}
use Rattle.svm_model.specs.declared.vmcbs.Field.TheVariants as f
use Rattle.svm_model.specs.declared.windows.OutsideMemory.{OutsideMemory}

abbrev pub tested : (List ℕ → Bool) → Result (List ℕ) OutsideMemory → Result Bool OutsideMemory
tested test (Ok bytes) = Ok (test bytes)
tested test (Err outside) = Err outside

-- whether a bit is set for one of so many ports
abbrev pub ports_looked : List ℕ → Fields → ℕ → ℕ → Result Bool OutsideMemory
ports_looked memory fields port width =
    tested (λ bytes. ports_set bytes port width) (bytes_at memory (ports_at fields port) (ports_count port width))

-- the bit of a read or a write of the MSR at this place of the map
abbrev pub msr_bit : Bool → ℕ → ℕ
msr_bit writes place = place + bits_where writes 1

-- how many reads that takes: none where the MSR is outside the map
abbrev pub msr_reads : Option ℕ → ℕ
msr_reads None = 0
msr_reads (Some place) = 1

-- whether it is set, or the MSR is outside the map
abbrev pub msr_looked : List ℕ → Fields → Bool → Option ℕ → Result Bool OutsideMemory
msr_looked memory fields writes None = Ok true
msr_looked memory fields writes (Some place) =
    tested (λ bytes. bit (msr_bit writes place % 8) (slice_index bytes 0)) (bytes_at memory (map_base fields f.MsrpmBase + msr_bit writes place / 8) 1)
