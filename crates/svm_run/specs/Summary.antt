-- The summary of generated input: what was made, RAX of each vcpu behind its run, and the verdict on the run.
use Rattle.std.specs.Prelude.{ℕ, ◌+◌, List, [], ◌∷◌, codes, slice_index}
use Rattle.std.specs.Fmt.{decimal}
use Rattle.svm_model.specs.Formats.Text.{◌⧺◌, hex, newline}
use Rattle.svm_model.specs.Formats.VerdictText.{verdict_text}
use Rattle.svm_model.specs.Machine.Guest.{Guest}
use Rattle.svm_model.specs.Machine.World.{World}
use Rattle.svm_model.specs.declared.audits.Verdict.{Verdict}
use Rattle.svm_model.specs.declared.register_file.Registers.{Registers}
use Rattle.svm_model.specs.declared.vcpus.Vcpu.{Vcpu}
use Rattle.svm_run.specs.declared.words.Numbers.{Numbers}

-- the seed, the size, and how many events were run
unfoldable pub made_line : Numbers → ℕ → List ℕ
made_line numbers events =
    codes "made seed=" ⧺ decimal numbers.seed ⧺ codes " size=" ⧺ decimal numbers.size ⧺ codes " events=" ⧺ decimal events ⧺ newline

-- RAX of a vcpu of the guest, which is guest 0
unfoldable pub rax_line : ℕ → Registers → List ℕ
rax_line index registers = codes "rax 0." ⧺ decimal index ⧺ codes "=" ⧺ hex (slice_index registers.general 0) ⧺ newline

abbrev pub rax_lines : ℕ → List Vcpu → List ℕ
rax_lines index [] = []
rax_lines index (vcpu ∷ vcpus) = rax_line index vcpu.registers ⧺ rax_lines (index + 1) vcpus

abbrev pub vcpus_of_first : List Guest → List Vcpu
vcpus_of_first [] = []
vcpus_of_first (guest ∷ guests) = guest.vcpus

unfoldable pub summary : Numbers → World → Verdict → List ℕ
summary numbers w verdict = made_line numbers w.event ⧺ rax_lines 0 (vcpus_of_first w.guests) ⧺ verdict_text verdict
