-- What is found out of the intercept of a row.
use Rattle.std.specs.Prelude.{ℕ, List, Option, Some, None, Result, Ok, Err, take}
use Rattle.svm_model.specs.Turn.Course.{Course}
use Rattle.svm_model.specs.Turn.Faults.{Came, leaves}
use Rattle.svm_model.specs.declared.exits.Exit.{Exit}
use Rattle.svm_model.specs.declared.turns.Stop.{Stop}
use Rattle.svm_model.specs.declared.vcpus.Vcpu.{Vcpu}
use Rattle.svm_model.specs.declared.windows.OutsideMemory.{OutsideMemory}

-- so many bytes of a permission map, or the first address outside
abbrev pub found_in : ℕ → Result (List ℕ) OutsideMemory → Result (List ℕ) OutsideMemory
found_in count (Ok bytes) = Ok (take count bytes)
found_in count (Err outside) = Err outside

-- the row goes on, or its exit comes, or what stops it
abbrev pub unless_found : Result (Option Exit) Stop → Vcpu → (Result Came Stop → Course) → Course → Course
unless_found (Ok None) vcpu next rest = rest
unless_found (Ok (Some exit)) vcpu next rest = next (Ok (leaves vcpu exit None))
unless_found (Err reason) vcpu next rest = next (Err reason)
