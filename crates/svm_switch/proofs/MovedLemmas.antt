-- Where nothing is outside, the fields are found.
use Rattle.std.proofs.Common.{◌≡◌, ℕ, List, Bool, true, false, nat_le, length, refl}
use Rattle.std.specs.Prelude.{◌+◌, ◌%◌, ◌^◌, if◌then◌else◌, Some, None, Ok, Err, max}
use Rattle.svm_model.specs.Svm.Vmcb.{fields_at, fields_in}
use Rattle.svm_model.specs.Svm.VmloadVmsave.{moved_at}
use Rattle.svm_model.specs.declared.windows.OutsideMemory.{OutsideMemory}

chosen : {X : Type 0} (test : Bool) (outside other : OutsideMemory) (x : X) → (if test then None else Some outside) ≡ None → (if test then Ok x else Err other) ≡ Ok x
chosen true outside other x h = refl
chosen false outside other x h = absurd (cc h)

pub found-inside : (memory : List ℕ) (vmcb : ℕ) → moved_at memory vmcb ≡ None → fields_at memory vmcb ≡ Ok (fields_in memory vmcb)
unfolding fields_at
found-inside memory vmcb h =
    chosen (nat_le (vmcb + 4096) (length memory)) (record { address = max ((vmcb + 0x440) % 2 ^ 64) (length memory) }) (record { address = max vmcb (length memory) }) (fields_in memory vmcb) h

pub ruleset moved = (found-inside)
