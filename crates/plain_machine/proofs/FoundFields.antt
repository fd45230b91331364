-- Where the fields of a VMCB are found its page is there.
use Rattle.std.proofs.Common.{◌≡◌, ◌∙◌, ap, ◌+◌, ◌≤◌, ℕ, List, Bool, true, false, nat_le, length, refl, arith}
use Rattle.std.proofs.lemmas.Bool.Decides.{nat_tests}
use Rattle.std.specs.Prelude.{if◌then◌else◌, Ok, Err, max}
use Rattle.svm_model.specs.Memory.Bytes.{IsWithin, guest_of}
use Rattle.svm_model.specs.Svm.Vmcb.{Fields, fields_at, fields_in}
use Rattle.svm_model.specs.declared.windows.GuestWindow.{GuestWindow}
use Rattle.svm_model.specs.declared.windows.OutsideMemory.{OutsideMemory}
use Rattle.svm_model.proofs.WindowLemmas.{length-guest_of}
use Rattle.svm_switch.proofs.LeftLemmas.{size-found as size-in}

pub record AreFound (memory : List ℕ) (vmcb : ℕ) (v : Fields) : Type 0 where
  pub page : vmcb + 4096 ≤ length memory
  pub is : v ≡ fields_in memory vmcb

within : (b : Bool) (found v : Fields) (outside : OutsideMemory) → (if b then Ok found else Err outside) ≡ Ok v → b ≡ true
within true found v outside e = refl
within false found v outside e = absurd (cc)

same : (b : Bool) (found v : Fields) (outside : OutsideMemory) → (if b then Ok found else Err outside) ≡ Ok v → v ≡ found
same true found v outside e = cc
same false found v outside e = absurd (cc)

are_found : (memory : List ℕ) (vmcb : ℕ) (v : Fields) → fields_at memory vmcb ≡ Ok v → AreFound memory vmcb v
unfolding fields_at
are_found memory vmcb v e =
    let outside : OutsideMemory = record { address = max vmcb (length memory) } in
    let there = within (nat_le (vmcb + 4096) (length memory)) (fields_in memory vmcb) v outside e in
    record {
      page = grind (arith, nat_tests, there);
      is = same (nat_le (vmcb + 4096) (length memory)) (fields_in memory vmcb) v outside e;
    }

pub page-found : (w : GuestWindow) (bytes : List ℕ) (vmcb : ℕ) (v : Fields) → IsWithin w bytes → Ok v ≡ fields_at (guest_of w bytes) vmcb → vmcb + 4096 ≤ w.size
page-found w bytes vmcb v h e =
    let found = are_found (guest_of w bytes) vmcb v (cc) in omega (arith, found.page, length-guest_of w bytes h)

pub is-found : (memory : List ℕ) (vmcb : ℕ) (v : Fields) → Ok v ≡ fields_at memory vmcb → v ≡ fields_in memory vmcb
is-found memory vmcb v e = (are_found memory vmcb v (cc)).is

pub size-found : (memory : List ℕ) (vmcb : ℕ) (v : Fields) → Ok v ≡ fields_at memory vmcb → length v.values ≡ 86
size-found memory vmcb v e = ap (λ (w : Fields). length w.values) (is-found memory vmcb v e) ∙ size-in memory vmcb

pub ruleset found = (page-found, is-found, size-found)
