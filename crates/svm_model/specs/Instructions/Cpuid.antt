-- What CPUID tells (volume 3, 'CPUID').
use Rattle.std.specs.Prelude.{ℕ, ◌*◌, ◌^◌, List, [], ◌∷◌, ◌==◌, if◌then◌else◌}
use Rattle.svm_model.specs.Memory.Bits.{bit}
use Rattle.svm_model.specs.declared.turns.Facts.{Facts}

-- EAX, EBX, ECX and EDX of a leaf
pub record Leaf : Type 0 where
  pub number : ℕ
  pub eax : ℕ
  pub ebx : ℕ
  pub ecx : ℕ
  pub edx : ℕ

abbrev pub leaf : ℕ → ℕ → ℕ → ℕ → ℕ → Leaf
leaf number eax ebx ecx edx = record { number = number; eax = eax; ebx = ebx; ecx = ecx; edx = edx }

-- SVM features: NRIP save, FlushByAsid where it is offered, vGIF
abbrev pub svm_features : ℕ → ℕ
svm_features features = if bit 0 features then 0x10069 else 0x10029

-- the vendor is AuthenticAMD
abbrev pub leaves : Facts → List Leaf
leaves facts =
    leaf 0 1 0x68747541 0x444D4163 0x69746E65 ∷
    leaf 1 0 (2 ^ 24 * facts.apic_id) 0 0xA278 ∷
    leaf 0x80000000 0x8000000A 0x68747541 0x444D4163 0x69746E65 ∷
    leaf 0x80000001 0 0 4 0x24100000 ∷
    leaf 0x80000008 0x3028 0 0 0 ∷
    leaf 0x8000000A 1 16 0 (svm_features facts.features) ∷
    []

-- other leaves are 0
abbrev pub leaf_among : List Leaf → ℕ → Leaf
leaf_among [] number = leaf number 0 0 0 0
leaf_among (l ∷ leaves) number = if l.number == number then l else leaf_among leaves number

unfoldable pub leaf_of : Facts → ℕ → Leaf
leaf_of facts number = leaf_among (leaves facts) number
