-- An interrupt that the vcpus of a guest receive one after another.
use Rattle.std.proofs.Common.{arith, ◌≡◌, ◌∙◌, ℕ, ◌+◌, ◌*◌, ◌%◌, ◌/◌, ◌<◌, ◌≤◌, ◌==◌, ◌||◌, Bool, true, false, if◌then◌else◌, List, [], ◌∷◌, ◌++◌, Option, Some, None, length, take, drop, ap, sym, refl, slice_set, slice_index_or}
use Rattle.std.proofs.Math.ListN.{drop_of_length-le}
use Rattle.std.proofs.lemmas.Bool.Decides.{nat_tests}
use Rattle.std.proofs.lemmas.List.{take_all, take_more_set, drop-set-lt, drop_more, drop-drop}
use Rattle.svm_model.specs.Machine.Apic.{Apic}
use Rattle.svm_model.specs.Machine.ApicTargets.{targets_of}
use Rattle.svm_model.specs.Machine.Guest.{Guest}
use Rattle.svm_model.specs.Machine.Turns.{accepted_where, all_accepted, with_nmi, with_nmis, with_sent}
use Rattle.svm_model.specs.declared.apics.Ipi.{Ipi}
use Rattle.svm_model.specs.declared.vcpus.Vcpu.{Vcpu}
use Rattle.apic_state.specs.Masks.{mask_of}
use Rattle.plain_machine.specs.Sending.{apics_sent_to, vcpus_sent_to}

-- each is changed by its flag, and stays where there is none
abbrev pub each_by : {A : Type 0} → (Bool → A → A) → List Bool → List A → List A
each_by f [] xs = xs
each_by f (t ∷ targets) [] = []
each_by f (t ∷ targets) (x ∷ xs) = f t x ∷ each_by f targets xs

pub nmis-each : (targets : List Bool) (vcpus : List Vcpu) → with_nmis targets vcpus ≡ each_by with_nmi targets vcpus
unfolding with_nmis
nmis-each [] vcpus = refl
nmis-each (t ∷ targets) [] = refl
nmis-each (t ∷ targets) (v ∷ vcpus) = ap (λ (vs : List Vcpu). with_nmi t v ∷ vs) (nmis-each targets vcpus)

pub vectors-each : (vector : ℕ) (targets : List Bool) (apics : List Apic) → all_accepted targets vector apics ≡ each_by (λ (t : Bool) (a : Apic). accepted_where t vector a) targets apics
unfolding all_accepted
vectors-each vector [] apics = refl
vectors-each vector (t ∷ targets) [] = refl
vectors-each vector (t ∷ targets) (a ∷ apics) = ap (λ (rest : List Apic). accepted_where t vector a ∷ rest) (vectors-each vector targets apics)

or_none : (b : Bool) → (b || false) ≡ b
or_none true = refl
or_none false = refl

pub none-nmi : (v : Vcpu) → with_nmi false v ≡ v
none-nmi v = ap (λ (b : Bool). record v { nmi = b }) (or_none v.nmi)

-- the first flag is the lowest bit
low-bit : (t : Bool) (n : ℕ) → (((if t then 1 else 0) + 2 * n) % 2 == 1) ≡ t
low-bit true n = grind (arith, nat_tests)
low-bit false n = grind (arith, nat_tests)

rest-bits : (t : Bool) (n : ℕ) → ((if t then 1 else 0) + 2 * n) / 2 ≡ n
rest-bits true n = omega arith
rest-bits false n = omega arith

pub half : (targets : List Bool) → mask_of targets / 2 ≡ mask_of (drop 1 targets)
half [] = omega arith
half (t ∷ targets) = rest-bits t (mask_of targets)

pub one_more : {A : Type 0} (f : Bool → A → A) → ((x : A) → f false x ≡ x) → (targets : List Bool) (x : A) (xs : List A) → each_by f targets (x ∷ xs) ≡ f (mask_of targets % 2 == 1) x ∷ each_by f (drop 1 targets) xs
one_more {A} f none [] x xs = ap (λ (y : A). y ∷ xs) (sym (none x))
one_more {A} f none (t ∷ targets) x xs = ap (λ (b : Bool). f b x ∷ each_by f targets xs) (sym (low-bit t (mask_of targets)))

-- so many have received it, and what is left of the mask is for the others
pub record Received {A : Type 0} (f : Bool → A → A) (mask rest i : ℕ) (initial now : List A) : Type 0 where
  pub left : (targets : List Bool) → mask ≡ mask_of targets → rest ≡ mask_of (drop i targets)
  pub so_far : (targets : List Bool) → mask ≡ mask_of targets → take i now ++ each_by f (drop i targets) (drop i now) ≡ each_by f targets initial

middle : {A : Type 0} (xs : List A) (y : A) (ys : List A) → (xs ++ (y ∷ [])) ++ ys ≡ xs ++ (y ∷ ys)
middle [] y ys = refl
middle {A} (x ∷ xs) y ys = ap (λ (vs : List A). x ∷ vs) (middle xs y ys)

next : (i : ℕ) (targets : List Bool) → drop 1 (drop i targets) ≡ drop (i + 1) targets
next i targets = drop-drop 1 i targets

pub received_next : {A : Type 0} (f : Bool → A → A) → ((x : A) → f false x ≡ x) → (mask rest i : ℕ) (initial now : List A) (d y : A) → i < length now → Received f mask rest i initial now → y ≡ f (rest % 2 == 1) (slice_index_or now i d) →
    Received f mask (rest / 2) (i + 1) initial (slice_set now i y)
received_next {A} f none mask rest i initial now d y h r is = record {
  left = λ targets e. ap (λ (n : ℕ). n / 2) (r.left targets e) ∙ half (drop i targets) ∙ ap mask_of (next i targets);
  so_far = λ targets e.
      let front : take (i + 1) (slice_set now i y) ≡ take i now ++ y ∷ [] = take_more_set now i y h in
      let back : drop (i + 1) (slice_set now i y) ≡ drop (i + 1) now = drop-set-lt (i + 1) now i y (omega arith) in
      let here : drop i now ≡ slice_index_or now i d ∷ drop (i + 1) now = drop_more now i d h in
      let bit : (rest % 2 == 1) ≡ (mask_of (drop i targets) % 2 == 1) = ap (λ (n : ℕ). n % 2 == 1) (r.left targets e) in
      ap (λ (vs : List A). vs ++ each_by f (drop (i + 1) targets) (drop (i + 1) (slice_set now i y))) front
      ∙ ap (λ (vs : List A). (take i now ++ y ∷ []) ++ each_by f (drop (i + 1) targets) vs) back
      ∙ middle (take i now) y (each_by f (drop (i + 1) targets) (drop (i + 1) now))
      ∙ ap (λ (v : A). take i now ++ v ∷ each_by f (drop (i + 1) targets) (drop (i + 1) now)) (is ∙ ap (λ (b : Bool). f b (slice_index_or now i d)) bit)
      ∙ ap (λ (ts : List Bool). take i now ++ f (mask_of (drop i targets) % 2 == 1) (slice_index_or now i d) ∷ each_by f ts (drop (i + 1) now)) (sym (next i targets))
      ∙ ap (λ (vs : List A). take i now ++ vs) (sym (one_more f none (drop i targets) (slice_index_or now i d) (drop (i + 1) now)))
      ∙ ap (λ (vs : List A). take i now ++ each_by f (drop i targets) vs) (sym here)
      ∙ r.so_far targets e;
}

nobody : {A : Type 0} (f : Bool → A → A) (targets : List Bool) → each_by f targets [] ≡ []
nobody f [] = refl
nobody f (t ∷ targets) = refl

no_more : {A : Type 0} (xs : List A) → xs ++ [] ≡ xs
no_more [] = refl
no_more {A} (x ∷ xs) = ap (λ (ys : List A). x ∷ ys) (no_more xs)

pub received_all : {A : Type 0} (f : Bool → A → A) (mask rest n : ℕ) (initial now : List A) → length now ≤ n → Received f mask rest n initial now → (targets : List Bool) → mask ≡ mask_of targets → now ≡ each_by f targets initial
received_all {A} f mask rest n initial now h r targets e =
    sym (ap (λ (xs : List A). xs ++ each_by f (drop n targets) (drop n now)) (take_all n now h)
    ∙ ap (λ (xs : List A). now ++ each_by f (drop n targets) xs) (drop_of_length-le now h)
    ∙ ap (λ (xs : List A). now ++ xs) (nobody f (drop n targets))
    ∙ no_more now) ∙ r.so_far targets e

-- The guest behind what was sent has its vcpus and its APICs.

by_mode : (b : Bool) (guest : Guest) (vcpus : List Vcpu) (apics : List Apic) →
    (if b then record guest { vcpus = vcpus } else record guest { apics = apics }) ≡ record guest { vcpus = if b then vcpus else guest.vcpus; apics = if b then guest.apics else apics }
by_mode true guest vcpus apics = refl
by_mode false guest vcpus apics = refl

pub with_sent-is : (sent : Option Ipi) (sender : ℕ) (guest : Guest) →
    with_sent sent sender guest ≡ record guest { vcpus = vcpus_sent_to sent sender guest.apics guest.vcpus; apics = apics_sent_to sent sender guest.apics }
with_sent-is None sender guest = refl
with_sent-is (Some ipi) sender guest = by_mode (ipi.mode == 4) guest (with_nmis (targets_of ipi sender guest.apics) guest.vcpus) (all_accepted (targets_of ipi sender guest.apics) ipi.vector guest.apics)

-- What the layout speaks of stays.

length-nmis : (targets : List Bool) (vcpus : List Vcpu) → length (with_nmis targets vcpus) ≡ length vcpus
unfolding with_nmis
length-nmis [] vcpus = refl
length-nmis (t ∷ targets) [] = refl
length-nmis (t ∷ targets) (v ∷ vcpus) = omega (arith, length-nmis targets vcpus)

vcpus-by_mode : (b : Bool) (targets : List Bool) (vcpus : List Vcpu) → length (if b then with_nmis targets vcpus else vcpus) ≡ length vcpus
vcpus-by_mode true targets vcpus = length-nmis targets vcpus
vcpus-by_mode false targets vcpus = refl

pub length-vcpus-sent : (sent : Option Ipi) (sender : ℕ) (apics : List Apic) (vcpus : List Vcpu) → length (vcpus_sent_to sent sender apics vcpus) ≡ length vcpus
length-vcpus-sent None sender apics vcpus = refl
length-vcpus-sent (Some ipi) sender apics vcpus = vcpus-by_mode (ipi.mode == 4) (targets_of ipi sender apics) vcpus

length-vectors : (vector : ℕ) (targets : List Bool) (apics : List Apic) → length (all_accepted targets vector apics) ≡ length apics
unfolding all_accepted
length-vectors vector [] apics = refl
length-vectors vector (t ∷ targets) [] = refl
length-vectors vector (t ∷ targets) (a ∷ apics) = omega (arith, length-vectors vector targets apics)

length-by_mode : (b : Bool) (vector : ℕ) (targets : List Bool) (apics : List Apic) → length (if b then apics else all_accepted targets vector apics) ≡ length apics
length-by_mode true vector targets apics = refl
length-by_mode false vector targets apics = length-vectors vector targets apics

pub length-sent : (sent : Option Ipi) (sender : ℕ) (apics : List Apic) → length (apics_sent_to sent sender apics) ≡ length apics
length-sent None sender apics = refl
length-sent (Some ipi) sender apics = length-by_mode (ipi.mode == 4) ipi.vector (targets_of ipi sender apics) apics
