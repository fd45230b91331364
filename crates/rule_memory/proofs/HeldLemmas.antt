-- What is held of VMCBs.
use Rattle.std.proofs.Common.{true≢false, ◌≡◌, ℕ, ◌==◌, Bool, true, false, not, ◌&&◌, sym, refl, ap, ◌∙◌, subst, if◌then◌else◌, IsTrue}
use Rattle.svm_model.specs.Audit.Breaches.{Known, after_found}
use Rattle.svm_model.specs.Audit.HeldFields.{Held, held_at_entry, held_with}
use Rattle.svm_model.specs.Audit.WatchCalls.{known_with}
use Rattle.svm_model.specs.Machine.Events.{is_vcpu}
use Rattle.svm_model.specs.Svm.Vmcb.{Fields}
use Rattle.svm_model.specs.declared.names.VcpuId.{VcpuId}
use Rattle.rule_memory.specs.HeldMap.{HeldMap, fields_at, held_owner, held_place, same_held}
use Rattle.rule_memory.specs.Kept.{Translations, kept_at}
use Rattle.rule_memory.specs.Leaves.{leaves_at}
use Rattle.rule_memory.specs.Places.{owner_of}
use Rattle.rule_memory.specs.declared.held.HeldPlace.{HeldPlace}
use Rattle.rule_memory.specs.declared.places.Place.{Place}
use Rattle.rule_memory.proofs.LeafLemmas.{both, same_numbers}
use Rattle.rule_memory.proofs.StandLemmas.{same_number, same_translations, vcpu_from_is}

-- what is known of a vcpu changes in its records alone
pub same_held_fields : (kept : HeldMap) (known : VcpuId → Known) (vcpu : VcpuId) (new : Known) → (new.held ≡ (known vcpu).held)
    → ((p : HeldPlace) → fields_at kept p ≡ (known (held_owner p)).held p.vmcb) → (p : HeldPlace) → fields_at kept p ≡ (known_with vcpu new known (held_owner p)).held p.vmcb
same_held_fields kept known vcpu new same h p = by (is_vcpu (held_owner p) vcpu) refl where
  by : (b : Bool) → is_vcpu (held_owner p) vcpu ≡ b → fields_at kept p ≡ (if b then new else known (held_owner p)).held p.vmcb
  by true e =
      subst (λ v. fields_at kept p ≡ (known v).held p.vmcb) (vcpu_from_is (held_owner p) vcpu e) (h p) ∙ ap (λ held. held p.vmcb) (sym same)
  by false e = h p

held_from_same : (a b : HeldPlace) → same_held a b ≡ true → a ≡ b
held_from_same a b e =
    let v = both ((a.vmcb == b.vmcb) && (a.guest == b.guest)) (a.vcpu == b.vcpu) e in
    let g = both (a.vmcb == b.vmcb) (a.guest == b.guest) v.0 in
    let vmcb = same_numbers a.vmcb b.vmcb g.0 in
    let guest = same_numbers a.guest b.guest g.1 in
    let vcpu = same_numbers a.vcpu b.vcpu v.1 in
    λ i. record { vmcb = vmcb i; guest = guest i; vcpu = vcpu i }

all_true : (a b c : Bool) → a ≡ true → (b && c) ≡ true → ((a && b) && c) ≡ true
all_true true b c e h = h
all_true false b c e h = absurd (true≢false (sym e))

itself : (v : VcpuId) → is_vcpu v v ≡ true
itself v = rw (same_number v.guest.0) (same_number v.index)

-- a VMCB of a vcpu has other fields
abbrev pub with_held : ℕ → Held → Known → Known
with_held vmcb held known = record known { held = held_with vmcb held known.held }

module _ (old new : HeldMap) (known : VcpuId → Known) (vcpu : VcpuId) (vmcb : ℕ) (now : Held)
    (h : (p : HeldPlace) → fields_at old p ≡ (known (held_owner p)).held p.vmcb)
    (here : fields_at new (held_place vcpu vmcb) ≡ now)
    (others : (p : HeldPlace) → IsTrue (not (same_held p (held_place vcpu vmcb))) → fields_at new p ≡ fields_at old p) where
  at_place : fields_at new (held_place vcpu vmcb) ≡ (known_with vcpu (with_held vmcb now (known vcpu)) known vcpu).held vmcb
  at_place = rw (itself vcpu) (rw (same_number vmcb) here)

  by_vmcb : (p : HeldPlace) (b : Bool) → (p.vmcb == vmcb) ≡ b → is_vcpu (held_owner p) vcpu ≡ true → fields_at new p ≡ fields_at old p → same_held p (held_place vcpu vmcb) ≡ false
      → fields_at new p ≡ (if b then now else (known vcpu).held p.vmcb)
  by_vmcb p true e owner same apart =
      absurd (true≢false (sym (all_true (p.vmcb == vmcb) (p.guest == vcpu.guest.0) (p.vcpu == vcpu.index) e owner) ∙ apart))
  by_vmcb p false e owner same apart = same ∙ subst (λ v. fields_at old p ≡ (known v).held p.vmcb) (vcpu_from_is (held_owner p) vcpu owner) (h p)

  by_vcpu : (p : HeldPlace) (b : Bool) → is_vcpu (held_owner p) vcpu ≡ b → fields_at new p ≡ fields_at old p → same_held p (held_place vcpu vmcb) ≡ false
      → fields_at new p ≡ (if b then with_held vmcb now (known vcpu) else known (held_owner p)).held p.vmcb
  by_vcpu p true owner same apart = by_vmcb p (p.vmcb == vmcb) refl owner same apart
  by_vcpu p false owner same apart = same ∙ h p

  by_place : (p : HeldPlace) (b : Bool) → same_held p (held_place vcpu vmcb) ≡ b → fields_at new p ≡ (known_with vcpu (with_held vmcb now (known vcpu)) known (held_owner p)).held p.vmcb
  by_place p true e =
      subst (λ q. fields_at new q ≡ (known_with vcpu (with_held vmcb now (known vcpu)) known (held_owner q)).held q.vmcb) (sym (held_from_same p (held_place vcpu vmcb) e)) at_place
  by_place p false e = by_vcpu p (is_vcpu (held_owner p) vcpu) refl (others p (rw e refl)) e

  pub held_fields : (p : HeldPlace) → fields_at new p ≡ (known_with vcpu (with_held vmcb now (known vcpu)) known (held_owner p)).held p.vmcb
  held_fields p = by_place p (same_held p (held_place vcpu vmcb)) refl

-- A VMRUN, or a turn inside one, which changes nothing.

unchanged : (old new : HeldMap) (place p : HeldPlace) (b : Bool) → same_held p place ≡ b → fields_at new place ≡ fields_at old place
    → (IsTrue (not (same_held p place)) → fields_at new p ≡ fields_at old p) → fields_at new p ≡ fields_at old p
unchanged old new place p true e here others = subst (λ q. fields_at new q ≡ fields_at old q) (sym (held_from_same p place e)) here
unchanged old new place p false e here others = others (rw e refl)

pub found_fields : (entering : Bool) (old new : HeldMap) (known : VcpuId → Known) (vcpu : VcpuId) (vmcb : ℕ) (found : Fields)
    → ((p : HeldPlace) → fields_at old p ≡ (known (held_owner p)).held p.vmcb)
    → fields_at new (held_place vcpu vmcb) ≡ (if entering then held_at_entry found (fields_at old (held_place vcpu vmcb)) else fields_at old (held_place vcpu vmcb))
    → ((p : HeldPlace) → IsTrue (not (same_held p (held_place vcpu vmcb))) → fields_at new p ≡ fields_at old p)
    → (p : HeldPlace) → fields_at new p ≡ (known_with vcpu (after_found vmcb entering found (known vcpu)) known (held_owner p)).held p.vmcb
found_fields true old new known vcpu vmcb found h here others p =
    held_fields old new known vcpu vmcb (held_at_entry found ((known vcpu).held vmcb)) h (here ∙ ap (held_at_entry found) (h (held_place vcpu vmcb))) others p
found_fields false old new known vcpu vmcb found h here others p =
    unchanged old new (held_place vcpu vmcb) p (same_held p (held_place vcpu vmcb)) refl here (others p) ∙ same_held_fields old known vcpu (known vcpu) refl h p

pub found_translations : (entering : Bool) (kept : Translations) (known : VcpuId → Known) (vcpu : VcpuId) (vmcb : ℕ) (found : Fields)
    → ((p : Place) → kept_at kept p ≡ leaves_at p (known (owner_of p.space)).records)
    → (p : Place) → kept_at kept p ≡ leaves_at p (known_with vcpu (after_found vmcb entering found (known vcpu)) known (owner_of p.space)).records
found_translations true kept known vcpu vmcb found h p = same_translations kept known vcpu (after_found vmcb true found (known vcpu)) refl h p
found_translations false kept known vcpu vmcb found h p = same_translations kept known vcpu (known vcpu) refl h p
