-- Who is placed is there, and on one processor alone.
use Rattle.std.proofs.Common.{◌≡◌, ◌∙◌, ℕ, zero, suc, List, [], ◌∷◌, Bool, true, false, if◌then◌else◌, ◌⊎◌, inl, inr, ⊎_elim, refl, Option, Some, None, map, replicate, ap, sym, subst, slice_get, slice_set, IfSome}
use Rattle.std.proofs.lemmas.Bool.{eq-eqb}
use Rattle.svm_model.specs.Machine.Events.{is_vcpu, without}
use Rattle.svm_model.specs.Machine.Shapes.{IsOneToOne}
use Rattle.svm_model.specs.declared.names.VcpuId.{VcpuId}
use Rattle.plain_machine.specs.Slots.{IsThere, AreThere}

pub placed_is : (counts : List ℕ) (placing : List (Option VcpuId)) (cpu : ℕ) (o : Option VcpuId) → AreThere counts placing → slice_get placing cpu ≡ Some o → IfSome o (IsThere counts)
placed_is counts placing cpu None there e = tt
placed_is counts placing cpu (Some id) there e = there.there cpu id e

without_kept : (id : VcpuId) (o : Option VcpuId) (other : VcpuId) (b : Bool) → (if b then None else o) ≡ Some other → (o ≡ Some other) × (b ≡ false)
without_kept id o other true e = absurd (cc)
without_kept id o other false e = (e, refl)

-- what is left is another vcpu
without_is : (id : VcpuId) (o : Option VcpuId) (other : VcpuId) → without id o ≡ Some other → (o ≡ Some other) × (is_vcpu id other ≡ false)
without_is id None other e = absurd (cc)
without_is id (Some x) other e =
    let kept = without_kept id (Some x) other (is_vcpu id x) e in
    let same : x ≡ other = cc in
    (kept.0, ap (is_vcpu id) (sym same) ∙ kept.1)

got : (placing : List (Option VcpuId)) (id : VcpuId) (at : ℕ) (other : VcpuId) → slice_get (map (without id) placing) at ≡ Some (Some other) → (slice_get placing at ≡ Some (Some other)) × (is_vcpu id other ≡ false)
got [] id at other e = absurd (cc)
got (o ∷ placing) id zero other e =
    let inner : without id o ≡ Some other = cc in
    let is = without_is id o other inner in
    (ap (λ (p : Option VcpuId). Some p) is.0, is.1)
got (o ∷ placing) id (suc at) other e = got placing id at other e

-- what stands in a place after one is set: what was set there, or what was there in another
set_got : (placing : List (Option VcpuId)) (cpu : ℕ) (id : VcpuId) (at : ℕ) (other : VcpuId) → slice_get (slice_set placing cpu (Some id)) at ≡ Some (Some other) → ((at ≡ cpu) × (id ≡ other)) ⊎ (slice_get placing at ≡ Some (Some other))
set_got [] cpu id at other e = inr e
set_got (o ∷ placing) zero id zero other e = inl (refl, (cc))
set_got (o ∷ placing) zero id (suc at) other e = inr e
set_got (o ∷ placing) (suc cpu) id zero other e = inr e
set_got (o ∷ placing) (suc cpu) id (suc at) other e =
    ⊎_elim (λ (l : (at ≡ cpu) × (id ≡ other)). inl (ap suc l.0, l.1)) (λ (r : slice_get placing at ≡ Some (Some other)). inr r) (set_got placing cpu id at other e)

same_is : (id other : VcpuId) → id ≡ other → is_vcpu id other ≡ true
same_is id other e = ap (is_vcpu id) (sym e) ∙ rw (eq-eqb id.guest.0 id.guest.0 refl, eq-eqb id.index id.index refl) refl

not_itself : {A : Type 0} (id other : VcpuId) → id ≡ other → is_vcpu id other ≡ false → A
not_itself id other e f = absurd (cc (same_is id other e, f))

abbrev Was : List (Option VcpuId) → ℕ → VcpuId → ℕ → VcpuId → Type 0
Was placing cpu id at x = ((at ≡ cpu) × (id ≡ x)) ⊎ (slice_get (map (without id) placing) at ≡ Some (Some x))

alone : (placing : List (Option VcpuId)) (cpu : ℕ) (id : VcpuId) (a b : ℕ) (x : VcpuId) → IsOneToOne placing → Was placing cpu id a x → Was placing cpu id b x → a ≡ b
alone placing cpu id a b x one (inl p) (inl q) = p.0 ∙ sym q.0
alone placing cpu id a b x one (inl p) (inr q) = not_itself id x p.1 (got placing id b x q).1
alone placing cpu id a b x one (inr p) (inl q) = not_itself id x q.1 (got placing id a x p).1
alone placing cpu id a b x one (inr p) (inr q) = one a b x (got placing id a x p).0 (got placing id b x q).0

here_or_before : (counts : List ℕ) (placing : List (Option VcpuId)) (cpu : ℕ) (id : VcpuId) (at : ℕ) (x : VcpuId) → IsThere counts id → AreThere counts placing → Was placing cpu id at x → IsThere counts x
here_or_before counts placing cpu id at x here there (inl p) = subst (IsThere counts) p.1 here
here_or_before counts placing cpu id at x here there (inr p) = there.there at x (got placing id at x p).0

-- a vcpu that is there is placed
pub there-placed : (counts : List ℕ) (placing : List (Option VcpuId)) (cpu : ℕ) (id : VcpuId) → IsThere counts id → AreThere counts placing → AreThere counts (slice_set (map (without id) placing) cpu (Some id))
there-placed counts placing cpu id here there = record {
  there = λ at x e. here_or_before counts placing cpu id at x here there (set_got (map (without id) placing) cpu id at x e);
  one_to_one = λ a b x e f. alone placing cpu id a b x there.one_to_one (set_got (map (without id) placing) cpu id a x e) (set_got (map (without id) placing) cpu id b x f);
}

none_at : (cpus at : ℕ) (x : VcpuId) → slice_get (replicate cpus None) at ≡ Some (Some x) → ⊥
none_at zero at x e = cc
none_at (suc cpus) zero x e = cc
none_at (suc cpus) (suc at) x e = none_at cpus at x e

-- no vcpu is placed
pub there-none : (counts : List ℕ) (cpus : ℕ) → AreThere counts (replicate cpus None)
there-none counts cpus = record {
  there = λ at x e. absurd (none_at cpus at x e);
  one_to_one = λ a b x e f. absurd (none_at cpus a x e);
}

pub ruleset placings = (placed_is, there-placed)
