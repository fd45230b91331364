use Rattle.std.proofs.Common.{◌≡◌, ◌∙◌, ℕ, ◌*◌, ◌-◌, ap, arith, sym, refl}
use Rattle.svm_model.specs.Machine.Apic.{highest_below}
use Rattle.apic_state.proofs.VectorLemmas.{highest_below-byte}
use Rattle.apic_state.proofs.vectors.highest_in_front.Goals as goal

pub loop-byte-preserved : goal.loop-byte-preserved
loop-byte-preserved c =
    let before = c.loop-byte.invariant in
    record {
      within = omega (arith, before.within);
      none_above =
          sym (highest_below-byte c.args.set.now (c.loop-byte.byte - 1) (8 * c.loop-byte.byte) (8 * (c.loop-byte.byte - 1)) (grind arith) refl (omega (arith, c.loop-byte-test.true)))
          ∙ before.none_above;
    }

pub returns : goal.returns
unfolding highest_below
returns c =
    let zero_left : 8 * c.loop-byte.byte ≡ 0 = omega (arith, c.loop-byte-test.false) in
    sym (ap (λ (n : ℕ). highest_below n c.args.set.now) zero_left) ∙ c.loop-byte.invariant.none_above
