use Rattle.std.proofs.Common.{◌≡◌, ◌∙◌, ℕ, ◌*◌, ◌-◌, length, ap, arith, sym, refl, rules}
use Rattle.svm_model.specs.Machine.Apic.{highest_below}
use Rattle.apic_state.proofs.VectorLemmas.{highest_below-eight}
use Rattle.apic_state.proofs.vectors.highest.Goals as goal

pub loop-count-preserved : goal.loop-count-preserved
loop-count-preserved c =
    let before = c.loop-count.invariant in
    let size : length c.args.set.now ≡ 32 = search rules in
    record {
      within = omega (arith, before.within);
      whole = omega (arith, before.whole, c.loop-count-test.true);
      none_above =
          sym (highest_below-eight c.args.set.now (c.loop-count.count - 8) (8 * c.loop-count.count) (8 * (c.loop-count.count - 8)) (omega (arith, size, before.within, c.loop-count-test.true)) (search rules) refl (omega (arith, c.loop-count-test.true)))
          ∙ before.none_above;
    }

pub returns : goal.returns
unfolding highest_below
returns c =
    let zero_left : 8 * c.loop-count.count ≡ 0 = omega (arith, c.loop-count-test.false, c.loop-count.invariant.whole) in
    sym (ap (λ (n : ℕ). highest_below n c.args.set.now) zero_left) ∙ c.loop-count.invariant.none_above
