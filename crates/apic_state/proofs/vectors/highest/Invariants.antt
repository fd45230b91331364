use Rattle.std.proofs.Common.{◌≡◌, ◌≤◌, ◌*◌, ◌%◌}
use Rattle.svm_model.specs.Machine.Apic.{highest_below}
use Rattle.apic_state.proofs.vectors.highest.Given as goal

-- the bytes above have no vector
abbrev pub invariant-loop-count : goal.invariant-loop-count
invariant-loop-count l = record {
  within : l.count ≤ 32;
  whole : l.count % 8 ≡ 0;
  none_above : highest_below (8 * l.count) l.set ≡ highest_below 256 l.set;
}

abbrev pub decreases-loop-count : goal.decreases-loop-count
decreases-loop-count l = l.count
