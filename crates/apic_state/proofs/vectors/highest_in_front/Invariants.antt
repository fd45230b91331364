use Rattle.std.proofs.Common.{◌≡◌, ◌≤◌, ◌*◌}
use Rattle.svm_model.specs.Machine.Apic.{highest_below}
use Rattle.apic_state.proofs.vectors.highest_in_front.Given as goal

-- the bytes above have no vector
abbrev pub invariant-loop-byte : goal.invariant-loop-byte
invariant-loop-byte l = record {
  within : l.byte ≤ 32;
  none_above : highest_below (8 * l.byte) l.set ≡ highest_below (8 * l.count) l.set;
}

abbrev pub decreases-loop-byte : goal.decreases-loop-byte
decreases-loop-byte l = l.byte
