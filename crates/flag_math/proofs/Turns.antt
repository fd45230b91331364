-- Shifting one bit at a time: the last turn of several.
use Rattle.std.proofs.Common.{◌≡◌, ℕ, zero, suc, ◌-◌, ◌<◌, ap, arith}
use Rattle.svm_model.specs.declared.rows.Width.{Width}
use Rattle.svm_model.specs.declared.flags.ShiftKind.{ShiftKind}
use Rattle.svm_model.specs.Instructions.Shifts.{moved, moved_by}

pub last_turn : (w : Width) (kind : ShiftKind) (n count : ℕ) → 0 < count → moved w kind (moved_by w kind n (count - 1)) ≡ moved_by w kind n count
unfolding moved_by
last_turn w kind n zero h = absurd (omega arith)
last_turn w kind n (suc count) h = ap (λ k. moved w kind (moved_by w kind n k)) (omega arith)
