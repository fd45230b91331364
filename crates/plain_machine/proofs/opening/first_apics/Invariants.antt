use Rattle.std.proofs.Common.{◌≡◌, take}
use Rattle.svm_model.specs.Machine.World.{first_apics}
use Rattle.plain_machine.proofs.opening.first_apics.Given as goal

-- the APICs so far
abbrev pub invariant-loop-id : goal.invariant-loop-id
invariant-loop-id l = record {
  so_far : l.apics.items ≡ first_apics 0 (take l.id l.starts);
}
