use Rattle.nested_walk.proofs.ReadLemmas.{read-none}
use Rattle.std.proofs.Common.{refl}
use Rattle.nested_walk.proofs.walked_so_far.at_root.Goals as goal

pub returns-clause-read : goal.returns-clause-read
returns-clause-read c size = read-none size c.args.guest.now.root _ c.address_in.ensures.value c.new.ensures refl
