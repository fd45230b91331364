use Rattle.nested_walk.proofs.ReadLemmas.{read-more}
use Rattle.nested_walk.proofs.walked_so_far.add_entry.Goals as goal

pub returns-clause-read : goal.returns-clause-read
returns-clause-read c size below h k = read-more size below c.args.so_far.now _ c.args.entry.now h k c.address_in-so_far.ensures.value c.push.ensures.items c.bits_with-so_far.ensures
