use Rattle.nested_walk.proofs.walks.nested_walk.Goals as goal

pub descend-requires-clause-read : goal.descend-requires-clause-read
descend-requires-clause-read g c = c.at_root.ensures.read c.args.window.size
