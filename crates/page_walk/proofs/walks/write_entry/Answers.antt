use Rattle.page_walk.proofs.walks.write_entry.Goals as goal

pub returns-clause-written : goal.returns-clause-written
returns-clause-written c = simp (c.to_le_bytes.ensures, c.bits.ensures tt) at (c.write_guest.ensures.inside c.requires.inside).1
