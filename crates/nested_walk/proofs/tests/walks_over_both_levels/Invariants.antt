use Rattle.nested_walk.proofs.tests.walks_over_both_levels.Given as goal

abbrev pub ghosts-walk_all : goal.ghosts-walk_all
ghosts-walk_all g a = record { name = a.blank.name; parts = a.blank.parts }
