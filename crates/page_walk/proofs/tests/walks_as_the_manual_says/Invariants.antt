use Rattle.page_walk.proofs.tests.walks_as_the_manual_says.Given as goal

abbrev pub ghosts-walk_all : goal.ghosts-walk_all
ghosts-walk_all g a = record { name = a.blank.name; parts = a.blank.parts }
