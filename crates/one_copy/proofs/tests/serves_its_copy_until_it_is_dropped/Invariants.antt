use Rattle.one_copy.proofs.tests.serves_its_copy_until_it_is_dropped.Given as goal

abbrev pub ghosts-serve : goal.ghosts-serve
ghosts-serve g a = record { name = a.blank.name; parts = a.blank.parts }
