use Rattle.exit_rules.proofs.tests.maps_are_looked_at.Given as goal

abbrev pub ghosts-look_at_maps : goal.ghosts-look_at_maps
ghosts-look_at_maps g a = record { name = a.blank.name; parts = a.blank.parts }
