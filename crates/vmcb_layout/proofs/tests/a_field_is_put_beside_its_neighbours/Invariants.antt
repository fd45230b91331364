use Rattle.vmcb_layout.proofs.tests.a_field_is_put_beside_its_neighbours.Given as goal

abbrev pub ghosts-put_each : goal.ghosts-put_each
ghosts-put_each g a = record { name = a.blank.name; parts = a.blank.parts }
