use Rattle.vmcb_layout.proofs.tests.fields_are_read_where_they_lie.Given as goal

abbrev pub ghosts-read_each : goal.ghosts-read_each
ghosts-read_each g a = record { name = a.blank.name; parts = a.blank.parts }
