use Rattle.host_memory.proofs.tests.reads_and_writes_in_windows.Given as goal

abbrev pub ghosts-write_and_read : goal.ghosts-write_and_read
ghosts-write_and_read g a = record { name = a.blank.name; parts = a.blank.parts }
