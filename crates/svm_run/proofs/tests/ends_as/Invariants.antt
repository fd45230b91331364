use Rattle.svm_run.proofs.tests.ends_as.Given as goal

abbrev pub ghosts-done-L-Ledger : goal.ghosts-done-L-Ledger
ghosts-done-L-Ledger g a = record { name = a.reads.name; parts = a.reads.parts }

abbrev pub ghosts-done-M-Ledger : goal.ghosts-done-M-Ledger
ghosts-done-M-Ledger g a = record { name = a.entries.name; parts = a.entries.parts }
