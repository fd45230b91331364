use Rattle.svm_switch.proofs.tests.what_is_outside_is_refused.Given as goal

abbrev pub ghosts-refuse_each : goal.ghosts-refuse_each
ghosts-refuse_each g a = record { name = a.blank.name; parts = a.blank.parts }
