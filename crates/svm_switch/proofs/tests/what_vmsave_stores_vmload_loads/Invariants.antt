use Rattle.svm_switch.proofs.tests.what_vmsave_stores_vmload_loads.Given as goal

abbrev pub ghosts-save_and_load : goal.ghosts-save_and_load
ghosts-save_and_load g a = record { name = a.blank.name; parts = a.blank.parts }
