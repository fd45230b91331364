use Rattle.auditor.proofs.tests.verdicts_are_those_of_the_rules.Given as goal

abbrev pub ghosts-audited : goal.ghosts-audited
ghosts-audited g a = record { name = a.reads.name; parts = a.reads.parts }
