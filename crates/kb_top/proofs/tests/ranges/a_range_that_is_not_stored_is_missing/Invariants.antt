use Rattle.kb_top.proofs.tests.ranges.a_range_that_is_not_stored_is_missing.Given as goal

abbrev pub ghosts-refused : goal.ghosts-refused
ghosts-refused g a = record { name = a.blank.name; parts = a.blank.parts }
