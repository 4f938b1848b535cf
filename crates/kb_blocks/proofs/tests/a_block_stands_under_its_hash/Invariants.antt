use Rattle.kb_blocks.proofs.tests.a_block_stands_under_its_hash.Given as goal

abbrev pub ghosts-has : goal.ghosts-has
ghosts-has g a = record { name = a.blank.name; parts = a.blank.parts }
