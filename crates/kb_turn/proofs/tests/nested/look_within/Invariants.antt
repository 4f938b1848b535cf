use Rattle.kb_turn.specs.Passes.{name_of}
use Rattle.kb_turn.proofs.tests.nested.look_within.Given as goal

abbrev pub ghosts-within : goal.ghosts-within
ghosts-within a = record { turn = name_of a.folder.now }
