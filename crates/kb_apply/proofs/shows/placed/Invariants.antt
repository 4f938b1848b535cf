use Rattle.std.proofs.Common.{◌≡◌, take}
use Rattle.kb_apply.proofs.shows.placed.Given as goal

abbrev pub invariant-loop-name : goal.invariant-loop-name
invariant-loop-name l = l.below.items ≡ take l.name-index l.names
