use Rattle.std.proofs.Common.{◌≡◌, replicate}
use Rattle.kb_seal.proofs.Masks.{over}
use Rattle.kb_seal.proofs.states.filled.Given as goal

abbrev pub invariant-loop-i : goal.invariant-loop-i
invariant-loop-i l = l.block ≡ over l.i l.key (replicate 64 0)
