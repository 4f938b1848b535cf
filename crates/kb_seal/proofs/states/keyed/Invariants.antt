use Rattle.std.proofs.Common.{◌≡◌}
use Rattle.kb_seal.proofs.Masks.{half}
use Rattle.kb_seal.proofs.states.keyed.Given as goal

abbrev pub invariant-loop-i : goal.invariant-loop-i
invariant-loop-i l = l.out ≡ half (λ _. l.mask) l.i 0 l.block
