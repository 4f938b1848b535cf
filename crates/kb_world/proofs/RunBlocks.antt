-- A run with blocks is one of the plain machine.
use Rattle.std.proofs.Common.{ℕ, List, [], ◌∷◌, ◌++◌, ap}
use Rattle.kb_snap.specs.Chains.{Revision}
use Rattle.kb_world.specs.Statements.{Statement, Reply}
use Rattle.kb_world.specs.Machine.{Progress}
use Rattle.kb_world.specs.RunBlocks.{Whole, WholeProgress, WholeIsPlain}

module _ {B : Type 0} (Puts : Revision → B → B → Type 0) (Cools : ℕ → B → B → Type 0) where
  progress_plain : (statement : Statement) (before : List Reply) (s : Whole Puts Cools) (replies : List Reply) (t : Whole Puts Cools) → WholeProgress Puts Cools statement before s replies t → Progress statement before s.plain replies t.plain
  progress_plain statement before s [] t h = ap (λ (x : Whole Puts Cools). x.plain) h
  progress_plain statement before s (reply ∷ more) t h = (h.0, h.1.plain, h.2, h.3.0, progress_plain statement (before ++ reply ∷ []) h.1 more t h.4)

  pub whole_plain : WholeIsPlain Puts Cools
  whole_plain s [] [] t h = ap (λ (x : Whole Puts Cools). x.plain) h
  whole_plain s (statement ∷ statements) (replies ∷ more) t h = (h.0.plain, (progress_plain statement [] s replies h.0 h.1.0, h.1.1), whole_plain h.0 statements more t h.2)
  whole_plain s [] (replies ∷ more) t h = absurd h
  whole_plain s (statement ∷ statements) [] t h = absurd h
