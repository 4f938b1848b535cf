-- The machine with what its folder has of blocks beside it.
use Rattle.std.specs.Prelude.{◌≡◌, ◌⊎◌, ℕ, List, [], ◌∷◌, ◌++◌, None, Some, Ok}
use Rattle.kb_snap.specs.Chains.{Revision, Chain}
use Rattle.kb_world.specs.Statements.{Act, See, Statement, Reply, ByReclaim}
use Rattle.kb_world.specs.Statements as statements
use Rattle.kb_world.specs.Machine.{State, ActStep, next, Run}

-- B: the blocks, which of them are warm, and each revision's root pointer.
-- Puts x b b': the blocks and the root pointer of a request for the revision x, which are free but for what they have to
-- hold, went to b.
-- Cools from b b': the warm blocks are those that the revisions from this one on reach.
module _ {B : Type 0} (Puts : Revision → B → B → Type 0) (Cools : ℕ → B → B → Type 0) where
  pub record Whole : Type 0 where
    pub plain : State
    pub blocks : B

  -- the chain stays, or a revision is put
  abbrev pub Follows : Chain → Chain → B → B → Type 0
  Follows c c' b b' = ((c' ≡ c) × (b' ≡ b)) ⊎ ((x : Revision) × (c' ≡ c ++ x ∷ []) × Puts x b b')

  abbrev pub BlocksStep : Act → Reply → Chain → Chain → B → B → Type 0
  BlocksStep (See by (statements.Reclaim from)) (ByReclaim (Ok done)) c c' b b' = Cools from b b'
  BlocksStep act reply c c' b b' = Follows c c' b b'

  abbrev pub WholeStep : Whole → Act → Reply → Whole → Type 0
  WholeStep s act reply t = ActStep s.plain act reply t.plain × BlocksStep act reply s.plain.chain t.plain.chain s.blocks t.blocks

  abbrev pub WholeProgress : Statement → List Reply → Whole → List Reply → Whole → Type 0
  WholeProgress statement before s [] t = t ≡ s
  WholeProgress statement before s (reply ∷ more) t =
      (act : Act) × (mid : Whole) × (next statement before ≡ Some act) × WholeStep s act reply mid × WholeProgress statement (before ++ reply ∷ []) mid more t

  abbrev pub WholeSteps : Whole → Statement → List Reply → Whole → Type 0
  WholeSteps s statement replies t = WholeProgress statement [] s replies t × (next statement replies ≡ None)

  abbrev pub WholeRun : Whole → List Statement → List (List Reply) → Whole → Type 0
  WholeRun s [] [] t = t ≡ s
  WholeRun s (statement ∷ statements) (replies ∷ more) t = (mid : Whole) × WholeSteps s statement replies mid × WholeRun mid statements more t
  WholeRun s [] (replies ∷ more) t = ⊥
  WholeRun s (statement ∷ statements) [] t = ⊥

  -- each run with blocks is a run of the plain machine, so all of its laws hold there
  abbrev pub WholeIsPlain : Type 0
  WholeIsPlain = (s : Whole) (statements : List Statement) (each : List (List Reply)) (t : Whole) → WholeRun s statements each t → Run s.plain statements each t.plain
