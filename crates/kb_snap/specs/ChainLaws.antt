-- What holds of every lawful chain.
use Rattle.std.specs.Prelude.{◌≡◌, ℕ, ◌-◌, ◌≤◌, ◌<◌, [], ◌∷◌, ◌++◌, length, take, All}
use Rattle.kb_ops.specs.Trees.{IsWellFormed}
use Rattle.kb_snap.specs.Members.{generation_of}
use Rattle.kb_snap.specs.Chains.{most_revisions, most_in_step, Deed, Stepped, Revision, Chain, ops_of, tree_at}
use Rattle.kb_snap.specs.Lawful.{AreOf, CountsFrom, IsLawful}
use Rattle.kb_snap.specs.Ids.{AreGiven}

-- a step has at least one operation and at most so many
abbrev pub IsFew : Deed → Type 0
IsFew (Stepped ops) = (0 < length ops) × (length ops ≤ most_in_step)
IsFew deed = Unit {0}

abbrev pub IsStepOfFew : Revision → Type 0
IsStepOfFew revision = IsFew revision.deed

-- in a lawful chain each device's operations have the seqs 1, 2 and so on, and are its own; it is no longer than a folder
-- takes, and has had no more than 64 keys; its steps have few operations; each tree is well formed, and its ids were given by operations up to it
pub record ChainLaws (c : Chain) : Type 0 where
  pub counts : (d : ℕ) → CountsFrom 1 (ops_of d c)
  pub own : (d : ℕ) → AreOf d (ops_of d c)
  pub small : length c ≤ most_revisions
  pub keys : generation_of c ≤ 64
  pub formed : (r : ℕ) → r ≤ length c → IsWellFormed (tree_at c r)
  pub given : (r : ℕ) → r ≤ length c → AreGiven (take r c) (tree_at c r)
  pub steps : All IsStepOfFew c

abbrev pub LawfulChains : Type 0
LawfulChains = (c : Chain) → IsLawful c → ChainLaws c
