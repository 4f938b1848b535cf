-- What a device lends of its branch.
use Rattle.std.specs.Prelude.{◌≡◌, Option, Some, None}
use Rattle.kb_device.specs.Inside.{Plan, Inside}
use Rattle.kb_device.specs.declared.lent.Branch.{Branch}

-- the trees of the plan, the tree that is shown, the queue, and what was done between the plan's trees
pub record Lends (s : Inside) (x : Plan) (lent : Branch) : Type 0 where
  pub planned : s.plan ≡ Some x
  pub base : lent.base.now.tree ≡ x.base
  pub merged : lent.merged.now.tree ≡ x.merged
  pub ours : lent.ours.now.tree ≡ s.shown
  pub our_ops : lent.our_ops.now ≡ s.journal.queue
  pub merged_ops : lent.merged_ops.now ≡ x.ops
  pub plain : lent.plain ≡ x.plain

-- what a session lends: nothing exactly where it has no plan
abbrev pub IsLent : Inside → Option Branch → Type 0
IsLent s (Some lent) = (x : Plan) × Lends s x lent
IsLent s None = s.plan ≡ None

-- what a device lends: nothing exactly where no session is open or that has no plan
abbrev pub LendsBranch : Option Inside → Option Branch → Type 0
LendsBranch (Some s) lent = IsLent s lent
LendsBranch None lent = lent ≡ None
