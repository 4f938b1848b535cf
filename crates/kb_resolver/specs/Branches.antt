-- What operations lead to, and how many rows a resolution by them may look at.
use Rattle.std.specs.Prelude.{◌≡◌, ◌≤◌, ◌+◌, ◌*◌, ℕ, List}
use Rattle.kb_ops.specs.declared.rows.Op.{Op}
use Rattle.kb_ops.specs.Trees.{Tree, look, fold_ops, FitAll}
use Rattle.kb_rules.specs.declared.stamp.Stamp.{Stamp}
use Rattle.kb_rules.specs.Merge.{three}
use Rattle.kb_actions.specs.Known.{AreWithin}
use Rattle.kb_actions.specs.Bounds.{passed, most_looks}

-- operations, each of which fits the tree before it, lead from one tree to another
abbrev pub Lead : List Op → Tree → Tree → Type 0
Lead ops before after = FitAll ops before × (fold_ops ops before ≡ after)

-- for each depth that no row of merged and of ours is below: as many as a merge of n operations may look at, and four for each of them
abbrev pub LooksFew : ℕ → Tree → Tree → Tree → Stamp → ℕ → ℕ → Type 0
LooksFew n b m u stamp first last = (d : ℕ) → AreWithin d (look m) → AreWithin d (look u) → last ≤ first + (most_looks n d (passed (three b m u stamp)) + 4 * n)
