-- What the revisions behind a known one did.
use Rattle.std.specs.Prelude.{◌≡◌, ℕ, ◌≤◌, Bool, true, false, ◌&&◌, List, [], ◌∷◌, ◌++◌, length, take, drop}
use Rattle.kb_ops.specs.declared.rows.Op.{Op}
use Rattle.kb_ops.specs.Trees.{fold_ops, FitAll}
use Rattle.kb_snap.specs.Chains.{Deed, Founded, Stepped, Merged, Rekeyed, Chain, ops_in, tree_at}
use Rattle.kb_snap.specs.Lawful.{IsLawful}

-- the revisions behind the known one, up to the n-th
abbrev pub behind : Chain → ℕ → ℕ → Chain
behind c known n = drop known (take n c)

-- the operations of all of them, in order
abbrev pub all_ops : Chain → List Op
all_ops [] = []
all_ops (x ∷ c) = ops_in x.deed ++ all_ops c

abbrev pub is_no_merge : Deed → Bool
is_no_merge Founded = true
is_no_merge (Stepped ops) = true
is_no_merge (Merged base rule ops) = false
is_no_merge (Rekeyed action d) = true

-- none of them is a merge
abbrev pub are_plain : Chain → Bool
are_plain [] = true
are_plain (x ∷ c) = is_no_merge x.deed && are_plain c

-- Where none of the revisions behind a known one is a merge, their operations fit one after another, and lead from its tree to that of the last of them.
abbrev pub PlainOpsLead : Type 0
PlainOpsLead = (c : Chain) (known n : ℕ) → IsLawful c → known ≤ n → n ≤ length c → are_plain (behind c known n) ≡ true
    → FitAll (all_ops (behind c known n)) (tree_at c known) × (fold_ops (all_ops (behind c known n)) (tree_at c known) ≡ tree_at c n)
