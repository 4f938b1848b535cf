-- How many rows a resolution by actions looks at.
use Rattle.std.proofs.Common.{◌≡◌, ℕ, ◌+◌, ◌*◌, ◌≤◌, List, length, subst, arith}
use Rattle.kb_ops.specs.declared.rows.Op.{Op}
use Rattle.kb_ops.specs.Trees.{Tree}
use Rattle.kb_rules.specs.declared.stamp.Stamp.{Stamp}
use Rattle.kb_rules.specs.Merge.{three}
use Rattle.kb_actions.specs.Bounds.{passed, most_looks}
use Rattle.kb_actions.specs.Bounds as merging
use Rattle.kb_resolver.specs.Branches.{Lead, LooksFew}

module _ (b m u : Tree) (stamp : Stamp) (xs ys : List Op) (first rest : ℕ) where
  abbrev n : ℕ
  n = length xs + length ys

  -- where memory ran out in the nets of merged
  pub one_net : (one : ℕ) → one ≤ first + 4 * length xs → LooksFew n b m u stamp (first + rest) (one + rest)
  one_net one le = λ d wm wu. (let most = most_looks (length xs + length ys) d (passed (three b m u stamp)) in omega (arith, le))

  -- in those of ours
  pub two_nets : (one two : ℕ) → one ≤ first + 4 * length xs → two ≤ one + 4 * length ys → LooksFew n b m u stamp (first + rest) (two + rest)
  two_nets one two le more = λ d wm wu. (let most = most_looks (length xs + length ys) d (passed (three b m u stamp)) in omega (arith, le, more))

  -- with the merge
  pub with_merge : (b' : Tree) (one two last : ℕ) → b' ≡ b → Lead xs b m → Lead ys b u → one ≤ first + 4 * length xs → two ≤ one + 4 * length ys → merging.LooksFew b' m u stamp (two + rest) last → LooksFew n b m u stamp (first + rest) last
  with_merge b' one two last same merged ours le more few =
      let here : merging.LooksFew b m u stamp (two + rest) last = subst (λ t. merging.LooksFew t m u stamp (two + rest) last) same few in
      λ d wm wu. (let h = here xs ys d merged.0 merged.1 ours.0 ours.1 wm wu in omega (arith, le, more, h))
