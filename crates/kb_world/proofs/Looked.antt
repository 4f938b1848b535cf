-- How many rows a resolution looks at in all.
use Rattle.std.proofs.Common.{◌≡◌, ℕ, ◌+◌, ◌*◌, ◌≤◌, subst, arith}
use Rattle.kb_ops.specs.Trees.{Tree}
use Rattle.kb_rules.specs.declared.stamp.Stamp.{Stamp}
use Rattle.kb_rules.specs.Merge.{three}
use Rattle.kb_actions.specs.Bounds.{passed, most_looks}
use Rattle.kb_resolver.specs.Branches.{LooksFew}

-- where three views had looked at none, what is told of them in all is few
pub told_few : (n : ℕ) (b m u b' m' u' : Tree) (stamp : Stamp) (x y z last told : ℕ) → b' ≡ b → m' ≡ m → u' ≡ u → x ≡ 0 → y ≡ 0 → z ≡ 0 → LooksFew n b' m' u' stamp (x + (y + z)) last → told ≤ last → LooksFew n b m u stamp 0 told
told_few n b m u b' m' u' stamp x y z last told base merged ours none none' none'' few le =
    let here : LooksFew n b m u stamp (x + (y + z)) last =
    subst (λ t. LooksFew n t m u stamp (x + (y + z)) last) base (subst (λ t. LooksFew n b' t u stamp (x + (y + z)) last) merged (subst (λ t. LooksFew n b' m' t stamp (x + (y + z)) last) ours few)) in
    λ d within within'. under (most_looks n d (passed (three b m u stamp)) + 4 * n) (here d within within')
  where
    under : (most : ℕ) → last ≤ x + (y + z) + most → told ≤ 0 + most
    under most h = omega (arith, h, le, none, none', none'')
