-- Three trees that can be merged, with conflicted names that are names and differ, up to the last that the merge may come to.
use Rattle.std.proofs.Common.{◌≡◌, ℕ, ◌+◌, ◌*◌, ◌^◌, ◌≤◌, ◌<◌, true, List, length}
use Rattle.kb_name.specs.Names.{is_name}
use Rattle.kb_rules.specs.Three.{Three}
use Rattle.kb_rules.specs.Ready.{CanMerge}

pub record CanName (n m : ℕ) (t : Three) : Type 0 where
  pub can : CanMerge n m t
  pub few : 2 * length t.ids + 1 < 2 ^ 64
  pub named : (name : List ℕ) (k : ℕ) → 1 ≤ k → k ≤ 2 * length t.ids + 1 → is_name name ≡ true → is_name (t.conflicted name k) ≡ true
  pub differ : (name : List ℕ) (j k : ℕ) → 1 ≤ j → 1 ≤ k → j ≤ 2 * length t.ids + 1 → k ≤ 2 * length t.ids + 1 → t.conflicted name j ≡ t.conflicted name k → j ≡ k
