-- Three trees cut down to the rows that matter for their merge.
use Rattle.std.specs.Prelude.{◌≡◌, Bool, true, false, filter, Some}
use Rattle.kb_name.specs.declared.ids.NodeId.{NodeId}
use Rattle.kb_ops.specs.declared.rows.Row.{Row}
use Rattle.kb_rules.specs.Three.{Three}

-- the rows of the ids that pass a test, with the parent of each in merged and in ours; merged and ours have the same rows at all others. The same rows of the part may become one
pub record IsPart (t s : Three) (inside : NodeId → Bool) : Type 0 where
  pub ids : s.ids ≡ filter inside t.ids
  pub base : (q : NodeId) → inside q ≡ true → s.base q ≡ t.base q
  pub merged : (q : NodeId) → inside q ≡ true → s.merged q ≡ t.merged q
  pub ours : (q : NodeId) → inside q ≡ true → s.ours q ≡ t.ours q
  pub rest : (q : NodeId) → inside q ≡ false → t.merged q ≡ t.ours q
  pub merged_up : (q : NodeId) (r : Row) → inside q ≡ true → t.merged q ≡ Some r → inside r.parent ≡ true
  pub ours_up : (q : NodeId) (r : Row) → inside q ≡ true → t.ours q ≡ Some r → inside r.parent ≡ true
  pub may : (q a : NodeId) (w r : Row) → inside q ≡ true → inside a ≡ true → t.ours q ≡ Some w → t.merged a ≡ Some r → s.may w r ≡ t.may w r
