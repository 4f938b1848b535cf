use Rattle.std.proofs.Common.{◌≡◌, List, Result, Ok, Err, Vec, Global, IfOk, ap, ◌∙◌}
use Rattle.std.specs.FinMap as map
use Rattle.kb_edge.specs.declared.faults.Memory.{Memory}
use Rattle.kb_ops.specs.declared.rows.Row.{Row}
use Rattle.kb_snap.proofs.Sorts.{values_are}
use Rattle.kb_snap.proofs.rows.Rows.into_rows.Goals as goal

along : (a b : List Row) (r : Result (Vec Row Global) Memory) → a ≡ b → IfOk r (λ rows. rows.items ≡ a) → IfOk r (λ rows. rows.items ≡ b)
along a b (Ok rows) e h = h ∙ e
along a b (Err f) e h = h

pub returns : goal.returns
returns c = along _ _ c.values.result (values_are c.self.inside.by_id.entries c.self.invariant ∙ ap map.values c.self.view_is) c.values.ensures
