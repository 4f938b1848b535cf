use Rattle.std.proofs.Common.{◌≡◌, length, sym, ap, ◌∙◌, arith}
use Rattle.std.specs.FinMap as map
use Rattle.kb_tree.specs.Held.{Held}
use Rattle.kb_tree.proofs.Found.{len_is}
use Rattle.kb_tree.proofs.table.Table.len.Goals as goal

pub returns : goal.returns
returns c =
    let e : c.len.result ≡ length c.self.inside.by_id.items = omega (arith, c.self.inside.by_id.ok.0) in
    e ∙ sym (len_is _ _ _ c.self.invariant) ∙ ap (λ (h : Held). map.len h.tree) c.self.view_is
