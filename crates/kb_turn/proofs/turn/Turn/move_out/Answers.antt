use Rattle.std.proofs.Common.{sym, ap, ◌∙◌, ◌∷◌, Some}
use Rattle.atomic_table.specs.Table.{rest}
use Rattle.kb_turn.proofs.turn.Turn.move_out.Goals as goal

pub exchange-requires : goal.exchange-requires
exchange-requires g c = let r = c.requires in let has = r.1.1 in (r.1.0, (Some r.0, has ∙ (λ i. (0, Some r.0) ∷ sym (ap rest has) i)))
