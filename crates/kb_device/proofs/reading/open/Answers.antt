use Rattle.std.proofs.Common.{[], ◌++◌, ap, sym, ◌∙◌}
use Rattle.kb_chain.proofs.PrivateParts.{once_private}
use Rattle.kb_device.proofs.reading.open.Goals as goal

pub returns-in-Ok : goal.returns-in-Ok
returns-in-Ok g c p is sealed =
    (once_private c.args.revision.now.kind c.in-Ok.private p [] [] c.in-Ok.ensures.0 is (ap (λ z. z ++ []) (g.met.S.Sealer.one_plain c.args.key.now _ _ (sym c.in-Ok.ensures.1 ∙ sealed)))).0
