use Rattle.std.proofs.Common.{◌≡◌, ap, sym, subst, ◌∙◌}
use Rattle.kb_device.specs.Fresh.{IsLastOf, last_in}
use Rattle.kb_device.proofs.Ids.{last_of}
use Rattle.kb_device.proofs.seqs.copy_with_last.Goals as goal

pub returns-in-Ok-from_rows-clause-last : goal.returns-in-Ok-from_rows-clause-last
returns-in-Ok-from_rows-clause-last c =
    let last_is : c.last_in-last.result ≡ last_in c.args.d c.in-Ok.rows.items = c.last_in-last.ensures ∙ ap (last_in c.args.d) c.as_slice.ensures.value in
    subst (IsLastOf c.args.d c.args.table.now.tree) (sym last_is) (last_of c.args.d c.in-Ok.rows.items c.args.table.now.tree c.in-Ok.ensures.kept.rise c.in-Ok.ensures.tree)
