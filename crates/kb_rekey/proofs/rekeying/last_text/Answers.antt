use Rattle.kb_folder.specs.Held.{held}
use Rattle.kb_rekey.proofs.Last.{only_one}
use Rattle.std.proofs.Common.{◌-◌, ap, ◌∙◌, drop}
use Rattle.std.specs.Prelude.{reverse}
use Rattle.kb_rekey.proofs.rekeying.last_text.Goals as goal

pub returns : goal.returns
returns g c =
    let f = held c.args.folder.now in
    only_one f.revisions f.state.length c.as_slice.result.now c.last-item.result c.in-Ok-len1-up.field-0.now c.args.folder.now.sound.counted c.requires.some
    (c.in-Ok-len1-up.ensures.lent.1 ∙ ap (λ n. drop (n - 1) (reverse f.revisions)) c.length.ensures) c.in-Ok-len1-up.len_at_least c.last-item.is c.as_slice.ensures.value
