use Rattle.std.proofs.Common.{◌≡◌, None, Some, sym, ◌∙◌}
use Rattle.std.specs.FinMap.{get}
use Rattle.kb_keys.specs.Rings.{key_at}
use Rattle.kb_files.specs.Opens.{Opens}
use Rattle.kb_device.proofs.Copied.{on_kept}
use Rattle.kb_device.proofs.caching.copy_kept.Goals as goal

pub returns-in-Some-clause-copied : goal.returns-in-Some-clause-copied
returns-in-Some-clause-copied g c =
    on_kept (Opens g.S.Sealer.sealed g.H.BlockHash.hashed (get c.args.store.now) (key_at c.args.keys.now)) (Opens g.S.Sealer.sealed g.H.BlockHash.hashed (get c.copy_row.new.cache) (key_at c.args.keys.now)) c.args.pointers.now c.args.row.now c.in-Some.ptr c.copy_row.result
    (sym c.in-Some.ensures) c.copy_row.ensures.copied

pub returns-in-None-clause-grows : goal.returns-in-None-clause-grows
returns-in-None-clause-grows g c = record { stays = λ q v at. at; from = λ within. within }

pub returns-in-None-clause-copied : goal.returns-in-None-clause-copied
returns-in-None-clause-copied g c p at = absurd (let no : None ≡ Some p = c.in-None.ensures ∙ at in cc)
