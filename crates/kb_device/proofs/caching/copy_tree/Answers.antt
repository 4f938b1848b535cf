use Rattle.std.proofs.Common.{◌≡◌, Some, ap, subst, sym, ◌∙◌}
use Rattle.std.specs.List.{AllByRecursion}
use Rattle.std.specs.FinMap.{get}
use Rattle.kb_keys.specs.Rings.{key_at}
use Rattle.kb_files.specs.Opens.{Opens}
use Rattle.kb_device.specs.Caches.{RowCopied}
use Rattle.kb_device.proofs.Copied.{tree_copied, none_from}
use Rattle.kb_device.proofs.caching.copy_tree.Goals as goal

pub returns-clause-from : goal.returns-clause-from
returns-clause-from g c = c.in-Ok-copy_rows.ensures.grows.from (none_from (get c.args.store.now) _ c.new-cache.ensures)

pub returns-clause-each : goal.returns-clause-each
returns-clause-each g c p each =
    tree_copied g.S.Sealer.sealed g.H.BlockHash.hashed (get c.args.store.now) (key_at c.args.keys.now) (get c.copy_rows.new.cache) c.args.pointers.now c.in-Ok.rows.items c.args.table.now.tree c.in-Ok.ensures.kept.rise c.in-Ok.ensures.tree
    (subst (AllByRecursion (RowCopied (Opens g.S.Sealer.sealed g.H.BlockHash.hashed (get c.args.store.now) (key_at c.args.keys.now)) (Opens g.S.Sealer.sealed g.H.BlockHash.hashed (get c.copy_rows.new.cache) (key_at c.args.keys.now)) c.args.pointers.now)) c.as_slice.ensures.value c.in-Ok-copy_rows.ensures.copied) p each
