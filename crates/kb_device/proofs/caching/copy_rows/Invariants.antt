use Rattle.std.specs.Prelude.{take}
use Rattle.std.specs.List.{AllByRecursion}
use Rattle.std.specs.FinMap.{get}
use Rattle.kb_keys.specs.Rings.{key_at}
use Rattle.kb_files.specs.Opens.{Opens}
use Rattle.kb_device.specs.Caches.{Copies, RowCopied}
use Rattle.kb_device.proofs.caching.copy_rows.Given as goal

abbrev pub invariant-rows : goal.invariant-rows
invariant-rows g l =
    Copies (get l.store) (get l.fn.cache) (get l.cache)
    × AllByRecursion (RowCopied (Opens g.S.Sealer.sealed g.H.BlockHash.hashed (get l.store) (key_at l.keys)) (Opens g.S.Sealer.sealed g.H.BlockHash.hashed (get l.cache) (key_at l.keys)) l.pointers) (take l.row-index l.rows)
