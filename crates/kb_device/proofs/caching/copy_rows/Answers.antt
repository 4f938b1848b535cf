use Rattle.std.proofs.Common.{◌≤◌, length, take, subst, arith}
use Rattle.std.specs.List.{AllByRecursion}
use Rattle.std.specs.FinMap.{get}
use Rattle.std.proofs.lemmas.List.{take_all}
use Rattle.kb_keys.specs.Rings.{key_at}
use Rattle.kb_files.specs.Opens.{Opens}
use Rattle.kb_device.specs.Caches.{RowCopied}
use Rattle.kb_device.proofs.Copied.{copies_more, rows_more}
use Rattle.kb_device.proofs.MergedPointers.{all_taken}
use Rattle.kb_device.proofs.caching.copy_rows.Goals as goal

pub rows-init : goal.rows-init
rows-init g c = (record { stays = λ q v at. at; from = λ within. within }, tt)

pub returns-in-Err-clause-grows : goal.returns-in-Err-clause-grows
returns-in-Err-clause-grows g c = copies_more (get c.args.store.now) (get c.args.cache.now) (get c.rows.cache) (get c.copy_kept.new.cache) c.rows.invariant.0 c.in-Err.ensures.grows

pub rows-preserved : goal.rows-preserved
rows-preserved g c =
    let sealed = g.S.Sealer.sealed in
    let hashed = g.H.BlockHash.hashed in
    let store = get c.args.store.now in
    let ring = key_at c.args.keys.now in
    let stays = c.in-Ok.ensures.grows.stays in (
      copies_more store (get c.args.cache.now) (get c.rows.cache) (get c.copy_kept.new.cache) c.rows.invariant.0 c.in-Ok.ensures.grows,
      all_taken (RowCopied (Opens sealed hashed store ring) (Opens sealed hashed (get c.copy_kept.new.cache) ring) c.args.pointers.now) c.args.rows.now c.rows.row-index c.row-item.result c.rows-test.true c.row-item.is
          (rows_more sealed hashed store ring (get c.rows.cache) (get c.copy_kept.new.cache) c.args.pointers.now (take c.rows.row-index c.args.rows.now) stays c.rows.invariant.1) c.in-Ok.ensures.copied,
    )

pub returns-clause-grows : goal.returns-clause-grows
returns-clause-grows g c = c.rows.invariant.0

pub returns-clause-copied : goal.returns-clause-copied
returns-clause-copied g c =
    let done = c.rows-test.false in
    subst (AllByRecursion (RowCopied (Opens g.S.Sealer.sealed g.H.BlockHash.hashed (get c.args.store.now) (key_at c.args.keys.now)) (Opens g.S.Sealer.sealed g.H.BlockHash.hashed (get c.rows.cache) (key_at c.args.keys.now)) c.args.pointers.now))
    (take_all c.rows.row-index c.args.rows.now done) c.rows.invariant.1
