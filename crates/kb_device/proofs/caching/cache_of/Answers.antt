use Rattle.std.specs.FinMap.{get}
use Rattle.kb_keys.specs.Rings.{key_at}
use Rattle.kb_device.proofs.Copied.{caches_some, caches_none}
use Rattle.kb_device.proofs.caching.cache_of.Goals as goal

pub returns-in-Ok : goal.returns-in-Ok
returns-in-Ok g c =
    caches_some g.S.Sealer.sealed g.H.BlockHash.hashed (get c.args.store.now) (key_at c.args.keys.now) c.in-Ok.cache c.args.table.now.tree c.args.pointers.now c.is_well_formed.ensures c.in-Ok.ensures.from c.in-Ok.ensures.each

pub returns-in-Err-Clash : goal.returns-in-Err-Clash
returns-in-Err-Clash g c = caches_none g.S.Sealer.sealed g.H.BlockHash.hashed (get c.args.store.now) (key_at c.args.keys.now) c.args.table.now.tree c.args.pointers.now c.is_well_formed.ensures
