use Rattle.std.proofs.Common.{length}
use Rattle.std.specs.FinMap.{get}
use Rattle.kb_keys.specs.Rings.{key_at}
use Rattle.kb_device.proofs.Copied.{on_file}
use Rattle.kb_device.proofs.caching.copy_file.Goals as goal

pub returns-clause-copied : goal.returns-clause-copied
returns-clause-copied g c =
    on_file g.S.Sealer.sealed g.H.BlockHash.hashed (get c.args.store.now) (key_at c.args.keys.now) (get c.copy_at-copied.new.cache) (length c.args.bytes.now) c.level_of.result c.args.ptr c.level_of.ensures c.copy_at-copied.result c.copy_at-copied.ensures.copied
