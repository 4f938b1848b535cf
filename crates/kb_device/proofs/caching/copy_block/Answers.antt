use Rattle.std.proofs.Common.{◌≡◌, None, Some, sym, ◌∙◌}
use Rattle.kb_device.proofs.Copied.{put_copies, put_copied}
use Rattle.kb_device.proofs.caching.copy_block.Goals as goal

pub returns-in-Some-clause-grows : goal.returns-in-Some-clause-grows
returns-in-Some-clause-grows g c =
    put_copies g.H.BlockHash.hashed c.args.store.now c.args.cache.now c.put-put.new.self c.args.id.now c.in-Some.bytes.now (sym c.in-Some.ensures.found) c.in-Some.ensures.hashed c.put-put.result c.put-put.ensures.put c.put-put.ensures.kept

pub returns-in-Some-clause-copied : goal.returns-in-Some-clause-copied
returns-in-Some-clause-copied g c =
    put_copied g.H.BlockHash.hashed c.args.store.now c.args.cache.now c.put-put.new.self c.args.id.now c.in-Some.bytes.now (sym c.in-Some.ensures.found) c.in-Some.ensures.hashed c.put-put.result c.told.result c.told.ensures c.put-put.ensures.put

pub returns-in-None-clause-grows : goal.returns-in-None-clause-grows
returns-in-None-clause-grows g c = record { stays = λ q v at. at; from = λ within. within }

pub returns-in-None-clause-copied : goal.returns-in-None-clause-copied
returns-in-None-clause-copied g c b at = absurd (let no : None ≡ Some b = c.in-None.ensures.found ∙ at in cc)
