use Rattle.std.proofs.Common.{sym, ◌∙◌}
use Rattle.kb_device.proofs.Shared.{takes_some}
use Rattle.kb_device.proofs.caching.keep_blocks.Goals as goal

pub returns-in-Ok-clause-takes : goal.returns-in-Ok-clause-takes
returns-in-Ok-clause-takes g c = takes_some g.H.BlockHash.hashed c.args.cache.now c.in-Some.store c.put_all.new.self _ (sym c.take.ensures.value ∙ c.in-Some.is) c.in-Ok.ensures.put c.in-Ok.ensures.kept
