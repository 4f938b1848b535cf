use Rattle.std.specs.FinMap.{get}
use Rattle.kb_keys.specs.Rings.{key_at}
use Rattle.kb_files.specs.Opens.{Opens}
use Rattle.kb_files.proofs.Vaults.{refuses_weaker}
use Rattle.kb_files.specs.Files.{IsLeafOf, leaf_text}
use Rattle.kb_files.proofs.reading.open_leaf.Goals as goal

pub returns-in-Err-clause-reads : goal.returns-in-Err-clause-reads
returns-in-Err-clause-reads g c =
    let vault = Opens g.S.Sealer.sealed g.H.BlockHash.hashed (get c.args.store.now) (key_at c.args.keys.now) in
    refuses_weaker (get c.args.store.now) (vault c.args.ptr) (IsLeafOf vault c.args.size c.args.ptr) (λ bytes h. (leaf_text bytes, h.1)) c.in-Err.fault c.in-Err.ensures.reads
