use Rattle.std.specs.FinMap.{get}
use Rattle.kb_keys.specs.Rings.{key_at}
use Rattle.kb_files.specs.Opens.{Opens}
use Rattle.kb_files.proofs.Vaults.{refuses_weaker}
use Rattle.kb_files.specs.Files.{IsIndexOf, index_text}
use Rattle.kb_files.proofs.reading.open_index.Goals as goal

pub returns-in-Err-clause-reads : goal.returns-in-Err-clause-reads
returns-in-Err-clause-reads g c =
    let vault = Opens g.S.Sealer.sealed g.H.BlockHash.hashed (get c.args.store.now) (key_at c.args.keys.now) in
    refuses_weaker (get c.args.store.now) (vault c.args.ptr) (IsIndexOf vault c.args.level c.args.ptr) (λ ptrs h. (index_text c.args.level ptrs, h.1)) c.in-Err.fault c.in-Err.ensures.reads
