use Rattle.std.specs.FinMap.{get}
use Rattle.kb_keys.specs.Rings.{key_at}
use Rattle.kb_files.specs.Opens.{Opens}
use Rattle.kb_files.proofs.Vaults.{refuses_weaker}
use Rattle.kb_dirs.specs.Dirs.{dir_text, HoldsDir}
use Rattle.kb_dirs.proofs.listing.list_dir.Goals as goal

pub returns-in-Err-clause-reads : goal.returns-in-Err-clause-reads
returns-in-Err-clause-reads g c =
    let vault = Opens g.S.Sealer.sealed g.H.BlockHash.hashed (get c.args.store.now) (key_at c.args.keys.now) in
    refuses_weaker (get c.args.store.now) (vault c.args.ptr) (HoldsDir vault c.args.ptr) (λ es h. (dir_text es, h.1)) c.in-Err.fault c.in-Err.ensures.reads
