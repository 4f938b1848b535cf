use Rattle.std.proofs.Common.{length, OnOk, sym, ap, subst, ◌∙◌}
use Rattle.std.specs.FinMap.{get}
use Rattle.kb_keys.specs.Rings.{key_at}
use Rattle.kb_files.specs.Opens.{Opens}
use Rattle.kb_device.specs.Caches.{KindCopied}
use Rattle.kb_device.proofs.Copied.{on_dir}
use Rattle.kb_device.proofs.caching.copy_row.Goals as goal

pub returns-in-Dir-clause-copied : goal.returns-in-Dir-clause-copied
returns-in-Dir-clause-copied g c =
    let sealed = g.S.Sealer.sealed in
    let hashed = g.H.BlockHash.hashed in
    let store = get c.args.store.now in
    let ring = key_at c.args.keys.now in
    subst (λ k. OnOk c.copy_block.result (KindCopied (Opens sealed hashed store ring) (Opens sealed hashed (get c.copy_block.new.cache) ring) k c.args.row.now.bytes c.args.ptr)) (sym c.in-Dir.is)
    (on_dir sealed hashed store ring (get c.copy_block.new.cache) c.args.row.now.bytes c.args.ptr c.copy_block.result c.copy_block.ensures.copied)
