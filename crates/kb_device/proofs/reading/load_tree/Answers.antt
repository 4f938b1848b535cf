use Rattle.std.proofs.Common.{subst}
use Rattle.std.specs.FinMap.{get}
use Rattle.kb_keys.specs.Rings.{key_at}
use Rattle.kb_files.specs.Opens.{Opens}
use Rattle.kb_ops.specs.Trees.{look}
use Rattle.kb_snap.specs.Holds.{HoldsTree, HoldsEach}
use Rattle.kb_folder.specs.Held.{held}
use Rattle.kb_device.specs.Caches.{Caches}
use Rattle.kb_device.proofs.reading.load_tree.Goals as goal

pub returns-in-Ok-cache_of-clause-read : goal.returns-in-Ok-cache_of-clause-read
returns-in-Ok-cache_of-clause-read g c t holds =
    let h = c.in-Ok.ensures in
    let reads = subst (λ s. HoldsTree (Opens g.S.Sealer.sealed g.H.BlockHash.hashed (get s) (key_at c.args.ring.now)) c.args.private.now.root c.args.private.now.mtime c.in-Ok.made.0.tree) c.store-store.ensures h.reads in
    let cached = subst (λ s. Caches g.S.Sealer.sealed g.H.BlockHash.hashed (get s) (key_at c.args.ring.now) c.in-Ok.made.0.tree c.in-Ok.made.1 c.in-Ok-cache_of.cache) c.store-store.ensures c.in-Ok-cache_of.ensures in
    let each = subst (λ s. HoldsEach (Opens g.S.Sealer.sealed g.H.BlockHash.hashed (get s) (key_at c.args.ring.now)) (look c.in-Ok.made.0.tree) c.args.private.now.root (get c.in-Ok.made.1)) c.store-store.ensures h.each in (
      c.one_tree_law.ensures (get (held c.args.folder.now).blocks) (key_at c.args.ring.now) c.args.private.now.root c.args.private.now.mtime c.in-Ok.made.0.tree t reads holds,
      cached c.args.private.now.root each h.all,
    )
