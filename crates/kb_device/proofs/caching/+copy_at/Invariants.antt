use Rattle.std.specs.Prelude.{take}
use Rattle.std.specs.List.{AllByRecursion}
use Rattle.std.specs.FinMap.{get}
use Rattle.kb_keys.specs.Rings.{key_at}
use Rattle.kb_files.specs.Opens.{Opens}
use Rattle.kb_device.specs.Caches.{Copies, IsCopied}
use Rattle.kb_device.proofs.Copied.{BlockCopied}
use Rattle.kb_device.proofs.caching.+copy_at.Given as goal

abbrev pub decreases-copy_at : goal.decreases-copy_at
decreases-copy_at g l = l.level

abbrev pub invariant-parts : goal.invariant-parts
invariant-parts g l =
    Copies (get l.store) (get l.fn.cache) (get l.cache) × BlockCopied (get l.store) (get l.cache) l.fn.ptr.id
    × AllByRecursion (IsCopied (Opens g.S.Sealer.sealed g.H.BlockHash.hashed (get l.store) (key_at l.keys)) (Opens g.S.Sealer.sealed g.H.BlockHash.hashed (get l.cache) (key_at l.keys)) l.below) (take l.part-index l.part-items)
