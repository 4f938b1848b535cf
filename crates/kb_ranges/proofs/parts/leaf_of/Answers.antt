use Rattle.std.specs.FinMap.{get}
use Rattle.kb_keys.specs.Rings.{key_at}
use Rattle.kb_files.specs.Opens.{Opens}
use Rattle.kb_files.specs.Files.{IsLeafOf}
use Rattle.kb_ranges.proofs.Refusing.{own_is_bad}
use Rattle.kb_ranges.proofs.parts.leaf_of.Goals as goal

pub returns-in-Some-clause-bad : goal.returns-in-Some-clause-bad
returns-in-Some-clause-bad g c =
    let blocks = get c.args.store.now in
    let vault = Opens g.S.Sealer.sealed g.H.BlockHash.hashed blocks (key_at c.args.keys.now) in
    own_is_bad blocks (IsLeafOf vault c.args.part.size) c.args.part c.in-Some.ptr (λ b. b.items) c.open_leaf.result c.in-Some.is c.open_leaf.ensures.reads c.open_leaf.ensures.names
