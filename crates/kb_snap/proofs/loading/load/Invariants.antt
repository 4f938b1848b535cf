use Rattle.std.proofs.Common.{◌-◌, ◌^◌}
use Rattle.std.specs.FinMap as map
use Rattle.kb_keys.specs.Rings.{key_at}
use Rattle.kb_snap.proofs.Turns.{IsTurn}
use Rattle.kb_snap.proofs.loading.load.Given as goal

abbrev pub invariant-entries : goal.invariant-entries
invariant-entries g l = IsTurn g.S.Sealer.sealed g.H.BlockHash.hashed g.met.S.Sealer.one_plain (map.get l.store) (key_at l.keys) l.fn.root l.fn.mtime l.rows l.pointers l.waiting.items

-- pointers are kept for ever more ids
abbrev pub decreases-entries : goal.decreases-entries
decreases-entries g l = 2 ^ 64 - map.len l.pointers
