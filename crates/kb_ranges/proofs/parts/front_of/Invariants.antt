use Rattle.std.proofs.Common.{◌<◌, ◌≤◌, take}
use Rattle.std.specs.FinMap.{get}
use Rattle.kb_keys.specs.Rings.{key_at}
use Rattle.kb_files.specs.Opens.{Opens}
use Rattle.kb_files.specs.Files.{HoldsAt, span, level_of}
use Rattle.kb_ranges.specs.Patches.{FewBlocks, FileHeld}
use Rattle.kb_ranges.proofs.Refusing.{Down}
use Rattle.kb_ranges.proofs.parts.front_of.Given as goal

abbrev pub invariant-levels : goal.invariant-levels
invariant-levels g l = record {
  within : l.above ≤ level_of l.size;
  own : l.above < level_of l.size → l.level ≤ l.above;
  down : Down (Opens g.S.Sealer.sealed g.H.BlockHash.hashed (get l.store) (key_at l.keys)) (get l.store) l.size l.fn.ptr l.above l.at;
  held : (few : FewBlocks)
      → FileHeld g.S.Sealer.sealed g.H.BlockHash.hashed (get l.store) (key_at l.keys) l.size l.fn.ptr few
      → HoldsAt (Opens g.S.Sealer.sealed g.H.BlockHash.hashed few.0 (key_at l.keys)) l.above l.at (take (span l.above) few.1);
}

abbrev pub decreases-levels : goal.decreases-levels
decreases-levels g l = l.above
