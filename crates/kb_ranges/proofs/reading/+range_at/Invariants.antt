use Rattle.std.proofs.Common.{◌+◌, ◌≤◌}
use Rattle.std.specs.FinMap.{get}
use Rattle.kb_keys.specs.Rings.{key_at}
use Rattle.kb_files.specs.Opens.{Opens}
use Rattle.kb_files.specs.Files.{HoldsAt}
use Rattle.kb_files.specs.Counts.{touched}
use Rattle.kb_ranges.proofs.Ranging.{Ranging}
use Rattle.kb_ranges.proofs.Ways.{Passing}
use Rattle.kb_ranges.proofs.reading.+range_at.Given as goal

abbrev pub decreases-range_at : goal.decreases-range_at
decreases-range_at g l = l.level

abbrev pub invariant-parts : goal.invariant-parts
invariant-parts g l = record {
  reads : Ranging (HoldsAt (Opens g.S.Sealer.sealed g.H.BlockHash.hashed (get l.store) (key_at l.keys)) l.below) l.each l.part-items l.size l.from l.to l.fn.out.items l.part-index l.left l.start l.end l.out.items;
  passes : Passing (Opens g.S.Sealer.sealed g.H.BlockHash.hashed (get l.store) (key_at l.keys)) (get l.store) l.below l.fn.ptr.id l.each l.part-items l.size l.from l.to l.part-index l.left l.start l.end;
  gets : l.steps + touched l.below l.start l.end ≤ l.fn.steps + touched l.level l.from l.to;
}
