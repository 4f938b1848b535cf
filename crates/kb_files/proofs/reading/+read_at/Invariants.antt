use Rattle.std.specs.FinMap.{get}
use Rattle.kb_keys.specs.Rings.{key_at}
use Rattle.kb_files.specs.Opens.{Opens}
use Rattle.kb_files.specs.Files.{HoldsAt, HoldsSized}
use Rattle.kb_files.specs.Stops.{StopsAt}
use Rattle.kb_files.proofs.ReadParts.{Progress}
use Rattle.kb_files.proofs.Stopping.{Passed}
use Rattle.kb_files.proofs.reading.+read_at.Given as goal

abbrev pub decreases-read_at : goal.decreases-read_at
decreases-read_at g l = l.level

abbrev pub invariant-parts : goal.invariant-parts
invariant-parts g l =
    let vault = Opens g.S.Sealer.sealed g.H.BlockHash.hashed (get l.store) (key_at l.keys) in
    Progress (HoldsAt vault l.below) l.each l.part-items l.size l.part-index l.out.items × Passed (HoldsSized vault l.below) (StopsAt vault (get l.store) l.below) l.each l.part-items l.size l.part-index l.out.items
