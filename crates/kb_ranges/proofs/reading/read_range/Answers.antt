use Rattle.std.proofs.Common.{◌≡◌, ℕ, ◌+◌, ◌<◌, ◌≤◌, ap, subst, arith}
use Rattle.std.specs.FinMap.{get}
use Rattle.kb_keys.specs.Rings.{key_at}
use Rattle.kb_files.specs.Opens.{Opens}
use Rattle.kb_files.specs.Files.{level_of}
use Rattle.kb_ranges.specs.Ways.{Reaches, StopsFirst}
use Rattle.kb_ranges.proofs.Ways.{range_reached, range_stopped}
use Rattle.kb_ranges.proofs.reading.read_range.Goals as goal

pub returns-in-Ok-range_at-clause-first : goal.returns-in-Ok-range_at-clause-first
returns-in-Ok-range_at-clause-first g c =
    let blocks = get c.args.store.now in
    let vault = Opens g.S.Sealer.sealed g.H.BlockHash.hashed blocks (key_at c.args.keys.now) in
    let level : c.level_of.result ≡ level_of c.args.size = c.level_of.ensures in
    let from = c.min-from.result in
    range_reached vault blocks c.args.size c.args.ptr c.args.offset c.args.length from (from + c.min.result) (omega arith) c.min-from.ensures (ap (λ n. from + n) c.min.ensures)
    (subst (λ n. (k : ℕ) → from ≤ k → k < from + c.min.result → Reaches vault n c.args.size c.args.ptr k) level c.in-Ok-range_at.ensures.first) (Unit {0}) tt

pub returns-in-Err-range_at-clause-first : goal.returns-in-Err-range_at-clause-first
returns-in-Err-range_at-clause-first g c =
    let blocks = get c.args.store.now in
    let vault = Opens g.S.Sealer.sealed g.H.BlockHash.hashed blocks (key_at c.args.keys.now) in
    let level : c.level_of.result ≡ level_of c.args.size = c.level_of.ensures in
    let from = c.min-from.result in
    let fault = c.in-Err-range_at.fault in
    range_stopped vault blocks c.args.size c.args.ptr c.args.offset c.args.length from (from + c.min.result) (omega arith) c.min-from.ensures (ap (λ n. from + n) c.min.ensures) fault
    (subst (λ n. StopsFirst vault blocks n c.args.size c.args.ptr from (from + c.min.result) fault) level c.in-Err-range_at.ensures.first) (Unit {0})
