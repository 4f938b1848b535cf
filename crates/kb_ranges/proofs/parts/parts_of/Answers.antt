use Rattle.std.proofs.Common.{◌≡◌, ◌-◌, inl, inr, min, refl, arith}
use Rattle.std.specs.FinMap.{get}
use Rattle.kb_keys.specs.Rings.{key_at}
use Rattle.kb_files.specs.Opens.{Opens}
use Rattle.kb_files.proofs.Vaults.{opens_same, refuses_weaker}
use Rattle.kb_files.specs.Files.{IsIndexOf, span}
use Rattle.kb_ranges.specs.Patches.{PartHeld}
use Rattle.kb_ranges.proofs.OldParts.{order_alone, order_below, has_below, opens_few, span_within}
use Rattle.kb_ranges.proofs.Refusing.{alone_stands, index_stands, none_stands}
use Rattle.kb_ranges.proofs.parts.parts_of.Goals as goal

pub returns-in-Ok-clause-tells : goal.returns-in-Ok-clause-tells
returns-in-Ok-clause-tells g c few h =
    order_alone (Opens g.S.Sealer.sealed g.H.BlockHash.hashed few.0 (key_at c.args.keys.now)) c.args.level c.args.part.level c.if-part-level.true c.in-Some.ptr c.args.part.ptr c.in-Some.is c.in-Ok.ptrs.items c.in-Ok.ensures.one few.1 c.args.part.size h.1.0 c.if-part-eq0.false c.requires.sized h.1.1

pub returns-in-Ok-open_index-clause-tells : goal.returns-in-Ok-open_index-clause-tells
returns-in-Ok-open_index-clause-tells g c few h =
    let sealed = g.S.Sealer.sealed in
    let hashed = g.H.BlockHash.hashed in
    let blocks = get c.args.store.now in
    let keys = key_at c.args.keys.now in
    let one = opens_same sealed hashed blocks keys g.met.S.Sealer.one_plain in
    order_below (Opens sealed hashed few.0 keys) (Opens sealed hashed blocks keys) (opens_few sealed hashed few.0 blocks keys h.0) one c.args.level c.args.part.level c.requires.above c.requires.lower c.if-part-level.false c.in-Some.ptr c.args.part.ptr c.in-Some.is c.in-Ok-open_index.ptrs.items c.in-Ok-open_index.ensures.reads.0 c.in-Ok-open_index.ensures.reads.1 few.1 h.1.1

pub returns-in-Err-open_index-clause-tells : goal.returns-in-Err-open_index-clause-tells
returns-in-Err-open_index-clause-tells g c =
    let sealed = g.S.Sealer.sealed in
    let hashed = g.H.BlockHash.hashed in
    let blocks = get c.args.store.now in
    let keys = key_at c.args.keys.now in
    refuses_weaker blocks (IsIndexOf (Opens sealed hashed blocks keys) c.args.level c.in-Some.ptr) (PartHeld sealed hashed blocks keys c.args.part)
    (λ few h. has_below (Opens sealed hashed few.0 keys) (Opens sealed hashed blocks keys) (opens_few sealed hashed few.0 blocks keys h.0) c.args.level c.args.part.level c.requires.above c.requires.lower c.if-part-level.false c.in-Some.ptr c.args.part.ptr c.in-Some.is few.1 h.1.1)
    c.in-Err-open_index.fault c.in-Err-open_index.ensures.reads

pub returns-then-part-eq0-clause-stand : goal.returns-then-part-eq0-clause-stand
returns-then-part-eq0-clause-stand g c = none_stands (Opens g.S.Sealer.sealed g.H.BlockHash.hashed (get c.args.store.now) (key_at c.args.keys.now)) (get c.args.store.now) (min c.args.part.level (c.args.level - 1)) (span (c.args.level - 1)) c.args.part c.new.result.items c.new.ensures.items

pub returns-in-None-clause-stand : goal.returns-in-None-clause-stand
returns-in-None-clause-stand g c = none_stands (Opens g.S.Sealer.sealed g.H.BlockHash.hashed (get c.args.store.now) (key_at c.args.keys.now)) (get c.args.store.now) (min c.args.part.level (c.args.level - 1)) (span (c.args.level - 1)) c.args.part c.new-in-None.result.items c.new-in-None.ensures.items

pub returns-in-Ok-clause-stand : goal.returns-in-Ok-clause-stand
returns-in-Ok-clause-stand g c =
    let below = c.if-part-level.true in
    let lower : min c.args.part.level (c.args.level - 1) ≡ c.args.part.level = omega arith in
    let room = span_within c.args.part.level (c.args.level - 1) (omega arith) in
    let sized = c.requires.sized in
    alone_stands (Opens g.S.Sealer.sealed g.H.BlockHash.hashed (get c.args.store.now) (key_at c.args.keys.now)) (get c.args.store.now) (min c.args.part.level (c.args.level - 1)) (span (c.args.level - 1)) c.args.part c.in-Some.ptr c.in-Ok.ptrs.items c.in-Some.is c.in-Ok.ensures.one lower (omega arith)

pub returns-in-Err-clause-bad : goal.returns-in-Err-clause-bad
returns-in-Err-clause-bad g c = inl refl

pub returns-in-Ok-open_index-clause-stand : goal.returns-in-Ok-open_index-clause-stand
returns-in-Ok-open_index-clause-stand g c =
    let low = c.requires.lower in
    let high = c.if-part-level.false in
    let some = c.requires.above in
    let lower : min c.args.part.level (c.args.level - 1) ≡ c.args.level - 1 = omega arith in
    index_stands (Opens g.S.Sealer.sealed g.H.BlockHash.hashed (get c.args.store.now) (key_at c.args.keys.now)) (get c.args.store.now) c.args.level (min c.args.part.level (c.args.level - 1)) (span (c.args.level - 1)) c.args.part c.in-Some.ptr c.in-Ok-open_index.ptrs.items c.in-Some.is some (omega arith) lower refl c.in-Ok-open_index.ensures.reads

pub returns-in-Err-open_index-clause-bad : goal.returns-in-Err-open_index-clause-bad
returns-in-Err-open_index-clause-bad g c =
    let low = c.requires.lower in
    let high = c.if-part-level.false in
    inr (omega arith, (c.in-Some.ptr, (c.in-Some.is, (c.in-Err-open_index.ensures.reads, c.in-Err-open_index.ensures.names))))
