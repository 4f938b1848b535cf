use Rattle.std.proofs.Common.{◌≡◌, ℕ, suc, ◌-◌, ◌≤◌, min, Some, take, refl, ap, sym, subst, ◌∙◌, arith}
use Rattle.std.specs.FinMap.{get}
use Rattle.kb_keys.specs.Rings.{key_at}
use Rattle.kb_files.specs.Opens.{Opens}
use Rattle.kb_files.specs.Files.{HoldsAt, IsIndexOf, index_text, span, level_of}
use Rattle.kb_files.proofs.Vaults.{opens_same, refuses_weaker}
use Rattle.kb_files.proofs.ReadParts.{has_index}
use Rattle.kb_ranges.specs.Patches.{FileHeld}
use Rattle.kb_ranges.specs.declared.parts.Part.{Part}
use Rattle.kb_ranges.proofs.OldParts.{opens_few}
use Rattle.kb_ranges.proofs.Fronts.{front_start, front_below, front_end, least_level, own_level, less_by_one}
use Rattle.kb_ranges.proofs.Refusing.{down_start, down_more, down_end, down_stops, front_size}
use Rattle.kb_ranges.proofs.parts.front_of.Goals as goal

pub levels-init : goal.levels-init
levels-init g c =
    let is = c.level_of-above.ensures in
    record {
      within = omega arith;
      own = λ less. absurd (omega arith);
      down = down_start (Opens g.S.Sealer.sealed g.H.BlockHash.hashed (get c.args.store.now) (key_at c.args.keys.now)) (get c.args.store.now) c.args.size c.args.ptr c.level_of-above.result is c.requires.small;
      held = λ few h.
          let vault = Opens g.S.Sealer.sealed g.H.BlockHash.hashed few.0 (key_at c.args.keys.now) in
          subst (λ n. HoldsAt vault n c.args.ptr (take (span n) few.1)) (sym is) (front_start vault c.args.ptr c.args.size few.1 h.1);
    }

pub returns-in-Err-clause-tells : goal.returns-in-Err-clause-tells
returns-in-Err-clause-tells g c =
    let vault = Opens g.S.Sealer.sealed g.H.BlockHash.hashed (get c.args.store.now) (key_at c.args.keys.now) in
    let above : c.levels.above ≡ suc (c.levels.above - 1) = (let more = c.levels-test.true in omega arith) in
    refuses_weaker (get c.args.store.now) (IsIndexOf vault c.levels.above c.levels.at) (FileHeld g.S.Sealer.sealed g.H.BlockHash.hashed (get c.args.store.now) (key_at c.args.keys.now) c.args.size c.args.ptr)
    (λ few h.
    let within = opens_few g.S.Sealer.sealed g.H.BlockHash.hashed few.0 (get c.args.store.now) (key_at c.args.keys.now) h.0 in
    let there = has_index (Opens g.S.Sealer.sealed g.H.BlockHash.hashed few.0 (key_at c.args.keys.now)) c.levels.above (c.levels.above - 1) above c.levels.at (take (span c.levels.above) few.1) (c.levels.invariant.held few h) in
    (there.0, (there.1.0, within c.levels.at (index_text c.levels.above there.0) there.1.1))) c.in-Err.fault c.in-Err.ensures.reads

pub levels-preserved : goal.levels-preserved
levels-preserved g c =
    let vault = Opens g.S.Sealer.sealed g.H.BlockHash.hashed (get c.args.store.now) (key_at c.args.keys.now) in
    let one = opens_same g.S.Sealer.sealed g.H.BlockHash.hashed (get c.args.store.now) (key_at c.args.keys.now) g.met.S.Sealer.one_plain in
    let above : c.levels.above ≡ suc (c.levels.above - 1) = (let more = c.levels-test.true in omega arith) in
    record {
      within = less c.levels.above (level_of c.args.size) c.levels.invariant.within;
      own = λ below. less_by_one c.args.level c.levels.above (level_of c.args.size) c.levels-test.true;
      down = down_more vault (get c.args.store.now) c.args.size c.args.ptr c.levels.above c.levels.at c.levels.invariant.down (let more = c.levels-test.true in omega arith) c.levels.invariant.within c.in-Ok.ptrs.items c.in-Ok.ensures.reads c.index-at.result.now c.index-at.result.now c.index-at.ensures;
      held = λ few h. front_below (Opens g.S.Sealer.sealed g.H.BlockHash.hashed few.0 (key_at c.args.keys.now)) vault (opens_few g.S.Sealer.sealed g.H.BlockHash.hashed few.0 (get c.args.store.now) (key_at c.args.keys.now) h.0) one c.levels.above (c.levels.above - 1) above c.levels.at c.in-Ok.ptrs.items c.in-Ok.ensures.reads.0 c.in-Ok.ensures.reads.1 few.1 (c.levels.invariant.held few h) c.index-at.result.now c.index-at.result.now c.index-at.ensures;
    }
  where
    less : (a b : ℕ) → a ≤ b → a - 1 ≤ b
    less a b h = omega arith

pub returns-clause-tells : goal.returns-clause-tells
returns-clause-tells g c few h =
    let vault = Opens g.S.Sealer.sealed g.H.BlockHash.hashed few.0 (key_at c.args.keys.now) in
    let so = c.levels.invariant in
    let both = front_end vault c.args.level c.levels.above c.args.size c.levels.at few.1 h.1.0 c.requires.small c.levels-test.false (own_level c.args.level c.levels.above (level_of c.args.size) so.within so.own) (so.held few h) in
    (both.0 ∙ sym (c.min.ensures ∙ ap (min c.args.size) c.span.ensures), both.1)

pub returns-clause-part : goal.returns-clause-part
returns-clause-part g c = (refl, least_level c.args.level c.levels.above (level_of c.args.size) c.levels.invariant.within c.levels.invariant.own c.levels-test.false, c.min.ensures ∙ ap (min c.args.size) c.span.ensures)

pub returns-in-Err-clause-bad : goal.returns-in-Err-clause-bad
returns-in-Err-clause-bad g c =
    let vault = Opens g.S.Sealer.sealed g.H.BlockHash.hashed (get c.args.store.now) (key_at c.args.keys.now) in
    down_stops vault (get c.args.store.now) c.args.level c.args.size c.args.ptr c.levels.above c.levels.at c.in-Err.fault c.levels.invariant.down c.levels-test.true c.levels.invariant.within (c.in-Err.ensures.reads, c.in-Err.ensures.names)

pub returns-clause-stands : goal.returns-clause-stands
returns-clause-stands g c =
    let vault = Opens g.S.Sealer.sealed g.H.BlockHash.hashed (get c.args.store.now) (key_at c.args.keys.now) in
    let so = c.levels.invariant in
    let part : Part = record { ptr = Some c.levels.at; level = c.levels.above; size = c.min.result } in
    let sized = front_size c.args.level c.levels.above c.args.size (level_of c.args.size) c.min.result c.span.result c.requires.small refl c.levels-test.false (own_level c.args.level c.levels.above (level_of c.args.size) so.within so.own) c.span.ensures c.min.ensures in
    down_end vault (get c.args.store.now) c.args.level c.args.size c.args.ptr c.levels.above c.levels.at so.down c.levels-test.false so.own part refl refl sized
