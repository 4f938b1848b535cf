use Rattle.std.proofs.Common.{◌≡◌, ℕ, suc, ◌+◌, ◌-◌, ◌<◌, ◌≤◌, refl, List, [], ◌++◌, get_or, slice_range, ap, sym, subst, ◌∙◌, arith}
use Rattle.kb_blocks.specs.declared.pointer.Ptr.{Ptr}
use Rattle.std.specs.FinMap.{get}
use Rattle.kb_keys.specs.Rings.{key_at}
use Rattle.kb_files.specs.Opens.{Opens}
use Rattle.kb_files.proofs.Vaults.{opens_same, refuses_weaker, is_stored}
use Rattle.kb_files.specs.Files.{InOrder, HoldsAt, HoldsSized}
use Rattle.kb_files.specs.Counts.{touched}
use Rattle.kb_files.proofs.ReadParts.{index_held, at_part, past_parts}
use Rattle.kb_ranges.proofs.Ranging.{Ranging, ranging_part, ranging_more, ranging_end, ranging_short, gets_more}
use Rattle.kb_ranges.specs.Ways.{StopsFirst}
use Rattle.kb_ranges.proofs.Ways.{passing_more, passing_stops, passing_short, passing_end, stops_at_once, leaf_stops, leaf_reaches, index_stops, index_stopped, behind_reaches}
use Rattle.kb_files.specs.declared.loading.LoadFault.TheVariants.{BadBlock, Memory}
use Rattle.kb_ranges.proofs.reading.+range_at.Goals as goal

pub returns-in-Err-range_at-clause-tells : goal.returns-in-Err-range_at-clause-tells
returns-in-Err-range_at-clause-tells g t c =
    let blocks = get c.args.store.now in
    let keys = key_at c.args.keys.now in
    let vault = Opens g.S.Sealer.sealed g.H.BlockHash.hashed blocks keys in
    let held = HoldsAt vault (c.args.level - 1) in
    let each = c.span-each.result in
    let ps = c.deref-part-items.result.now in
    let p : Ptr = get_or ps c.parts.part-index (record { id = []; generation = 0 }) in
    let next = at_part ps c.parts.part-index (record { id = []; generation = 0 }) c.parts-test.true in
    let one = opens_same g.S.Sealer.sealed g.H.BlockHash.hashed blocks keys g.met.S.Sealer.one_plain in
    let above : c.args.level ≡ suc (c.args.level - 1) = omega arith in
    let order = λ (bytes : List ℕ) (h : HoldsAt vault c.args.level c.args.ptr bytes). subst (λ qs. InOrder held each qs bytes) (sym c.deref-part-items.ensures.value)
    (subst (λ n. InOrder held n c.in-Ok-get_index.ptrs.items bytes) (sym c.span-each.ensures) (index_held vault one c.args.level (c.args.level - 1) above c.args.ptr c.in-Ok-get_index.ptrs.items c.in-Ok-get_index.ensures.reads.0 c.in-Ok-get_index.ensures.reads.1 bytes h)) in
    refuses_weaker blocks (HoldsSized vault (c.args.level - 1) c.min-here.result p) (HoldsSized vault c.args.level c.args.size c.args.ptr)
    (λ bytes h. let part = ranging_part held each ps c.args.size c.args.from c.args.to c.args.out.now.items c.parts.part-index c.parts.left c.parts.start c.parts.end c.parts.out.items p c.parts.invariant.reads next bytes h.0 (order bytes h.1) in (part.0, (part.1.0 ∙ sym c.min-here.ensures, part.1.1)))
    c.in-Err-range_at.fault c.in-Err-range_at.ensures.tells

pub returns-in-Err-range_at-clause-gets : goal.returns-in-Err-range_at-clause-gets
returns-in-Err-range_at-clause-gets g t c =
    let more = gets_more (c.args.level - 1) c.parts.steps (c.args.steps.now + touched c.args.level c.args.from c.args.to) c.parts.start c.parts.end c.parts.left c.min-here.result c.span-each.result c.range_at.new.steps
    (omega arith) c.span-each.ensures c.min-here.ensures c.parts.invariant.reads.within c.parts.invariant.gets
    (subst (λ n. c.range_at.new.steps ≤ c.parts.steps + touched (c.args.level - 1) c.parts.start n) c.min.ensures c.range_at.ensures.gets) in
    below c.range_at.new.steps _ _ more
  where
    below : (a b whole : ℕ) → a + b ≤ whole → a ≤ whole
    below a b whole h = omega arith

pub parts-preserved : goal.parts-preserved
parts-preserved g t c =
    let blocks = get c.args.store.now in
    let vault = Opens g.S.Sealer.sealed g.H.BlockHash.hashed blocks (key_at c.args.keys.now) in
    let held = HoldsAt vault (c.args.level - 1) in
    let each = c.span-each.result in
    let ps = c.deref-part-items.result.now in
    let p : Ptr = get_or ps c.parts.part-index (record { id = []; generation = 0 }) in
    let next = at_part ps c.parts.part-index (record { id = []; generation = 0 }) c.parts-test.true in
    let before = c.args.out.now.items in
    let out = c.range_at.new.out.items in
    let more = ranging_more held each ps c.args.size c.args.from c.args.to before c.parts.part-index c.parts.left c.parts.start c.parts.end c.parts.out.items p c.parts.invariant.reads next c.min-here.result c.min-here.ensures out
    (λ part h. c.in-Ok-range_at.ensures.tells part h ∙ ap (λ n. c.parts.out.items ++ slice_range part c.parts.start n) c.min.ensures) in
    let gets = gets_more (c.args.level - 1) c.parts.steps (c.args.steps.now + touched c.args.level c.args.from c.args.to) c.parts.start c.parts.end c.parts.left c.min-here.result each c.range_at.new.steps
    (omega arith) c.span-each.ensures c.min-here.ensures c.parts.invariant.reads.within c.parts.invariant.gets
    (subst (λ n. c.range_at.new.steps ≤ c.parts.steps + touched (c.args.level - 1) c.parts.start n) c.min.ensures c.range_at.ensures.gets) in
    record {
      reads =
          subst (λ n. Ranging held each ps c.args.size c.args.from c.args.to before (c.parts.part-index + 1) (c.parts.left - c.min-here.result) c.saturating_sub-start.result n out) (sym c.saturating_sub-end.ensures)
          (subst (λ n. Ranging held each ps c.args.size c.args.from c.args.to before (c.parts.part-index + 1) (c.parts.left - c.min-here.result) n (c.parts.end - each) out) (sym c.saturating_sub-start.ensures) more);
      passes =
          passing_more vault blocks (c.args.level - 1) c.args.ptr.id each ps c.args.size c.args.from c.args.to c.parts.part-index c.parts.left c.parts.start c.parts.end p c.parts.invariant.passes next c.parts.invariant.reads.within c.min-here.result c.min-here.ensures
          (λ k low high. c.in-Ok-range_at.ensures.first k low (subst (λ n. k < n) (sym c.min.ensures) high)) (c.parts.left - c.min-here.result) c.saturating_sub-start.result c.saturating_sub-end.result refl c.saturating_sub-start.ensures c.saturating_sub-end.ensures;
      gets =
          subst (λ n. c.range_at.new.steps + touched (c.args.level - 1) c.saturating_sub-start.result n ≤ c.args.steps.now + touched c.args.level c.args.from c.args.to) (sym c.saturating_sub-end.ensures)
          (subst (λ n. c.range_at.new.steps + touched (c.args.level - 1) n (c.parts.end - each) ≤ c.args.steps.now + touched c.args.level c.args.from c.args.to) (sym c.saturating_sub-start.ensures) gets);
    }

pub returns-then-end-gt0-clause-tells : goal.returns-then-end-gt0-clause-tells
returns-then-end-gt0-clause-tells g t c =
    let blocks = get c.args.store.now in
    let keys = key_at c.args.keys.now in
    let vault = Opens g.S.Sealer.sealed g.H.BlockHash.hashed blocks keys in
    let held = HoldsAt vault (c.args.level - 1) in
    let each = c.span-each.result in
    let ps = c.deref-part-items.result.now in
    let one = opens_same g.S.Sealer.sealed g.H.BlockHash.hashed blocks keys g.met.S.Sealer.one_plain in
    let above : c.args.level ≡ suc (c.args.level - 1) = omega arith in
    let order = λ (bytes : List ℕ) (h : HoldsAt vault c.args.level c.args.ptr bytes). subst (λ qs. InOrder held each qs bytes) (sym c.deref-part-items.ensures.value)
    (subst (λ n. InOrder held n c.in-Ok-get_index.ptrs.items bytes) (sym c.span-each.ensures) (index_held vault one c.args.level (c.args.level - 1) above c.args.ptr c.in-Ok-get_index.ptrs.items c.in-Ok-get_index.ensures.reads.0 c.in-Ok-get_index.ensures.reads.1 bytes h)) in
    let last = past_parts ps c.parts.part-index c.parts-test.false in (
      is_stored g.S.Sealer.sealed g.H.BlockHash.hashed blocks keys c.args.ptr _ c.in-Ok-get_index.ensures.reads.1,
      λ bytes h. ranging_short held each ps c.args.size c.args.from c.args.to c.args.out.now.items c.parts.part-index c.parts.left c.parts.start c.parts.end c.parts.out.items c.parts.invariant.reads last c.if-end-gt0.true bytes h.0 (order bytes h.1),
    )

pub returns-clause-tells : goal.returns-clause-tells
returns-clause-tells g t c bytes h =
    let blocks = get c.args.store.now in
    let keys = key_at c.args.keys.now in
    let vault = Opens g.S.Sealer.sealed g.H.BlockHash.hashed blocks keys in
    let held = HoldsAt vault (c.args.level - 1) in
    let each = c.span-each.result in
    let ps = c.deref-part-items.result.now in
    let one = opens_same g.S.Sealer.sealed g.H.BlockHash.hashed blocks keys g.met.S.Sealer.one_plain in
    let above : c.args.level ≡ suc (c.args.level - 1) = omega arith in
    let order = subst (λ qs. InOrder held each qs bytes) (sym c.deref-part-items.ensures.value)
    (subst (λ n. InOrder held n c.in-Ok-get_index.ptrs.items bytes) (sym c.span-each.ensures) (index_held vault one c.args.level (c.args.level - 1) above c.args.ptr c.in-Ok-get_index.ptrs.items c.in-Ok-get_index.ensures.reads.0 c.in-Ok-get_index.ensures.reads.1 bytes h.1)) in
    ranging_end held each ps c.args.size c.args.from c.args.to c.args.out.now.items c.parts.part-index c.parts.left c.parts.start c.parts.end c.parts.out.items c.parts.invariant.reads c.if-end-gt0.false bytes h.0 order

pub returns-in-Err-get_index-clause-first : goal.returns-in-Err-get_index-clause-first
returns-in-Err-get_index-clause-first g t c =
    let blocks = get c.args.store.now in
    let vault = Opens g.S.Sealer.sealed g.H.BlockHash.hashed blocks (key_at c.args.keys.now) in
    let fault = c.in-Err-get_index.fault in
    let some : c.args.from < c.args.to = omega arith in
    stops_at_once vault blocks c.args.level c.args.size c.args.ptr c.args.from c.args.to fault some
    (index_stops vault blocks c.args.level (c.args.level - 1) c.args.size c.args.ptr c.args.from fault (omega arith) (c.in-Err-get_index.ensures.reads, c.in-Err-get_index.ensures.names))

pub returns-in-Err-range_at-clause-first : goal.returns-in-Err-range_at-clause-first
returns-in-Err-range_at-clause-first g t c =
    let blocks = get c.args.store.now in
    let vault = Opens g.S.Sealer.sealed g.H.BlockHash.hashed blocks (key_at c.args.keys.now) in
    let each = c.span-each.result in
    let ps = c.deref-part-items.result.now in
    let p : Ptr = get_or ps c.parts.part-index (record { id = []; generation = 0 }) in
    let next = at_part ps c.parts.part-index (record { id = []; generation = 0 }) c.parts-test.true in
    let fault = c.in-Err-range_at.fault in
    let above : c.args.level ≡ suc (c.args.level - 1) = omega arith in
    index_stopped vault blocks c.args.level (c.args.level - 1) c.args.size each c.args.ptr c.in-Ok-get_index.ptrs.items ps c.args.from c.args.to fault above c.span-each.ensures c.deref-part-items.ensures.value c.in-Ok-get_index.ensures.reads
    (passing_stops vault blocks (c.args.level - 1) c.args.ptr.id each ps c.args.size c.args.from c.args.to c.parts.part-index c.parts.left c.parts.start c.parts.end p c.parts.invariant.passes next c.min-here.result c.min-here.ensures fault
    (subst (λ n. StopsFirst vault blocks (c.args.level - 1) c.min-here.result p c.parts.start n fault) c.min.ensures c.in-Err-range_at.ensures.first))

pub returns-then-end-gt0-clause-first : goal.returns-then-end-gt0-clause-first
returns-then-end-gt0-clause-first g t c =
    let blocks = get c.args.store.now in
    let vault = Opens g.S.Sealer.sealed g.H.BlockHash.hashed blocks (key_at c.args.keys.now) in
    let each = c.span-each.result in
    let ps = c.deref-part-items.result.now in
    let above : c.args.level ≡ suc (c.args.level - 1) = omega arith in
    let some : c.args.from < c.args.to = omega arith in
    let last = past_parts ps c.parts.part-index c.parts-test.false in
    index_stopped vault blocks c.args.level (c.args.level - 1) c.args.size each c.args.ptr c.in-Ok-get_index.ptrs.items ps c.args.from c.args.to (BadBlock c.args.ptr.id) above c.span-each.ensures c.deref-part-items.ensures.value c.in-Ok-get_index.ensures.reads
    (passing_short vault blocks (c.args.level - 1) c.args.ptr.id each ps c.args.size c.args.from c.args.to c.parts.part-index c.parts.left c.parts.start c.parts.end c.parts.invariant.passes last c.if-end-gt0.true some)

pub returns-clause-first : goal.returns-clause-first
returns-clause-first g t c = λ k low high.
    let blocks = get c.args.store.now in
    let vault = Opens g.S.Sealer.sealed g.H.BlockHash.hashed blocks (key_at c.args.keys.now) in
    let each = c.span-each.result in
    let ps = c.deref-part-items.result.now in
    let above : c.args.level ≡ suc (c.args.level - 1) = omega arith in
    behind_reaches vault c.args.level (c.args.level - 1) c.args.size each c.args.ptr c.in-Ok-get_index.ptrs.items ps k above c.span-each.ensures c.deref-part-items.ensures.value c.in-Ok-get_index.ensures.reads
    (passing_end vault blocks (c.args.level - 1) c.args.ptr.id each ps c.args.size c.args.from c.args.to c.parts.part-index c.parts.left c.parts.start c.parts.end c.parts.invariant.passes c.if-end-gt0.false k low high)

pub returns-then-from-to-clause-first : goal.returns-then-from-to-clause-first
returns-then-from-to-clause-first g t c = λ k low high. absurd (omega arith)

pub returns-in-Err-clause-first : goal.returns-in-Err-clause-first
returns-in-Err-clause-first g t c =
    let blocks = get c.args.store.now in
    let vault = Opens g.S.Sealer.sealed g.H.BlockHash.hashed blocks (key_at c.args.keys.now) in
    let fault = c.in-Err.fault in
    let some : c.args.from < c.args.to = omega arith in
    stops_at_once vault blocks c.args.level c.args.size c.args.ptr c.args.from c.args.to fault some
    (leaf_stops vault blocks c.args.level c.args.size c.args.ptr c.args.from fault c.if-level-eq0.true (c.in-Err.ensures.reads, c.in-Err.ensures.names))

pub returns-in-Ok-extend_from_slice-clause-first : goal.returns-in-Ok-extend_from_slice-clause-first
returns-in-Ok-extend_from_slice-clause-first g t c = λ k low high.
    let vault = Opens g.S.Sealer.sealed g.H.BlockHash.hashed (get c.args.store.now) (key_at c.args.keys.now) in
    leaf_reaches vault c.args.level c.args.size c.args.ptr k c.in-Ok.bytes.items c.if-level-eq0.true c.in-Ok.ensures.reads

pub returns-in-Err-extend_from_slice-clause-first : goal.returns-in-Err-extend_from_slice-clause-first
returns-in-Err-extend_from_slice-clause-first g t c =
    let blocks = get c.args.store.now in
    let vault = Opens g.S.Sealer.sealed g.H.BlockHash.hashed blocks (key_at c.args.keys.now) in
    let some : c.args.from < c.args.to = omega arith in
    stops_at_once vault blocks c.args.level c.args.size c.args.ptr c.args.from c.args.to Memory some (leaf_stops vault blocks c.args.level c.args.size c.args.ptr c.args.from Memory c.if-level-eq0.true (tt, tt))
