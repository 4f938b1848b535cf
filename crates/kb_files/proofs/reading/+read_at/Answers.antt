use Rattle.std.proofs.Common.{◌≡◌, ℕ, suc, ◌+◌, ◌-◌, ◌<◌, List, [], ◌++◌, min, length, get_or, refl, ap, sym, subst, ◌∙◌, arith}
use Rattle.kb_blocks.specs.declared.pointer.Ptr.{Ptr}
use Rattle.std.specs.FinMap.{get}
use Rattle.kb_keys.specs.Rings.{key_at}
use Rattle.kb_files.specs.Opens.{Opens}
use Rattle.kb_files.proofs.Vaults.{opens_same, refuses_weaker, is_stored}
use Rattle.kb_files.specs.Files.{InOrder, HoldsAt, HoldsSized, IsIndexOf, span, index_text}
use Rattle.kb_files.proofs.ReadParts.{Progress, progress_start, progress_more, progress_full, progress_part, progress_end, progress_short, index_held, has_index, holds_same, at_part, past_parts}
use Rattle.kb_files.proofs.Orders.{holds_index}
use Rattle.kb_files.specs.declared.loading.LoadFault.TheVariants.{BadBlock}
use Rattle.kb_files.specs.Stops.{StopsAt}
use Rattle.kb_files.proofs.Stopping.{Passed, passed_start, passed_more, passed_full, passed_part, passed_short, left_over, index_stops, among_stops}
use Rattle.kb_files.proofs.reading.+read_at.Goals as goal

pub returns-in-Err-clause-reads : goal.returns-in-Err-clause-reads
returns-in-Err-clause-reads g t c =
    let vault = Opens g.S.Sealer.sealed g.H.BlockHash.hashed (get c.args.store.now) (key_at c.args.keys.now) in
    let above : c.args.level ≡ suc (c.args.level - 1) = omega arith in
    refuses_weaker (get c.args.store.now) (IsIndexOf vault c.args.level c.args.ptr) (HoldsSized vault c.args.level c.args.size c.args.ptr)
    (λ bytes h. has_index vault c.args.level (c.args.level - 1) above c.args.ptr bytes h.1) c.in-Err.fault c.in-Err.ensures.reads

pub parts-init : goal.parts-init
parts-init g t c =
    let vault = Opens g.S.Sealer.sealed g.H.BlockHash.hashed (get c.args.store.now) (key_at c.args.keys.now) in
    let blocks = get c.args.store.now in
    let each = c.span-each.result in
    let ps = c.deref-part-items.result.now in
    let held = HoldsSized vault (c.args.level - 1) in
    let stops = StopsAt vault blocks (c.args.level - 1) in (
      subst (λ out. Progress (HoldsAt vault (c.args.level - 1)) each ps c.args.size 0 out) (sym c.new-out.ensures.items) (progress_start (HoldsAt vault (c.args.level - 1)) each ps c.args.size),
      subst (λ out. Passed held stops each ps c.args.size 0 out) (sym c.new-out.ensures.items) (passed_start held stops each ps c.args.size),
    )

pub overflow_sub-left : goal.overflow_sub-left
overflow_sub-left g t c = let within = c.parts.invariant.0.within in let long = c.parts.out.ok.0 in omega arith

pub returns-then-left-eq0-clause-reads : goal.returns-then-left-eq0-clause-reads
returns-then-left-eq0-clause-reads g t c =
    let vault = Opens g.S.Sealer.sealed g.H.BlockHash.hashed (get c.args.store.now) (key_at c.args.keys.now) in
    let held = HoldsAt vault (c.args.level - 1) in
    let each = c.span-each.result in
    let ps = c.deref-part-items.result.now in
    let out = c.parts.out.items in
    let long = c.parts.out.ok.0 in
    let p : Ptr = get_or ps c.parts.part-index (record { id = []; generation = 0 }) in
    let next = at_part ps c.parts.part-index (record { id = []; generation = 0 }) c.parts-test.true in
    let left : c.args.size - c.len.result ≡ c.args.size - length out = ap (λ n. c.args.size - n) (c.len.ensures ∙ long) in
    let one = opens_same g.S.Sealer.sealed g.H.BlockHash.hashed (get c.args.store.now) (key_at c.args.keys.now) g.met.S.Sealer.one_plain in
    let above : c.args.level ≡ suc (c.args.level - 1) = omega arith in
    let order = λ (bytes : List ℕ) (h : HoldsAt vault c.args.level c.args.ptr bytes). subst (λ qs. InOrder held each qs bytes) (sym c.deref-part-items.ensures.value)
    (subst (λ n. InOrder held n c.in-Ok.ptrs.items bytes) (sym c.span-each.ensures) (index_held vault one c.args.level (c.args.level - 1) above c.args.ptr c.in-Ok.ptrs.items c.in-Ok.ensures.reads.0 c.in-Ok.ensures.reads.1 bytes h)) in
    (is_stored g.S.Sealer.sealed g.H.BlockHash.hashed (get c.args.store.now) (key_at c.args.keys.now) c.args.ptr _ c.in-Ok.ensures.reads.1, λ bytes h. progress_full held each ps c.args.size c.parts.part-index out p c.parts.invariant.0 next (sym left ∙ c.if-left-eq0.true) bytes h.0 (order bytes h.1))

pub returns-in-Err-read_at-clause-reads : goal.returns-in-Err-read_at-clause-reads
returns-in-Err-read_at-clause-reads g t c =
    let vault = Opens g.S.Sealer.sealed g.H.BlockHash.hashed (get c.args.store.now) (key_at c.args.keys.now) in
    let held = HoldsAt vault (c.args.level - 1) in
    let each = c.span-each.result in
    let ps = c.deref-part-items.result.now in
    let out = c.parts.out.items in
    let long = c.parts.out.ok.0 in
    let p : Ptr = get_or ps c.parts.part-index (record { id = []; generation = 0 }) in
    let next = at_part ps c.parts.part-index (record { id = []; generation = 0 }) c.parts-test.true in
    let left : c.args.size - c.len.result ≡ c.args.size - length out = ap (λ n. c.args.size - n) (c.len.ensures ∙ long) in
    let one = opens_same g.S.Sealer.sealed g.H.BlockHash.hashed (get c.args.store.now) (key_at c.args.keys.now) g.met.S.Sealer.one_plain in
    let above : c.args.level ≡ suc (c.args.level - 1) = omega arith in
    let order = λ (bytes : List ℕ) (h : HoldsAt vault c.args.level c.args.ptr bytes). subst (λ qs. InOrder held each qs bytes) (sym c.deref-part-items.ensures.value)
    (subst (λ n. InOrder held n c.in-Ok.ptrs.items bytes) (sym c.span-each.ensures) (index_held vault one c.args.level (c.args.level - 1) above c.args.ptr c.in-Ok.ptrs.items c.in-Ok.ensures.reads.0 c.in-Ok.ensures.reads.1 bytes h)) in
    let sized = c.min.ensures ∙ ap (min each) left in
    refuses_weaker (get c.args.store.now) (HoldsSized vault (c.args.level - 1) c.min.result p) (HoldsSized vault c.args.level c.args.size c.args.ptr)
    (λ bytes h. let part = progress_part held each ps c.args.size c.parts.part-index out p c.parts.invariant.0 next bytes h.0 (order bytes h.1) in (part.0, (part.1.0 ∙ sym sized, part.1.1)))
    c.in-Err-read_at.fault c.in-Err-read_at.ensures.reads

pub parts-preserved : goal.parts-preserved
parts-preserved g t c =
    let vault = Opens g.S.Sealer.sealed g.H.BlockHash.hashed (get c.args.store.now) (key_at c.args.keys.now) in
    let held = HoldsAt vault (c.args.level - 1) in
    let each = c.span-each.result in
    let ps = c.deref-part-items.result.now in
    let out = c.parts.out.items in
    let long = c.parts.out.ok.0 in
    let p : Ptr = get_or ps c.parts.part-index (record { id = []; generation = 0 }) in
    let next = at_part ps c.parts.part-index (record { id = []; generation = 0 }) c.parts-test.true in
    let left : c.args.size - c.len.result ≡ c.args.size - length out = ap (λ n. c.args.size - n) (c.len.ensures ∙ long) in
    let one = opens_same g.S.Sealer.sealed g.H.BlockHash.hashed (get c.args.store.now) (key_at c.args.keys.now) g.met.S.Sealer.one_plain in
    let sized = c.min.ensures ∙ ap (min each) left in
    let some : 0 < c.args.size - length out = omega (arith, left, c.if-left-eq0.false) in
    let grown = sym (c.in-Ok-extend_from_slice.ensures.items ∙ ap (λ b. out ++ b) c.deref.ensures.value) in
    let sized_held = HoldsSized vault (c.args.level - 1) in
    let stops = StopsAt vault (get c.args.store.now) (c.args.level - 1) in
    let part = c.in-Ok-read_at.bytes.items in
    let here : sized_held (min each (c.args.size - length out)) p part = (c.in-Ok-read_at.ensures.reads.0 ∙ sized, c.in-Ok-read_at.ensures.reads.1) in (
      subst (λ o. Progress held each ps c.args.size (c.parts.part-index + 1) o) grown (progress_more held (holds_same vault one (c.args.level - 1)) each ps c.args.size c.parts.part-index out p part c.parts.invariant.0 next (c.in-Ok-read_at.ensures.reads.0 ∙ sized) c.in-Ok-read_at.ensures.reads.1 some),
      subst (λ o. Passed sized_held stops each ps c.args.size (c.parts.part-index + 1) o) grown (passed_more sized_held stops each ps c.args.size c.parts.part-index out p part c.parts.invariant.1 next some (c.in-Ok-read_at.ensures.reads.0 ∙ sized) here),
    )

pub returns-then-len-size-clause-reads : goal.returns-then-len-size-clause-reads
returns-then-len-size-clause-reads g t c =
    let vault = Opens g.S.Sealer.sealed g.H.BlockHash.hashed (get c.args.store.now) (key_at c.args.keys.now) in
    let held = HoldsAt vault (c.args.level - 1) in
    let each = c.span-each.result in
    let ps = c.deref-part-items.result.now in
    let out = c.parts.out.items in
    let long = c.parts.out.ok.0 in
    let one = opens_same g.S.Sealer.sealed g.H.BlockHash.hashed (get c.args.store.now) (key_at c.args.keys.now) g.met.S.Sealer.one_plain in
    let above : c.args.level ≡ suc (c.args.level - 1) = omega arith in
    let order = λ (bytes : List ℕ) (h : HoldsAt vault c.args.level c.args.ptr bytes). subst (λ qs. InOrder held each qs bytes) (sym c.deref-part-items.ensures.value)
    (subst (λ n. InOrder held n c.in-Ok.ptrs.items bytes) (sym c.span-each.ensures) (index_held vault one c.args.level (c.args.level - 1) above c.args.ptr c.in-Ok.ptrs.items c.in-Ok.ensures.reads.0 c.in-Ok.ensures.reads.1 bytes h)) in
    let last = past_parts ps c.parts.part-index c.parts-test.false in
    (is_stored g.S.Sealer.sealed g.H.BlockHash.hashed (get c.args.store.now) (key_at c.args.keys.now) c.args.ptr _ c.in-Ok.ensures.reads.1, λ bytes h. progress_short held each ps c.args.size c.parts.part-index out c.parts.invariant.0 last (λ e. c.if-len-size.true (c.len-2.ensures ∙ long ∙ e)) bytes h.0 (order bytes h.1))

pub returns-clause-reads : goal.returns-clause-reads
returns-clause-reads g t c =
    let vault = Opens g.S.Sealer.sealed g.H.BlockHash.hashed (get c.args.store.now) (key_at c.args.keys.now) in
    let held = HoldsAt vault (c.args.level - 1) in
    let each = c.span-each.result in
    let ps = c.deref-part-items.result.now in
    let out = c.parts.out.items in
    let long = c.parts.out.ok.0 in
    let above : c.args.level ≡ suc (c.args.level - 1) = omega arith in
    let last = past_parts ps c.parts.part-index c.parts-test.false in
    let whole : length out ≡ c.args.size = sym (c.len-2.ensures ∙ long) ∙ c.if-len-size.false in
    let order = progress_end held each ps c.args.size c.parts.part-index out c.parts.invariant.0 last whole in
    let spanned = subst (λ qs. InOrder held (span (c.args.level - 1)) qs out) c.deref-part-items.ensures.value (subst (λ n. InOrder held n ps out) c.span-each.ensures order) in
    (whole, holds_index vault c.args.level (c.args.level - 1) c.args.ptr c.in-Ok.ptrs.items out (index_text c.args.level c.in-Ok.ptrs.items) above c.in-Ok.ensures.reads.0 refl c.in-Ok.ensures.reads.1 spanned)

pub returns-in-Err-clause-first : goal.returns-in-Err-clause-first
returns-in-Err-clause-first g t c =
    let vault = Opens g.S.Sealer.sealed g.H.BlockHash.hashed (get c.args.store.now) (key_at c.args.keys.now) in
    let above : c.args.level ≡ suc (c.args.level - 1) = omega arith in
    index_stops vault (get c.args.store.now) c.args.level (c.args.level - 1) c.args.size c.args.ptr c.in-Err.fault above (c.in-Err.ensures.reads, c.in-Err.ensures.names)

pub returns-then-left-eq0-clause-first : goal.returns-then-left-eq0-clause-first
returns-then-left-eq0-clause-first g t c =
    let vault = Opens g.S.Sealer.sealed g.H.BlockHash.hashed (get c.args.store.now) (key_at c.args.keys.now) in
    let blocks = get c.args.store.now in
    let held = HoldsSized vault (c.args.level - 1) in
    let stops = StopsAt vault blocks (c.args.level - 1) in
    let each = c.span-each.result in
    let ps = c.deref-part-items.result.now in
    let out = c.parts.out.items in
    let long = c.parts.out.ok.0 in
    let above : c.args.level ≡ suc (c.args.level - 1) = omega arith in
    let p : Ptr = get_or ps c.parts.part-index (record { id = []; generation = 0 }) in
    let next = at_part ps c.parts.part-index (record { id = []; generation = 0 }) c.parts-test.true in
    let left : c.args.size - c.len.result ≡ c.args.size - length out = ap (λ n. c.args.size - n) (c.len.ensures ∙ long) in
    among_stops vault blocks c.args.level (c.args.level - 1) c.args.size each c.args.ptr c.in-Ok.ptrs.items ps (BadBlock c.args.ptr.id) above c.span-each.ensures c.deref-part-items.ensures.value c.in-Ok.ensures.reads
    (passed_full held stops each ps c.args.size c.parts.part-index out p c.parts.invariant.1 next (sym left ∙ c.if-left-eq0.true) c.args.ptr.id)

pub returns-in-Err-read_at-clause-first : goal.returns-in-Err-read_at-clause-first
returns-in-Err-read_at-clause-first g t c =
    let vault = Opens g.S.Sealer.sealed g.H.BlockHash.hashed (get c.args.store.now) (key_at c.args.keys.now) in
    let blocks = get c.args.store.now in
    let held = HoldsSized vault (c.args.level - 1) in
    let stops = StopsAt vault blocks (c.args.level - 1) in
    let each = c.span-each.result in
    let ps = c.deref-part-items.result.now in
    let out = c.parts.out.items in
    let long = c.parts.out.ok.0 in
    let above : c.args.level ≡ suc (c.args.level - 1) = omega arith in
    let p : Ptr = get_or ps c.parts.part-index (record { id = []; generation = 0 }) in
    let next = at_part ps c.parts.part-index (record { id = []; generation = 0 }) c.parts-test.true in
    let left : c.args.size - c.len.result ≡ c.args.size - length out = ap (λ n. c.args.size - n) (c.len.ensures ∙ long) in
    let sized = c.min.ensures ∙ ap (min each) left in
    let some : 0 < c.args.size - length out = omega (arith, left, c.if-left-eq0.false) in
    among_stops vault blocks c.args.level (c.args.level - 1) c.args.size each c.args.ptr c.in-Ok.ptrs.items ps c.in-Err-read_at.fault above c.span-each.ensures c.deref-part-items.ensures.value c.in-Ok.ensures.reads
    (passed_part held stops each ps c.args.size c.parts.part-index out p c.parts.invariant.1 next some c.args.ptr.id c.in-Err-read_at.fault (subst (λ n. stops n p c.in-Err-read_at.fault) sized c.in-Err-read_at.ensures.first))

pub returns-then-len-size-clause-first : goal.returns-then-len-size-clause-first
returns-then-len-size-clause-first g t c =
    let vault = Opens g.S.Sealer.sealed g.H.BlockHash.hashed (get c.args.store.now) (key_at c.args.keys.now) in
    let blocks = get c.args.store.now in
    let held = HoldsSized vault (c.args.level - 1) in
    let stops = StopsAt vault blocks (c.args.level - 1) in
    let each = c.span-each.result in
    let ps = c.deref-part-items.result.now in
    let out = c.parts.out.items in
    let long = c.parts.out.ok.0 in
    let above : c.args.level ≡ suc (c.args.level - 1) = omega arith in
    let last = past_parts ps c.parts.part-index c.parts-test.false in
    let short = left_over (length out) c.args.size c.parts.invariant.0.within (λ e. c.if-len-size.true (c.len-2.ensures ∙ long ∙ e)) in
    among_stops vault blocks c.args.level (c.args.level - 1) c.args.size each c.args.ptr c.in-Ok.ptrs.items ps (BadBlock c.args.ptr.id) above c.span-each.ensures c.deref-part-items.ensures.value c.in-Ok.ensures.reads
    (passed_short held stops each ps c.args.size c.parts.part-index out c.parts.invariant.1 last short c.args.ptr.id)
