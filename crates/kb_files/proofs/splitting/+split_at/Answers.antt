use Rattle.std.proofs.Common.{◌≡◌, ◌+◌, ◌-◌, ◌*◌, ◌<◌, ◌≤◌, min, [], ◌∷◌, ◌++◌, length, take, drop, ap, sym, subst, ◌∙◌, arith, append_assoc, append-nil, length-append, length-drop, length-take}
use Rattle.std.proofs.lemmas.List.{nil_from_length}
use Rattle.std.specs.List.{AllByRecursion}
use Rattle.kb_files.specs.Opens.{Opens}
use Rattle.kb_files.specs.Files.{InOrder, HoldsAt, IsFit, span, index_text}
use Rattle.kb_files.specs.Counts.{touched}
use Rattle.kb_files.proofs.Spreads.{made_more, made_index}
use Rattle.kb_files.proofs.Orders.{all_push, in_order_front, holds_index, span-above, few_more, count_more, some_before}
use Rattle.kb_files.proofs.splitting.+split_at.Goals as goal

pub parts-preserved : goal.parts-preserved
parts-preserved g t c =
    let some : 0 < length c.parts.rest.now = grind arith in
    let whole : span c.args.level ≡ 64 * c.span-size.result = span-above c.args.level (omega arith) ∙ ap (λ n. 64 * n) (sym c.span-size.ensures) in
    let part = c.split_at.ensures.front ∙ ap (λ n. take n c.parts.rest.now) c.min.ensures in
    let rest = c.split_at.ensures.back ∙ ap (λ n. drop n c.parts.rest.now) c.min.ensures in
    record {
      holds = λ store keys k stored tail order.
          let held = HoldsAt (Opens g.S.Sealer.sealed g.H.BlockHash.hashed store keys) (c.args.level - 1) in
          let here = subst (held c.in_ok-ptr.ptr) part (c.in_ok-ptr.ensures.holds store keys k stored) in
          let there = subst (InOrder held c.span-size.result tail) rest order in
          let before = c.parts.invariant.holds store keys k (c.in_ok-ptr.ensures.kept store stored) (c.in_ok-ptr.ptr ∷ tail) (in_order_front held c.span-size.result c.in_ok-ptr.ptr tail c.parts.rest.now some here there) in
          subst (λ ps. InOrder held c.span-size.result ps c.args.bytes.now) (sym (ap (λ ps. ps ++ tail) c.in_ok-push.ensures.items ∙ append_assoc c.parts.ptrs.items (c.in_ok-ptr.ptr ∷ []) tail)) before;
      kept = λ store s. c.parts.invariant.kept store (c.in_ok-ptr.ensures.kept store s);
      fit = subst (AllByRecursion IsFit) (sym c.in_ok-push.ensures.items) (all_push IsFit c.parts.ptrs.items c.in_ok-ptr.ptr c.parts.invariant.fit c.in_ok-ptr.ensures.fit);
      few =
          let few = few_more (length c.parts.ptrs.items) c.span-size.result (length c.parts.rest.now) (length c.args.bytes.now) some (c.parts.invariant.count some) (subst (λ n. length c.args.bytes.now ≤ n) whole c.requires.size) in
          let longer = ap length c.in_ok-push.ensures.items ∙ length-append c.parts.ptrs.items (c.in_ok-ptr.ptr ∷ []) in
          omega arith;
      begun = λ e. let longer = ap length c.in_ok-push.ensures.items ∙ length-append c.parts.ptrs.items (c.in_ok-ptr.ptr ∷ []) in absurd (omega arith);
      count = λ more.
          let longer = ap length c.in_ok-push.ensures.items ∙ length-append c.parts.ptrs.items (c.in_ok-ptr.ptr ∷ []) in
          let left = ap length rest ∙ length-drop (min c.span-size.result (length c.parts.rest.now)) c.parts.rest.now in
          ap (λ n. n * c.span-size.result + length c.split_at.result.1.now) longer ∙ ap (λ n. (length c.parts.ptrs.items + 1) * c.span-size.result + n) left
          ∙ count_more (length c.parts.ptrs.items) c.span-size.result (length c.parts.rest.now) (length c.args.bytes.now) (c.parts.invariant.count some) (subst (λ n. 0 < n) left more);
      made =
          let below : c.args.level - 1 ≤ 1 = omega arith in
          let size = c.span-size.ensures in
          let cut : length c.split_at.result.0.now ≡ min (span (c.args.level - 1)) (length c.parts.rest.now) = ap length part ∙ length-take (min c.span-size.result (length c.parts.rest.now)) c.parts.rest.now ∙ omega arith in
          let left : length c.split_at.result.1.now ≡ length c.parts.rest.now - min (span (c.args.level - 1)) (length c.parts.rest.now) = ap length rest ∙ length-drop (min c.span-size.result (length c.parts.rest.now)) c.parts.rest.now ∙ ap (λ n. length c.parts.rest.now - min n (length c.parts.rest.now)) size in
          ap (λ n. length c.split_at-in-parts.new.made.items + touched (c.args.level - 1) 0 n) left
          ∙ made_more (c.args.level - 1) (length c.parts.made.items) (length c.split_at-in-parts.new.made.items) (length c.args.made.now.items) (length c.split_at.result.0.now) (length c.parts.rest.now) (touched (c.args.level - 1) 0 (length c.args.bytes.now)) below some cut c.in_ok-ptr.ensures.count c.parts.invariant.made;
    }

pub returns-clause-holds : goal.returns-clause-holds
returns-clause-holds g t c store keys k stored =
    let vault = Opens g.S.Sealer.sealed g.H.BlockHash.hashed store keys in
    let held = HoldsAt vault (c.args.level - 1) in
    let empty : c.parts.rest.now ≡ [] = nil_from_length c.parts.rest.now (grind arith) in
    let order = c.parts.invariant.holds store keys k (c.in_ok-add_block.ensures.kept store stored) [] empty in
    let whole = subst (λ ps. InOrder held c.span-size.result ps c.args.bytes.now) (append-nil c.parts.ptrs.items) order in
    let spanned = subst (λ n. InOrder held n c.parts.ptrs.items c.args.bytes.now) c.span-size.ensures whole in
    let ended = ap length empty in
    let full = c.requires.some (omega arith) in
    let some = some_before (length c.parts.ptrs.items) (length c.parts.rest.now) (length c.args.bytes.now) ended c.parts.invariant.begun full in
    holds_index vault c.args.level (c.args.level - 1) c.in_ok-add_block.field-0 c.parts.ptrs.items c.args.bytes.now c.in_ok-text-2.text.items (omega arith)
    (record { some = some; few = c.parts.invariant.few; each = c.parts.invariant.fit })
    (c.in_ok-text-2.ensures ∙ ap (index_text c.args.level) c.deref-2.ensures.value) (subst (vault c.in_ok-add_block.field-0) c.deref-3.ensures.value (c.in_ok-add_block.ensures.opens store keys k stored)) spanned

pub returns-clause-kept : goal.returns-clause-kept
returns-clause-kept g t c store stored = c.parts.invariant.kept store (c.in_ok-add_block.ensures.kept store stored)

pub returns-clause-count : goal.returns-clause-count
returns-clause-count g t c =
    let empty : c.parts.rest.now ≡ [] = nil_from_length c.parts.rest.now (grind arith) in
    made_index c.args.level (c.args.level - 1) (length c.parts.made.items) (length c.add_block-2.new.made.items) (length c.args.made.now.items) (length c.parts.rest.now) (length c.args.bytes.now)
    (omega arith) c.requires.level (c.requires.some (omega arith)) c.requires.size (ap length empty) c.parts.invariant.made c.in_ok-add_block.ensures.one
