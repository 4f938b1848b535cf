use Rattle.std.proofs.Common.{◌≡◌, ℕ, ◌+◌, ◌-◌, ◌*◌, ◌<◌, ◌≤◌, min, [], ◌∷◌, ◌++◌, length, take, drop, refl, ap, sym, subst, ◌∙◌, arith, length-append, slice_get}
use Rattle.std.specs.List.{AllByRecursion}
use Rattle.std.specs.FinMap.{get}
use Rattle.std.proofs.lemmas.List.{length-take, length-drop}
use Rattle.kb_keys.specs.Rings.{key_at}
use Rattle.kb_ops.specs.Trees.{patched}
use Rattle.kb_files.specs.Opens.{Opens}
use Rattle.kb_files.specs.Files.{HoldsAt, IsFit, InOrder, span}
use Rattle.kb_files.specs.Splits.{OnceStored}
use Rattle.kb_files.specs.Counts.{touched}
use Rattle.kb_files.proofs.Orders.{all_push, few_more, count_more, span-above}
use Rattle.kb_files.proofs.Vaults.{refuses_weaker}
use Rattle.kb_ranges.specs.Patches.{IsPart, PartHeld, Patches, HoldsSome, OnceAdded, Covers}
use Rattle.kb_ranges.specs.declared.parts.Part.{Part}
use Rattle.kb_ranges.proofs.OldParts.{span_some, some_kept, opens_few}
use Rattle.kb_ranges.proofs.Left.{Left, left_start, left_part, left_step}
use Rattle.kb_ranges.proofs.Numbers.{numbers_step, part_sized, part_grows, part_within, part_from, counted_start, counted_step}
use Rattle.kb_ranges.proofs.Patched.{tells_with, changes, patches_kept, patches_leaf, patches_index}
use Rattle.kb_ranges.specs.Refusals.{OrMemory, PartIsBad, PartRefused, StandFor}
use Rattle.kb_files.specs.Files.{IsLeafOf}
use Rattle.kb_ranges.proofs.Refusing.{changes_there, leaf_refused, index_refused, Ahead, ahead_start, ahead_more, ahead_refused}
use Rattle.std.proofs.lemmas.Result.{IfErr-weaker}
use Rattle.kb_ranges.proofs.patching.+patch_at.Goals as goal

pub returns-in-Some-clause-tells : goal.returns-in-Some-clause-tells
returns-in-Some-clause-tells g t c x h =
    let some = c.in-Some.ensures.some in
    patches_kept g.H.BlockHash.hashed g.S.Sealer.sealed x.0 (key_at c.args.keys.now) c.args.made.now.items c.args.level c.args.part.level c.args.part.size c.args.offset c.args.size c.args.bytes.now c.args.part.ptr c.in-Some.ptr c.fit.result x.1
    c.fit.ensures.same some.0 some.1 some.2 some.3 h.1.0 h.1.1

pub returns-then-level-eq0-clause-tells : goal.returns-then-level-eq0-clause-tells
returns-then-level-eq0-clause-tells g t c =
    let hashed = g.H.BlockHash.hashed in
    let sealed = g.S.Sealer.sealed in
    let blocks = get c.args.store.now in
    let keys = key_at c.args.keys.now in
    tells_with blocks (IsPart (Opens sealed hashed blocks keys) c.args.part) (PartHeld sealed hashed blocks keys c.args.part)
    (λ ptr old. OnceStored hashed sealed c.args.generation c.args.key.now c.patch_leaf.new.made.items (λ vault. HoldsAt vault 0 ptr (patched old c.args.offset c.args.bytes.now c.args.size)))
    (λ ptr x. Patches hashed sealed x.0 keys c.args.level c.args.part.size c.args.offset c.args.bytes.now c.args.size c.args.made.now.items c.patch_leaf.new.made.items ptr x.1) c.patch_leaf.result (λ x. x.1)
    (λ x h. (h.1.0, some_kept (Opens sealed hashed x.0 keys) (Opens sealed hashed blocks keys) (opens_few sealed hashed x.0 blocks keys h.0) c.args.part.level c.args.part.ptr x.1 h.1.1)) c.patch_leaf.ensures.one
    (λ ptr x one h once. patches_leaf hashed sealed x.0 keys c.args.generation c.args.key.now c.args.made.now.items c.patch_leaf.new.made.items c.args.level c.args.part.size c.args.offset c.args.size c.args.bytes.now ptr x.1 c.if-level-eq0.true c.requires.fits c.requires.key
    (changes (Opens sealed hashed x.0 keys) c.args.level c.args.part.level c.args.part.size c.args.size c.args.part.ptr x.1 c.args.bytes.now h.1.0 h.1.1 c.requires.lower c.requires.grows c.requires.there (c.in-None.ensures.none refl)) one once)
    c.patch_leaf.ensures.tells

pub parts-init : goal.parts-init
parts-init g t c =
    let hashed = g.H.BlockHash.hashed in
    let sealed = g.S.Sealer.sealed in
    let keys = key_at c.args.keys.now in
    let made = c.args.made.now.items in
    let none = c.new-new.ensures.items in
    let empty = ap length none in
    record {
      numbers = record { sized = c.requires.sized; grows = λ some less. c.requires.grows less; within = c.requires.within };
      patches = λ x h.
          let vault = Opens sealed hashed x.0 keys in (
            subst (λ ns. Left hashed sealed x.0 keys made (HoldsAt vault c.min-lower.result) (c.args.level - 1) c.span-each.result (drop (length ns) c.in-Ok.ptrs.items) ns c.args.part.size c.args.offset c.args.bytes.now c.args.size (patched x.1 c.args.offset c.args.bytes.now c.args.size)) (sym none)
                (left_start hashed sealed x.0 keys made (HoldsAt vault c.min-lower.result) (c.args.level - 1) c.span-each.result c.in-Ok.ptrs.items c.args.offset c.args.bytes.now c.args.size x.1 c.args.part.size h.1.0
                (subst (λ n. InOrder (HoldsAt vault c.min-lower.result) n c.in-Ok.ptrs.items x.1) (sym c.span-each.ensures) (subst (λ n. InOrder (HoldsAt vault n) (span (c.args.level - 1)) c.in-Ok.ptrs.items x.1) (sym c.min-lower.ensures) (c.in-Ok.ensures.tells x h)))),
            counted_start (c.args.level - 1) c.args.part.size c.args.offset (length c.args.bytes.now) c.args.size (length made),
          );
      ahead =
          subst (λ n. Ahead (Opens sealed hashed (get c.args.store.now) keys) (get c.args.store.now) c.min-lower.result c.span-each.result c.in-Ok.ptrs.items c.args.part.size c.args.offset (length c.args.bytes.now) c.args.size n c.args.part.size c.args.offset (length c.args.bytes.now) c.args.size) (sym empty)
          (ahead_start (Opens sealed hashed (get c.args.store.now) keys) (get c.args.store.now) c.min-lower.result c.span-each.result c.in-Ok.ptrs.items c.args.part.size c.args.offset (length c.args.bytes.now) c.args.size);
      kept = λ blocks s. s;
      fit = subst (AllByRecursion IsFit) (sym none) tt;
      few = omega arith;
      begun = λ e. refl;
      count = λ some. ap (λ n. n * c.span-each.result + c.args.size) empty ∙ none_so_far c.span-each.result c.args.size;
    }
  where
    none_so_far : (each n : ℕ) → 0 * each + n ≡ n
    none_so_far each n = omega arith

pub patch_at-requires : goal.patch_at-requires
patch_at-requires g t c κs within =
    let so = c.parts.invariant.numbers in
    let rest = length c.parts.rest.now in
    let cut_is : c.min.result ≡ min (c.span-each.result - c.parts.start) rest = c.min.ensures ∙ ap (λ n. min n rest) c.saturating_sub.ensures in
    let front : length c.split_at.result.0.now ≡ c.min.result = ap length c.split_at.ensures.front ∙ length-take c.min.result c.parts.rest.now ∙ (let cut = cut_is in omega arith) in
    let here : 0 < c.min-here.result = (let some = span_some (c.args.level - 1) in let each = c.span-each.ensures in let is = c.min-here.ensures in let left = c.parts-test.true in omega arith) in
    let lower : c.min-lower.result ≤ c.args.level - 1 = (let is = c.min-lower.ensures in omega arith) in
    let sized = part_sized c.args.level c.args.part.level c.parts.old_left c.parts.start rest c.parts.left c.span-each.result c.span-each.ensures so in
    let grows = part_grows c.args.level c.args.part.level c.parts.old_left c.parts.start rest c.parts.left c.span-each.result c.min-here.result c.span-each.ensures c.min-here.ensures c.parts-test.true so in
    let fits = part_within c.args.level c.args.part.level c.parts.old_left c.parts.start rest c.parts.left c.span-each.result c.min-here.result c.min.result c.min-here.ensures cut_is so in
    let old_is : c.min-in-parts.result ≡ min c.span-each.result c.parts.old_left = c.min-in-parts.ensures in
    let from_is : c.min-in-parts-2.result ≡ min c.parts.start c.min-here.result = c.min-in-parts-2.ensures in
    let lower_is : c.min-lower.result ≡ min c.args.part.level (c.args.level - 1) = c.min-lower.ensures in
    let sized_at : c.min-in-parts.result ≤ span c.min-lower.result = subst (λ n. c.min-in-parts.result ≤ span n) (sym lower_is) (subst (λ n. n ≤ span (min c.args.part.level (c.args.level - 1))) (sym old_is) sized) in
    let grows_at : c.min-lower.result < c.args.level - 1 → c.min-in-parts.result < c.min-here.result = λ less. subst (λ n. n < c.min-here.result) (sym old_is) (grows (subst (λ n. n < c.args.level - 1) lower_is less)) in
    let room : c.min-here.result ≤ span (c.args.level - 1) = (let each = c.span-each.ensures in let is = c.min-here.ensures in omega arith) in
    let fits_at : c.min-in-parts-2.result + length c.split_at.result.0.now ≤ c.min-here.result = omega arith in
    (omega arith, (within.0, (within.1, (omega arith, (lower, (sized_at, (grows_at, (room, (fits_at, (λ more. here, (λ none. here, c.requires.key)))))))))))

pub returns-in-Err-patch_at-clause-tells : goal.returns-in-Err-patch_at-clause-tells
returns-in-Err-patch_at-clause-tells g t c =
    let hashed = g.H.BlockHash.hashed in
    let sealed = g.S.Sealer.sealed in
    let blocks = get c.args.store.now in
    let keys = key_at c.args.keys.now in
    let part : Part = record { ptr = c.pointer_at.result; level = c.min-lower.result; size = c.min-in-parts.result } in
    let place : c.pointer_at.result ≡ slice_get c.in-Ok.ptrs.items (length c.parts.new.items) = c.pointer_at.ensures ∙ ap (λ ps. slice_get ps c.len.result) c.deref.ensures.value ∙ ap (slice_get c.in-Ok.ptrs.items) (c.len.ensures ∙ c.parts.new.ok.0) in
    refuses_weaker blocks (PartHeld sealed hashed blocks keys part) (PartHeld sealed hashed blocks keys c.args.part)
    (λ x h.
    let so = (c.parts.invariant.patches x h).0 in
    let here = left_part hashed sealed x.0 keys c.parts.made.items (Opens sealed hashed x.0 keys) c.min-lower.result (c.args.level - 1) c.span-each.result c.in-Ok.ptrs.items c.parts.new.items (length c.parts.new.items) c.parts.old_left c.parts.start c.parts.rest.now c.parts.left (patched x.1 c.args.offset c.args.bytes.now c.args.size) so in
    ((x.0, take c.span-each.result so.rest), (h.0, (here.0 ∙ sym c.min-in-parts.ensures, subst (λ o. HoldsSome (Opens sealed hashed x.0 keys) c.min-lower.result o (take c.span-each.result so.rest)) (sym place) here.1))))
    c.in-Err-patch_at.fault c.in-Err-patch_at.ensures.tells

pub parts-smaller : goal.parts-smaller
parts-smaller g t c = let some = span_some (c.args.level - 1) in let each = c.span-each.ensures in let is = c.min-here.ensures in let left = c.parts-test.true in omega arith

pub parts-preserved : goal.parts-preserved
parts-preserved g t c =
    let hashed = g.H.BlockHash.hashed in
    let sealed = g.S.Sealer.sealed in
    let keys = key_at c.args.keys.now in
    let so = c.parts.invariant.numbers in
    let new = c.parts.new.items in
    let made = c.parts.made.items in
    let made' = c.patch_at.new.made.items in
    let bytes = c.parts.rest.now in
    let rest = length bytes in
    let below = c.args.level - 1 in
    let each = c.span-each.result in
    let here = c.min-here.result in
    let here_is : here ≡ min each c.parts.left = c.min-here.ensures in
    let cut = c.min.result in
    let cut_is : cut ≡ min (each - c.parts.start) rest = c.min.ensures ∙ ap (λ n. min n rest) c.saturating_sub.ensures in
    let front = c.split_at.result.0.now in
    let behind = c.split_at.result.1.now in
    let front_is : front ≡ take cut bytes = c.split_at.ensures.front in
    let behind_is : behind ≡ drop cut bytes = c.split_at.ensures.back in
    let front_long : length front ≡ cut = ap length front_is ∙ length-take cut bytes ∙ omega arith in
    let behind_long : length behind ≡ rest - cut = ap length behind_is ∙ length-drop cut bytes in
    let each_is : each ≡ span below = c.span-each.ensures in
    let room : 0 < each = (let some = span_some below in omega arith) in
    let some : 0 < c.parts.left = c.parts-test.true in
    let pushed : c.push.new.self.items ≡ new ++ c.in-Ok-patch_at.ptr ∷ [] = c.in-Ok-push.ensures.items in
    let longer : length c.push.new.self.items ≡ length new + 1 = ap length pushed ∙ length-append new (c.in-Ok-patch_at.ptr ∷ []) in
    let place : c.pointer_at.result ≡ slice_get c.in-Ok.ptrs.items (length new) = c.pointer_at.ensures ∙ ap (λ ps. slice_get ps c.len.result) c.deref.ensures.value ∙ ap (slice_get c.in-Ok.ptrs.items) (c.len.ensures ∙ c.parts.new.ok.0) in
    let old_is : c.min-in-parts.result ≡ min each c.parts.old_left = c.min-in-parts.ensures in
    let from_is : c.min-in-parts-2.result ≡ min c.parts.start here = c.min-in-parts-2.ensures in
    let kept = c.in-Ok-patch_at.ensures.kept in
    record {
      numbers = numbers_step c.args.level c.args.part.level c.parts.old_left c.parts.start rest c.parts.left each here cut c.saturating_sub-old_left.result c.saturating_sub-start.result (length behind) (c.parts.left - here) here_is cut_is c.saturating_sub-old_left.ensures c.saturating_sub-start.ensures behind_long refl so;
      patches = λ x h.
          let vault = Opens sealed hashed x.0 keys in
          let was = c.parts.invariant.patches x h in
          let whole = patched x.1 c.args.offset c.args.bytes.now c.args.size in
          let part = left_part hashed sealed x.0 keys made vault c.min-lower.result below each c.in-Ok.ptrs.items new (length new) c.parts.old_left c.parts.start bytes c.parts.left whole was.0 in
          let done = c.in-Ok-patch_at.ensures.tells (x.0, take each was.0.rest) (h.0, (part.0 ∙ sym old_is, subst (λ o. HoldsSome vault c.min-lower.result o (take each was.0.rest)) (sym place) part.1)) in
          let once : OnceAdded hashed sealed x.0 keys made' (λ v. HoldsAt v below c.in-Ok-patch_at.ptr (patched (take each was.0.rest) (min c.parts.start here) front here)) =
          subst (λ n. OnceAdded hashed sealed x.0 keys made' (λ v. HoldsAt v below c.in-Ok-patch_at.ptr (patched (take each was.0.rest) n front here))) from_is done.holds in
          let few : (from to : ℕ) → Covers (min each c.parts.old_left) (min c.parts.start here) cut here from to → length made' ≤ length made + touched below from to = λ from to covers.
          done.count from to (subst (λ n. Covers n c.min-in-parts-2.result (length front) here from to) (sym old_is) (subst (λ n. Covers (min each c.parts.old_left) n (length front) here from to) (sym from_is) (subst (λ n. Covers (min each c.parts.old_left) (min c.parts.start here) n here from to) (sym front_long) covers))) in (
            left_step hashed sealed x.0 keys made made' (HoldsAt vault c.min-lower.result) below each c.in-Ok.ptrs.items new (length new) c.parts.old_left c.parts.start bytes c.parts.left whole was.0 kept some here here_is cut cut_is front behind front_is behind_is
                (part_from c.args.level c.args.part.level c.parts.old_left c.parts.start rest c.parts.left each here cut here_is cut_is so) c.in-Ok-patch_at.ptr once c.push.new.self.items pushed
                (length c.push.new.self.items) c.saturating_sub-old_left.result c.saturating_sub-start.result (c.parts.left - here) longer c.saturating_sub-old_left.ensures c.saturating_sub-start.ensures refl,
            counted_step below c.args.part.size c.args.offset (length c.args.bytes.now) c.args.size (length c.args.made.now.items) c.parts.old_left c.parts.start rest c.parts.left (length made) each here cut (length made') c.saturating_sub-old_left.result c.saturating_sub-start.result (length behind) (c.parts.left - here)
                (omega arith) each_is here_is cut_is c.saturating_sub-old_left.ensures c.saturating_sub-start.ensures behind_long refl some room so.within was.1 few,
          );
      ahead =
          ahead_more (Opens sealed hashed (get c.args.store.now) keys) (get c.args.store.now) c.min-lower.result each c.in-Ok.ptrs.items c.args.part.size c.args.offset (length c.args.bytes.now) c.args.size (length new) c.parts.old_left c.parts.start rest c.parts.left c.parts.invariant.ahead some so.within here cut here_is cut_is
          (length c.push.new.self.items) c.saturating_sub-old_left.result c.saturating_sub-start.result (length behind) (c.parts.left - here) longer c.saturating_sub-old_left.ensures c.saturating_sub-start.ensures behind_long refl;
      kept = λ blocks' stored. c.parts.invariant.kept blocks' (kept blocks' stored);
      fit = subst (AllByRecursion IsFit) (sym pushed) (all_push IsFit new c.in-Ok-patch_at.ptr c.parts.invariant.fit c.in-Ok-patch_at.ensures.fit);
      few =
          let whole : span c.args.level ≡ 64 * each = span-above c.args.level (omega arith) ∙ ap (λ n. 64 * n) (sym each_is) in
          let few = few_more (length new) each c.parts.left c.args.size some (c.parts.invariant.count some) (subst (λ n. c.args.size ≤ n) whole c.requires.fits) in
          omega arith;
      begun = λ e. absurd (omega arith);
      count = λ more.
          ap (λ n. n * each + (c.parts.left - here)) longer ∙ ap (λ n. (length new + 1) * each + (c.parts.left - n)) here_is
          ∙ count_more (length new) each c.parts.left c.args.size (c.parts.invariant.count some) (subst (λ n. 0 < c.parts.left - n) here_is more);
    }

pub returns-in-Ok-add_index-clause-tells : goal.returns-in-Ok-add_index-clause-tells
returns-in-Ok-add_index-clause-tells g t c x h =
    let hashed = g.H.BlockHash.hashed in
    let sealed = g.S.Sealer.sealed in
    let keys = key_at c.args.keys.now in
    let vault = Opens sealed hashed x.0 keys in
    let was = c.parts.invariant.patches x h in
    let other = changes vault c.args.level c.args.part.level c.args.part.size c.args.size c.args.part.ptr x.1 c.args.bytes.now h.1.0 h.1.1 c.requires.lower c.requires.grows c.requires.there (c.in-None.ensures.none refl) in
    patches_index hashed sealed x.0 keys c.args.generation c.args.key.now c.args.made.now.items c.parts.made.items c.add_index.new.made.items c.args.level c.span-each.result c.args.part.size c.args.offset c.args.size c.args.bytes.now (HoldsAt vault c.min-lower.result) (drop (length c.parts.new.items) c.in-Ok.ptrs.items) c.parts.new.items c.deref-2.result.now
    c.parts.old_left c.parts.start c.parts.left c.parts.rest.now c.in-Ok-add_index.ptr x.1
    (omega arith) c.requires.level (c.requires.some (omega arith)) c.requires.fits c.requires.key c.span-each.ensures other (omega arith) was.0 was.1 c.parts.invariant.fit c.parts.invariant.few c.parts.invariant.begun c.deref-2.ensures.value c.in-Ok-add_index.ensures.one c.in-Ok-add_index.ensures.kept c.in-Ok-add_index.ensures.opens

pub returns-in-Ok-add_index-clause-kept : goal.returns-in-Ok-add_index-clause-kept
returns-in-Ok-add_index-clause-kept g t c blocks stored = c.parts.invariant.kept blocks (c.in-Ok-add_index.ensures.kept blocks stored)

pub returns-then-level-eq0-clause-touched : goal.returns-then-level-eq0-clause-touched
returns-then-level-eq0-clause-touched g t c =
    let blocks = get c.args.store.now in
    let vault = Opens g.S.Sealer.sealed g.H.BlockHash.hashed blocks (key_at c.args.keys.now) in
    let low = c.requires.lower in
    let zero = c.if-level-eq0.true in
    let leaf : c.args.part.level ≡ 0 = omega arith in
    IfErr-weaker c.patch_leaf.result (λ f. OrMemory f (PartIsBad blocks (IsLeafOf vault c.args.part.size) c.args.part f)) (PartRefused vault blocks c.args.part c.args.offset (length c.args.bytes.now) c.args.size)
    (λ f bad. leaf_refused vault blocks c.args.part c.args.offset c.args.size c.args.bytes.now f leaf (λ p is. changes_there c.args.level c.args.part.level c.args.part.size c.args.size c.args.part.ptr p c.args.bytes.now is c.requires.lower c.requires.grows (c.in-None.ensures.none refl)) bad)
    c.patch_leaf.ensures.bad

pub returns-in-Err-clause-touched : goal.returns-in-Err-clause-touched
returns-in-Err-clause-touched g t c =
    let blocks = get c.args.store.now in
    let vault = Opens g.S.Sealer.sealed g.H.BlockHash.hashed blocks (key_at c.args.keys.now) in
    index_refused vault blocks c.args.part c.args.level c.args.offset c.args.size c.args.bytes.now c.in-Err.fault (omega arith)
    (λ p is. changes_there c.args.level c.args.part.level c.args.part.size c.args.size c.args.part.ptr p c.args.bytes.now is c.requires.lower c.requires.grows (c.in-None.ensures.none refl)) c.in-Err.ensures.bad

pub returns-in-Err-patch_at-clause-touched : goal.returns-in-Err-patch_at-clause-touched
returns-in-Err-patch_at-clause-touched g t c =
    let blocks = get c.args.store.now in
    let vault = Opens g.S.Sealer.sealed g.H.BlockHash.hashed blocks (key_at c.args.keys.now) in
    let part : Part = record { ptr = c.pointer_at.result; level = c.min-lower.result; size = c.min-in-parts.result } in
    let so = c.parts.invariant.numbers in
    let rest = length c.parts.rest.now in
    let each = c.span-each.result in
    let here = c.min-here.result in
    let cut = c.min.result in
    let cut_is : cut ≡ min (each - c.parts.start) rest = c.min.ensures ∙ ap (λ n. min n rest) c.saturating_sub.ensures in
    let front_long : length c.split_at.result.0.now ≡ cut = ap length c.split_at.ensures.front ∙ length-take cut c.parts.rest.now ∙ omega arith in
    let room : 0 < each = (let some = span_some (c.args.level - 1) in let spanned = c.span-each.ensures in omega arith) in
    let place : c.pointer_at.result ≡ slice_get c.in-Ok.ptrs.items (length c.parts.new.items) = c.pointer_at.ensures ∙ ap (λ ps. slice_get ps c.len.result) c.deref.ensures.value ∙ ap (slice_get c.in-Ok.ptrs.items) (c.len.ensures ∙ c.parts.new.ok.0) in
    let stand = subst (λ n. StandFor vault blocks c.min-lower.result n c.args.part c.in-Ok.ptrs.items) (sym c.span-each.ensures) (subst (λ n. StandFor vault blocks n (span (c.args.level - 1)) c.args.part c.in-Ok.ptrs.items) (sym c.min-lower.ensures) c.in-Ok.ensures.stand) in
    ahead_refused vault blocks c.min-lower.result each c.in-Ok.ptrs.items c.args.part c.args.offset (length c.args.bytes.now) c.args.size (length c.parts.new.items) c.parts.old_left c.parts.start rest c.parts.left c.parts.invariant.ahead stand c.parts-test.true room so.within here cut c.min-here.ensures cut_is part place refl c.min-in-parts.ensures c.min-in-parts-2.result c.min-in-parts-2.ensures c.in-Err-patch_at.fault
    (subst (λ n. PartRefused vault blocks part c.min-in-parts-2.result n here c.in-Err-patch_at.fault) front_long c.in-Err-patch_at.ensures.touched)
