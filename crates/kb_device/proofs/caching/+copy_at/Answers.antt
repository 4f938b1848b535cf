use Rattle.std.proofs.Common.{◌≡◌, ◌-◌, suc, List, [], take, sym, ap, subst, ◌∙◌, arith}
use Rattle.std.specs.List.{AllByRecursion}
use Rattle.std.specs.FinMap.{get}
use Rattle.std.proofs.lemmas.List.{take_all}
use Rattle.kb_keys.specs.Rings.{key_at}
use Rattle.kb_files.specs.Opens.{Opens}
use Rattle.kb_files.proofs.Vaults.{opens_same}
use Rattle.kb_device.specs.Caches.{IsCopied}
use Rattle.kb_device.proofs.Copied.{leaf_copied, index_copied, block_more, all_more, all_at, copies_more}
use Rattle.kb_device.proofs.caching.+copy_at.Goals as goal

pub returns-then-level-eq0-clause-copied : goal.returns-then-level-eq0-clause-copied
returns-then-level-eq0-clause-copied g t c =
    leaf_copied g.S.Sealer.sealed g.H.BlockHash.hashed (get c.args.store.now) (key_at c.args.keys.now) (get c.copy_block.new.cache) c.args.level c.args.ptr c.if-level-eq0.true c.in-Ok.ensures.copied

pub parts-init : goal.parts-init
parts-init g t c = (c.in-Ok.ensures.grows, c.in-Ok.ensures.copied, tt)

pub parts-preserved : goal.parts-preserved
parts-preserved g t c =
    let stays = c.in-Ok-copy_at.ensures.grows.stays in
    let sealed = g.S.Sealer.sealed in
    let hashed = g.H.BlockHash.hashed in
    let store = get c.args.store.now in
    let ring = key_at c.args.keys.now in
    let ps = c.deref-part-items.result.now in (
      copies_more store (get c.args.cache.now) (get c.parts.cache) (get c.copy_at.new.cache) c.parts.invariant.0 c.in-Ok-copy_at.ensures.grows,
      block_more sealed hashed store ring (get c.parts.cache) (get c.copy_at.new.cache) c.args.ptr.id stays c.parts.invariant.1,
      all_at (IsCopied (Opens sealed hashed store ring) (Opens sealed hashed (get c.copy_at.new.cache) ring) (c.args.level - 1)) ps c.parts.part-index (record { id = []; generation = 0 }) c.parts-test.true
          (all_more sealed hashed store ring (get c.parts.cache) (get c.copy_at.new.cache) (c.args.level - 1) (take c.parts.part-index ps) stays c.parts.invariant.2) c.in-Ok-copy_at.ensures.copied,
    )

pub returns-in-Err-copy_at-clause-grows : goal.returns-in-Err-copy_at-clause-grows
returns-in-Err-copy_at-clause-grows g t c = copies_more (get c.args.store.now) (get c.args.cache.now) (get c.parts.cache) (get c.copy_at.new.cache) c.parts.invariant.0 c.in-Err-copy_at.ensures.grows

pub returns-clause-grows : goal.returns-clause-grows
returns-clause-grows g t c = c.parts.invariant.0

pub returns-clause-copied : goal.returns-clause-copied
returns-clause-copied g t c =
    let sealed = g.S.Sealer.sealed in
    let hashed = g.H.BlockHash.hashed in
    let store = get c.args.store.now in
    let ring = key_at c.args.keys.now in
    let ps = c.deref-part-items.result.now in
    let above : c.args.level ≡ suc (c.args.level - 1) = omega arith in
    index_copied sealed hashed store ring (opens_same sealed hashed store ring g.met.S.Sealer.one_plain) (get c.parts.cache) c.args.level (c.args.level - 1) c.args.ptr c.in-Ok-open_index.ptrs.items above c.parts.invariant.1 c.in-Ok-open_index.ensures.reads.0 c.in-Ok-open_index.ensures.reads.1
    (subst (AllByRecursion (IsCopied (Opens sealed hashed store ring) (Opens sealed hashed (get c.parts.cache) ring) (c.args.level - 1))) (take_all c.parts.part-index ps (omega arith) ∙ c.deref-part-items.ensures.value) c.parts.invariant.2)
