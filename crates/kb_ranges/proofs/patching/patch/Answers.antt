use Rattle.std.proofs.Common.{◌≡◌, ◌≤◌, min, length, take, ap, subst, ◌∙◌, arith}
use Rattle.std.specs.FinMap.{get}
use Rattle.kb_keys.specs.Rings.{key_at}
use Rattle.kb_files.specs.Opens.{Opens}
use Rattle.kb_files.specs.Files.{span, level_of}
use Rattle.kb_files.proofs.Vaults.{refuses_weaker}
use Rattle.kb_ranges.specs.Patches.{PartHeld, FileHeld, Patches}
use Rattle.kb_ranges.specs.Refusals.{StandsForFile, StopsAbove}
use Rattle.kb_ranges.proofs.Fronts.{patches_file}
use Rattle.kb_ranges.proofs.Refusing.{above_refused, file_refused}
use Rattle.kb_ranges.proofs.patching.patch.Goals as goal

pub returns-in-Ok-patch_at-clause-tells : goal.returns-in-Ok-patch_at-clause-tells
returns-in-Ok-patch_at-clause-tells g c x h =
    let hashed = g.H.BlockHash.hashed in
    let sealed = g.S.Sealer.sealed in
    let keys = key_at c.args.keys.now in
    let part = c.in-Ok.ensures.tells x h in
    let done = c.in-Ok-patch_at.ensures.tells (x.0, take (span c.level_of-level.result) x.1) (h.0, part) in
    let level : c.level_of-level.result ≡ level_of c.args.new_size = c.level_of-level.ensures in
    patches_file hashed sealed x.0 keys c.args.size c.args.offset c.args.bytes.now c.args.new_size c.in-Ok.part.size c.in-Ok-patch_at.ptr c.new-made.result.items c.patch_at.new.made.items x.1 c.new-made.ensures.items
    (c.in-Ok.ensures.part.2 ∙ ap (λ n. min c.args.size (span n)) level) c.requires.within c.requires.small
    (subst (λ n. Patches hashed sealed x.0 keys n c.in-Ok.part.size c.args.offset c.args.bytes.now c.args.new_size c.new-made.result.items c.patch_at.new.made.items c.in-Ok-patch_at.ptr (take (span n) x.1)) level done)

pub returns-in-Err-patch_at-clause-tells : goal.returns-in-Err-patch_at-clause-tells
returns-in-Err-patch_at-clause-tells g c =
    let hashed = g.H.BlockHash.hashed in
    let sealed = g.S.Sealer.sealed in
    let blocks = get c.args.store.now in
    let keys = key_at c.args.keys.now in
    refuses_weaker blocks (PartHeld sealed hashed blocks keys c.in-Ok.part) (FileHeld sealed hashed blocks keys c.args.size c.args.ptr)
    (λ x h. ((x.0, take (span c.level_of-level.result) x.1), (h.0, c.in-Ok.ensures.tells x h))) c.in-Err-patch_at.fault c.in-Err-patch_at.ensures.tells

pub returns-in-Err-clause-touched : goal.returns-in-Err-clause-touched
returns-in-Err-clause-touched g c =
    let blocks = get c.args.store.now in
    let vault = Opens g.S.Sealer.sealed g.H.BlockHash.hashed blocks (key_at c.args.keys.now) in
    let small : c.args.size ≤ 16777216 = omega arith in
    above_refused vault blocks c.args.size c.args.offset (length c.args.bytes.now) c.args.new_size c.args.ptr c.in-Err.fault small c.requires.small (subst (λ n. StopsAbove vault blocks n c.args.size c.args.ptr c.in-Err.fault) c.level_of-level.ensures c.in-Err.ensures.bad)

pub returns-in-Err-patch_at-clause-touched : goal.returns-in-Err-patch_at-clause-touched
returns-in-Err-patch_at-clause-touched g c =
    let blocks = get c.args.store.now in
    let vault = Opens g.S.Sealer.sealed g.H.BlockHash.hashed blocks (key_at c.args.keys.now) in
    let small : c.args.size ≤ 16777216 = omega arith in
    let level : c.level_of-level.result ≡ level_of c.args.new_size = c.level_of-level.ensures in
    file_refused vault blocks c.args.size c.args.offset (length c.args.bytes.now) c.args.new_size c.args.ptr c.in-Ok.part c.in-Err-patch_at.fault small c.requires.small (c.in-Ok.ensures.part.2 ∙ ap (λ n. min c.args.size (span n)) level)
    (subst (λ n. StandsForFile vault blocks n c.args.size c.args.ptr c.in-Ok.part) level c.in-Ok.ensures.stands) c.in-Err-patch_at.ensures.touched
