use Rattle.std.proofs.Common.{IfOk, sym, subst}
use Rattle.std.specs.FinMap.{get}
use Rattle.std.proofs.lemmas.Result.{IfOk-weaker}
use Rattle.kb_keys.specs.Rings.{key_at}
use Rattle.kb_device.specs.Patching.{BuildsStep}
use Rattle.kb_device.proofs.Patched.{builds_as, makes_rest}
use Rattle.kb_device.proofs.patching.build_step.Goals as goal

pub returns-in_default-cache-clause-holds : goal.returns-in_default-cache-clause-holds
returns-in_default-cache-clause-holds g c =
    subst (λ o. IfOk c.build_rest-in_default-cache.result (λ built. BuildsStep g.S.Sealer.sealed g.H.BlockHash.hashed c.args.cache.now (key_at c.args.keys.now) c.args.table.now.tree c.args.left.now c.args.op.now.change o built.root built.blocks built.pointers)) (sym c.in-Some.is) c.build_rest-in_default-cache.ensures.holds

pub returns-in-Sync-clause-holds : goal.returns-in-Sync-clause-holds
returns-in-Sync-clause-holds g c = IfOk-weaker c.build_written.result _ _
    (λ built h. builds_as g.S.Sealer.sealed g.H.BlockHash.hashed c.args.cache.now c.in-Some-cache.store (key_at c.args.keys.now) c.args.table.now.tree c.args.left.now c.args.op.now.change c.args.old c.in-Sync.node c.in-Sync.offset c.in-Sync.bytes c.as_slice.result.now c.in-Sync.length c.in-Some.file built.root built.blocks built.pointers
    c.in-Some-cache.is c.in-Some.is c.in-Sync.is c.as_slice.ensures h)
    c.build_written.ensures.holds

pub returns-in_default-change-clause-holds : goal.returns-in_default-change-clause-holds
returns-in_default-change-clause-holds g c =
    subst (λ o. IfOk c.build_rest-in_default-change.result (λ built. BuildsStep g.S.Sealer.sealed g.H.BlockHash.hashed c.args.cache.now (key_at c.args.keys.now) c.args.table.now.tree c.args.left.now c.args.op.now.change o built.root built.blocks built.pointers)) (sym c.in-Some.is) c.build_rest-in_default-change.ensures.holds

pub returns-in_default-change-clause-few : goal.returns-in_default-change-clause-few
returns-in_default-change-clause-few g c = IfOk-weaker c.build_rest-in_default-change.result _ _
    (λ built h. makes_rest g.S.Sealer.sealed g.H.BlockHash.hashed c.args.cache.now (key_at c.args.keys.now) c.args.generation c.args.table.now.tree c.args.left.now c.args.op.now.change c.args.old built.blocks built.pointers c.in_default-change.not-Sync h)
    c.build_rest-in_default-change.ensures.made
