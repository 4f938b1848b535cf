use Rattle.std.proofs.Common.{sym}
use Rattle.std.specs.FinMap.{get}
use Rattle.kb_keys.specs.Rings.{key_at}
use Rattle.kb_device.proofs.Patched.{makes_whole}
use Rattle.kb_device.proofs.patching.build_whole.Goals as goal

pub returns-clause-holds : goal.returns-clause-holds
returns-clause-holds g c few w = absurd (c.requires.refused few (w.stays, w.file))

pub returns-clause-few : goal.returns-clause-few
returns-clause-few g c =
    makes_whole g.S.Sealer.sealed g.H.BlockHash.hashed (get c.args.store.now) (key_at c.args.keys.now) c.args.generation c.in-Some.key.now (sym c.in-Some.ensures) c.args.table.now.tree c.args.left.now c.in_ok-built.built.pointers c.args.node c.args.old.ptr c.args.old.size c.args.offset c.args.bytes.now c.args.new_size c.in_ok-built.built.blocks c.requires.refused c.in_ok-built.ensures.made
