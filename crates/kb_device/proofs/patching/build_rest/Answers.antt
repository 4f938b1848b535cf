use Rattle.std.proofs.Common.{sym}
use Rattle.kb_keys.specs.Rings.{key_at}
use Rattle.kb_device.proofs.Patched.{builds_rest}
use Rattle.kb_device.proofs.patching.build_rest.Goals as goal

pub returns-clause-holds : goal.returns-clause-holds
returns-clause-holds g c =
    builds_rest g.S.Sealer.sealed g.H.BlockHash.hashed c.args.cache.now (key_at c.args.keys.now) c.args.generation c.in-Some.key.now (sym c.in-Some.ensures) c.args.table.now.tree c.args.left.now c.args.op.now.change c.args.old c.in_ok-built.built.root c.in_ok-built.built.blocks c.in_ok-built.built.pointers
    c.in_ok-built.ensures.tree c.in_ok-built.ensures.holds

pub returns-clause-made : goal.returns-clause-made
returns-clause-made g c = (c.in-Some.key.now, sym c.in-Some.ensures, c.in_ok-built.ensures.made)
