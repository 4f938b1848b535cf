use Rattle.std.proofs.Common.{◌∷◌, length}
use Rattle.std.specs.FinMap.{get}
use Rattle.kb_folder.specs.Chains.{tree_at}
use Rattle.kb_folder.specs.Held.{held}
use Rattle.kb_device.proofs.Keys.{refused, mapped}
use Rattle.kb_device.proofs.Written.{no_key, is_private, opens, held_there, all_known}
use Rattle.kb_device.proofs.reading.read_tree.Goals as goal

pub returns-in-Err-clause-read : goal.returns-in-Err-clause-read
returns-in-Err-clause-read g c seed names bs chain x w stands = refused c.in-Err.fault _ _ (c.in-Err.ensures w.spells.revision w.spells.is w.spells.spelled)

pub returns-in_default-clause-read : goal.returns-in_default-clause-read
returns-in_default-clause-read g c seed names bs chain x w stands =
    no_key g.S.Sealer.sealed g.S.Sealer.signed g.H.BlockHash.hashed seed names (get (held c.args.folder.now).blocks) bs chain c.args.bytes.now x w c.args.ring.now stands c.in-Ok.revision (c.in-Ok.ensures w.spells.revision w.spells.is w.spells.spelled) c.in_default.ensures

pub returns-in-Err-open-clause-read : goal.returns-in-Err-open-clause-read
returns-in-Err-open-clause-read g c seed names bs chain x w stands =
    let read_is = c.in-Ok.ensures w.spells.revision w.spells.is w.spells.spelled in
    let private = is_private g.S.Sealer.sealed g.S.Sealer.signed g.H.BlockHash.hashed seed names (get (held c.args.folder.now).blocks) bs chain c.args.bytes.now x w c.args.ring.now stands c.in-Ok.revision read_is in
    let opened = opens g.S.Sealer.sealed g.S.Sealer.signed g.H.BlockHash.hashed seed names (get (held c.args.folder.now).blocks) bs chain c.args.bytes.now x w c.args.ring.now stands c.in-Ok.revision read_is c.in-Some.key.now c.in-Some.ensures in
    refused c.in-Err-open.fault _ _ (c.in-Err-open.ensures w.spells.private private opened)

pub returns-clause-read : goal.returns-clause-read
returns-clause-read g c seed names bs chain x w stands =
    let read_is = c.in-Ok.ensures w.spells.revision w.spells.is w.spells.spelled in
    let private = is_private g.S.Sealer.sealed g.S.Sealer.signed g.H.BlockHash.hashed seed names (get (held c.args.folder.now).blocks) bs chain c.args.bytes.now x w c.args.ring.now stands c.in-Ok.revision read_is in
    let opened = opens g.S.Sealer.sealed g.S.Sealer.signed g.H.BlockHash.hashed seed names (get (held c.args.folder.now).blocks) bs chain c.args.bytes.now x w c.args.ring.now stands c.in-Ok.revision read_is c.in-Some.key.now c.in-Some.ensures in
    let is = c.in-Ok-open.ensures w.spells.private private opened in
    let there = held_there g.S.Sealer.sealed g.S.Sealer.signed g.H.BlockHash.hashed seed names (get (held c.args.folder.now).blocks) bs chain c.args.bytes.now x w c.args.ring.now stands c.in-Ok.revision read_is c.in-Ok-open.private is in
    mapped c.load_tree.result _ _
    (λ made h. (h.0, all_known g.S.Sealer.sealed g.S.Sealer.signed g.H.BlockHash.hashed seed names (get (held c.args.folder.now).blocks) bs chain c.args.bytes.now x w c.args.ring.now stands c.in-Ok.revision read_is made.0.tree made.1 made.2 h.1))
    (c.load_tree.ensures.read (tree_at (x ∷ chain) (length (x ∷ chain))) there)
