use Rattle.std.proofs.Common.{sym, ap, ◌∙◌}
use Rattle.kb_chain.specs.declared.privates.Private.{Private}
use Rattle.kb_device.proofs.Keys.{refused}
use Rattle.kb_device.proofs.MergedOps.{based, no_key_there, private_there, opens_there}
use Rattle.kb_device.proofs.behind.done_in.Goals as goal

pub returns-in-Err : goal.returns-in-Err
returns-in-Err g c seed names bs chain x top w stands upto = refused c.in-Err.fault _ _ (c.in-Err.ensures w.revision w.is w.spelled)

pub returns-in_default : goal.returns-in_default
returns-in_default g c seed names bs chain x top w stands upto =
    no_key_there g.S.Sealer.sealed g.S.Sealer.signed seed names bs chain c.args.bytes.now x w c.args.ring.now top stands upto c.in-Ok.revision (c.in-Ok.ensures w.revision w.is w.spelled) c.in_default.ensures

pub returns-in-Err-open : goal.returns-in-Err-open
returns-in-Err-open g c seed names bs chain x top w stands upto =
    let read_is = c.in-Ok.ensures w.revision w.is w.spelled in
    let private = private_there g.S.Sealer.sealed g.S.Sealer.signed seed names bs chain c.args.bytes.now x w c.args.ring.now top stands upto c.in-Ok.revision read_is in
    let opened = opens_there g.S.Sealer.sealed g.S.Sealer.signed seed names bs chain c.args.bytes.now x w c.args.ring.now top stands upto c.in-Ok.revision read_is c.in-Some.key.now c.in-Some.ensures in
    refused c.in-Err-open.fault _ _ (c.in-Err-open.ensures w.private private opened)

pub returns : goal.returns
returns g c seed names bs chain x top w stands upto =
    let read_is = c.in-Ok.ensures w.revision w.is w.spelled in
    let private = private_there g.S.Sealer.sealed g.S.Sealer.signed seed names bs chain c.args.bytes.now x w c.args.ring.now top stands upto c.in-Ok.revision read_is in
    let opened = opens_there g.S.Sealer.sealed g.S.Sealer.signed seed names bs chain c.args.bytes.now x w c.args.ring.now top stands upto c.in-Ok.revision read_is c.in-Some.key.now c.in-Some.ensures in
    let is = c.in-Ok-open.ensures w.private private opened in
    (c.into_vec.ensures ∙ ap (λ (p : Private). p.ops) is ∙ w.ops, based x.deed c.in-Ok-open.private.base c.is_none-plain.result (ap (λ (p : Private). p.base) is ∙ w.base) c.is_none-plain.ensures)
