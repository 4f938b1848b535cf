use Rattle.std.proofs.Common.{length, map, ap, sym, subst, ◌∙◌, arith}
use Rattle.std.specs.FinMap.{get}
use Rattle.std.proofs.lemmas.List.{length-map}
use Rattle.kb_folder.specs.Held.{held}
use Rattle.kb_folder.specs.Stands.{IsWritten}
use Rattle.kb_device.proofs.Keys.{refused}
use Rattle.kb_device.proofs.Options.{empty_is}
use Rattle.kb_device.proofs.Placed.{index_map}
use Rattle.kb_device.proofs.KnownRead.{some_lent, there, written_there, tree_there, ring_known}
use Rattle.kb_device.proofs.fetching.read_known.Goals as goal

pub returns-then-is_empty : goal.returns-then-is_empty
returns-then-is_empty g c seed names chain has member ring within =
    let lent = map (λ b. b.items) c.in-Ok.lent.now in
    let some = some_lent g.S.Sealer.sealed g.S.Sealer.signed g.H.BlockHash.hashed seed names (held c.args.folder.now) chain c.args.known has c.requires within lent c.in-Ok.ensures.lent.1 in
    let same = length-map c.in-Ok.lent.now (λ b. b.items) in
    let none = ap length (empty_is c.in-Ok.lent.now (sym c.is_empty.ensures ∙ c.if-is_empty.true)) in
    absurd (omega (arith, some, same, none))

pub returns-in-Ok-read_tree : goal.returns-in-Ok-read_tree
returns-in-Ok-read_tree g c seed names chain has member ring within =
    let f = held c.args.folder.now in
    let lent = map (λ b. b.items) c.in-Ok.lent.now in
    let item = c.index-lent-0.result.items in
    let at = index_map (λ b. b.items) c.in-Ok.lent.now 0 c.index-lent-0.result ∙ ap (λ b. b.items) (sym c.index-lent-0.is) in
    let p = there g.S.Sealer.sealed g.S.Sealer.signed g.H.BlockHash.hashed seed names f chain c.args.known has c.requires within lent c.in-Ok.ensures.lent.1 item at in
    let written = written_there g.S.Sealer.sealed g.S.Sealer.signed g.H.BlockHash.hashed seed names f chain c.args.known has c.requires within lent c.in-Ok.ensures.lent.1 item at in
    let keys = ring_known g.S.Sealer.sealed g.S.Sealer.signed g.H.BlockHash.hashed seed names f chain c.args.known has c.requires within lent c.in-Ok.ensures.lent.1 item at c.args.ring.now ring in
    let tree = c.in-Ok-read_tree.ensures.read seed names p.older_bytes p.older p.plain (subst (λ b. IsWritten g.S.Sealer.sealed g.S.Sealer.signed g.H.BlockHash.hashed seed names (get f.blocks) p.older_bytes p.older b p.plain) (sym c.deref.ensures.value) written) keys in
    tree.0 ∙ tree_there g.S.Sealer.sealed g.S.Sealer.signed g.H.BlockHash.hashed seed names f chain c.args.known has c.requires within lent c.in-Ok.ensures.lent.1 item at

pub returns-in-Err-read_tree : goal.returns-in-Err-read_tree
returns-in-Err-read_tree g c seed names chain has member ring within =
    let f = held c.args.folder.now in
    let lent = map (λ b. b.items) c.in-Ok.lent.now in
    let item = c.index-lent-0.result.items in
    let at = index_map (λ b. b.items) c.in-Ok.lent.now 0 c.index-lent-0.result ∙ ap (λ b. b.items) (sym c.index-lent-0.is) in
    let p = there g.S.Sealer.sealed g.S.Sealer.signed g.H.BlockHash.hashed seed names f chain c.args.known has c.requires within lent c.in-Ok.ensures.lent.1 item at in
    let written = written_there g.S.Sealer.sealed g.S.Sealer.signed g.H.BlockHash.hashed seed names f chain c.args.known has c.requires within lent c.in-Ok.ensures.lent.1 item at in
    let keys = ring_known g.S.Sealer.sealed g.S.Sealer.signed g.H.BlockHash.hashed seed names f chain c.args.known has c.requires within lent c.in-Ok.ensures.lent.1 item at c.args.ring.now ring in
    refused c.in-Err-read_tree.fault _ _ (c.in-Err-read_tree.ensures.read seed names p.older_bytes p.older p.plain (subst (λ b. IsWritten g.S.Sealer.sealed g.S.Sealer.signed g.H.BlockHash.hashed seed names (get f.blocks) p.older_bytes p.older b p.plain) (sym c.deref.ensures.value) written) keys)
