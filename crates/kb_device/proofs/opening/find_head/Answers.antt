use Rattle.std.proofs.Common.{◌≡◌, length, Err, sym, ap, subst, ◌∙◌, arith}
use Rattle.kb_ops.specs.Trees.{FitAll}
use Rattle.kb_snap.specs.Chains.{ops_of, tree_at}
use Rattle.kb_folder.specs.Held.{held}
use Rattle.kb_folder.proofs.Goes.{lawful_chain}
use Rattle.kb_device.specs.Fresh.{IdsEndAt}
use Rattle.kb_device.proofs.Ids.{chain_ids}
use Rattle.kb_device.proofs.Meeting.{fault_started}
use Rattle.kb_device.proofs.opening.find_head.Goals as goal

pub returns-in-Err-clause-stands : goal.returns-in-Err-clause-stands
returns-in-Err-clause-stands g c seed names chain has secret_is member is some low = fault_started c.in-Err.fault c.args.number c.fault_of.result _ _ _ c.fault_of.ensures (c.in-Err.ensures.stands seed names chain has secret_is member is)

pub returns-in-Err-Unfit-clause-stands : goal.returns-in-Err-Unfit-clause-stands
returns-in-Err-Unfit-clause-stands g c seed names chain has secret_is member is some low = λ fit.
    let stands = c.in-Ok.ensures.stands seed names chain has secret_is member is in
    let tree : c.in-Ok.head.shown.tree ≡ tree_at chain c.args.number = c.in-Ok.ensures.same ∙ stands.0.tree ∙ ap (tree_at chain) c.in-Ok.ensures.number in
    c.in-Err-Unfit.ensures.unfit (ap Err c.in-Err-Unfit.field-0-is) (subst (FitAll c.args.left.now) (sym tree) fit)

pub returns-clause-stands : goal.returns-clause-stands
returns-clause-stands g c seed names chain has secret_is member is some low = c.in-Ok.ensures.stands seed names chain has secret_is member is

pub returns-then-last-end-clause-stands : goal.returns-then-last-end-clause-stands
returns-then-last-end-clause-stands g c seed names chain has secret_is member is some low =
    let h = c.in-Ok.ensures.stands seed names chain has secret_is member is in
    let lawful = lawful_chain g.S.Sealer.sealed g.S.Sealer.signed g.H.BlockHash.hashed seed names (held c.args.folder.now) chain has in
    let below = subst (IdsEndAt c.args.d (length (ops_of c.args.d chain))) (sym h.0.tree) (chain_ids c.args.d chain c.in-Ok.head.number c.requires.numbered lawful h.0.remembers.within) in
    let least = c.in-Ok.ensures.last.least (length (ops_of c.args.d chain)) below in
    let more = c.if-last-end.true in
    absurd (omega (arith, least, more, low))
