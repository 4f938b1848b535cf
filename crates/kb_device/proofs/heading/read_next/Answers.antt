use Rattle.std.proofs.Common.{◌≡◌, ◌≤◌, length, true, false, sym, subst, ◌∙◌, arith}
use Rattle.kb_folder.specs.Held.{held}
use Rattle.kb_snap.specs.Chains.{ops_of}
use Rattle.kb_folder.proofs.Goes.{lawful_chain}
use Rattle.kb_device.specs.Fresh.{IdsEndAt}
use Rattle.kb_device.specs.Views.{read_of}
use Rattle.kb_device.proofs.Ids.{chain_ids}
use Rattle.kb_device.proofs.Keys.{refused}
use Rattle.kb_device.proofs.Rings.{readable_is}
use Rattle.kb_device.proofs.heading.read_next.Goals as goal

pub returns-in-Err-clause-stands : goal.returns-in-Err-clause-stands
returns-in-Err-clause-stands g c seed names chain has secret_is member gen_is stands within low is = refused c.in-Err.fault _ _ (c.in-Err.ensures.stands seed names chain c.args.known has secret_is member gen_is stands within is)

pub returns-clause-stands : goal.returns-clause-stands
returns-clause-stands g c seed names chain has secret_is member gen_is stands within low is =
    let h = c.in-Ok.ensures.stands seed names chain c.args.known has secret_is member gen_is stands within is in
    (h.0, h.1, h.2)

pub returns-then-not-is_readable-clause-stands : goal.returns-then-not-is_readable-clause-stands
returns-then-not-is_readable-clause-stands g c seed names chain has secret_is member gen_is stands within low is =
    let h = c.in-Ok.ensures.stands seed names chain c.args.known has secret_is member gen_is stands within is in
    let yes = readable_is seed c.args.known (read_of c.in-Ok.head) (subst (λ n. c.args.known ≤ n) (sym h.1) within) h.0.some h.3 h.4 h.0.ring in
    let no : true ≡ false = sym yes ∙ sym c.is_readable.ensures ∙ c.if-not-is_readable.true in
    cc

pub returns-then-head-last-clause-stands : goal.returns-then-head-last-clause-stands
returns-then-head-last-clause-stands g c seed names chain has secret_is member gen_is stands within low is =
    let h = c.in-Ok.ensures.stands seed names chain c.args.known has secret_is member gen_is stands within is in
    let lawful = lawful_chain g.S.Sealer.sealed g.S.Sealer.signed g.H.BlockHash.hashed seed names (held c.args.folder.now) chain has in
    let below = subst (IdsEndAt c.args.d (length (ops_of c.args.d chain))) (sym h.0.tree) (chain_ids c.args.d chain c.in-Ok.head.number c.requires.numbered lawful h.0.remembers.within) in
    let least = c.in-Ok.ensures.last.least (length (ops_of c.args.d chain)) below in
    let more = c.if-head-last.true in
    absurd (omega (arith, least, more, low))
