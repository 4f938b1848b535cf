use Rattle.std.proofs.Common.{◌≡◌, ◌+◌, ◌-◌, Some, sym, ap, ◌∙◌, arith}
use Rattle.std.specs.Option.{option_copied}
use Rattle.kb_keys.specs.Rings.{key_at}
use Rattle.kb_device.specs.Journals.{plain}
use Rattle.kb_device.specs.Merging.{Branch, branch_of}
use Rattle.kb_device.specs.SettlesFor.{branch_at}
use Rattle.kb_device.specs.Views.{inside, plan_of}
use Rattle.kb_device.proofs.Settlings.{both, asked}
use Rattle.kb_device.proofs.session.Session.merge_of.Goals as goal

pub returns-clause-asked : goal.returns-clause-asked
returns-clause-asked g c =
    let state = c.args.self.now.journal.state in
    let last_is = c.last-last.ensures in
    let count_is = c.queue_len-count.ensures in
    let first_is : c.last-last.result - c.queue_len-count.result + 1 ≡ state.base + 1 = omega (arith, last_is, count_is) in
    let ops_is = c.in_ok-ops.ensures ∙ c.queue-queue.ensures in
    let branch : branch_of c.args.d c.args.moment c.known.result (c.last-last.result - c.queue_len-count.result + 1) c.last-last.result c.in_ok-ops.ops.items ≡ branch_at c.args.d c.args.moment (plain state) =
    λ i. let b : Branch = record { device = c.args.d; moment = c.args.moment; base = c.known.ensures i; first = first_is i; last = last_is i; ops = ops_is i } in b in
    let keyed : key_at c.args.goal.now.ring c.args.goal.now.generation ≡ Some c.in-Some.key.now = sym c.key.ensures ∙ ap option_copied c.in-Some.is in
    both c.merge_request.result _ _ _
    (λ made m p. asked g.S.Sealer.sealed g.S.Sealer.signed g.H.BlockHash.hashed c.args.d c.args.secret.now c.in-Some.key.now c.args.moment (inside c.args.self.now) (plan_of c.args.goal.now) c.args.table.now.tree made.request made.pointers c.in_ok-left.left
    (branch_of c.args.d c.args.moment c.known.result (c.last-last.result - c.queue_len-count.result + 1) c.last-last.result c.in_ok-ops.ops.items) keyed branch c.in_ok-left.ensures m p)
    c.merge_request.ensures.merge c.merge_request.ensures.pointers
