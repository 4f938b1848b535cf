use Rattle.std.proofs.Common.{◌≡◌, ◌≤◌, length, drop, sym, ap, subst, ◌∙◌}
use Rattle.kb_ops.specs.Trees.{FitAll}
use Rattle.kb_snap.specs.Chains.{ops_of, tree_at}
use Rattle.kb_device.specs.Journals.{plain}
use Rattle.kb_folder.proofs.Goes.{lawful_chain}
use Rattle.kb_folder.specs.Held.{held}
use Rattle.kb_device.specs.Views.{read_of}
use Rattle.kb_device.specs.Opening.{MayTake, count_of, number_of, target_of}
use Rattle.kb_device.proofs.Longer.{chain_length}
use Rattle.kb_device.proofs.Meeting.{meets_low}
use Rattle.kb_device.proofs.Takings.{err_started}
use Rattle.kb_device.proofs.Starts.{unfit_apart, start_stands, some_chain, some_number}
use Rattle.kb_device.proofs.opening.find_start.Goals as goal

pub returns-in-Err-clause-stands : goal.returns-in-Err-clause-stands
returns-in-Err-clause-stands g c seed names chain s has secret_is member is known_is hash_is queue_is end_is = err_started c.in-Err.fault _ _ _ _ (λ apart. apart) (c.in-Err.ensures.takes seed names chain s has is known_is hash_is queue_is end_is)

pub returns-in-Err-find_head-clause-stands : goal.returns-in-Err-find_head-clause-stands
returns-in-Err-find_head-clause-stands g c seed names chain s has secret_is member is known_is hash_is queue_is end_is =
    let f = held c.args.folder.now in
    let both = c.in-Ok.ensures.takes seed names chain s has is known_is hash_is queue_is end_is in
    let takes = both.0 in
    let m = both.1 in
    let left_is : c.left_of-left.result.now ≡ drop (count_of c.in-Ok.taking) s.queue = c.left_of-left.ensures ∙ ap (drop (count_of c.in-Ok.taking)) queue_is in
    let len_is : c.length-len.result ≡ length chain = c.length-len.ensures ∙ sym has.stands.sound.counted ∙ sym (chain_length g.S.Sealer.sealed g.S.Sealer.signed g.H.BlockHash.hashed seed names f chain has) in
    let over_is : c.number_of.result ≡ number_of s.known c.in-Ok.taking = c.number_of.ensures ∙ ap (λ n. number_of n c.in-Ok.taking) known_is in
    let number_is : c.target_of-number.result ≡ target_of (number_of s.known c.in-Ok.taking) (drop (count_of c.in-Ok.taking) s.queue) (length chain) = c.target_of-number.ensures ∙ (λ i. target_of (over_is i) (left_is i) (len_is i)) in
    let may = subst (λ n. MayTake n (length c.args.lent.now) s.queue c.in-Ok.taking) known_is (subst (λ q. MayTake c.args.known (length c.args.lent.now) q c.in-Ok.taking) queue_is c.in-Ok.ensures.can) in
    let some = some_number s (length chain) (length c.args.lent.now) c.in-Ok.taking c.target_of-number.result (some_chain g.S.Sealer.sealed g.S.Sealer.signed g.H.BlockHash.hashed seed names f chain c.args.d has member) m.started may number_is in
    let lawful = lawful_chain g.S.Sealer.sealed g.S.Sealer.signed g.H.BlockHash.hashed seed names f chain has in
    let low = subst (λ n. length (ops_of c.args.d chain) ≤ n) (sym end_is) (meets_low c.args.d chain (plain s) lawful m.queue) in
    err_started c.in-Err-find_head.fault _ _ _ _ (λ unfit. unfit_apart f c.args.d chain s c.in-Ok.taking takes m c.target_of-number.result number_is (λ h. unfit (subst (λ q. FitAll q (tree_at chain c.target_of-number.result)) (sym left_is) h)))
    (c.in-Err-find_head.ensures.stands seed names chain has secret_is member is some low)

pub returns-clause-stands : goal.returns-clause-stands
returns-clause-stands g c seed names chain s has secret_is member is known_is hash_is queue_is end_is =
    let f = held c.args.folder.now in
    let both = c.in-Ok.ensures.takes seed names chain s has is known_is hash_is queue_is end_is in
    let takes = both.0 in
    let m = both.1 in
    let left_is : c.left_of-left.result.now ≡ drop (count_of c.in-Ok.taking) s.queue = c.left_of-left.ensures ∙ ap (drop (count_of c.in-Ok.taking)) queue_is in
    let len_is : c.length-len.result ≡ length chain = c.length-len.ensures ∙ sym has.stands.sound.counted ∙ sym (chain_length g.S.Sealer.sealed g.S.Sealer.signed g.H.BlockHash.hashed seed names f chain has) in
    let over_is : c.number_of.result ≡ number_of s.known c.in-Ok.taking = c.number_of.ensures ∙ ap (λ n. number_of n c.in-Ok.taking) known_is in
    let number_is : c.target_of-number.result ≡ target_of (number_of s.known c.in-Ok.taking) (drop (count_of c.in-Ok.taking) s.queue) (length chain) = c.target_of-number.ensures ∙ (λ i. target_of (over_is i) (left_is i) (len_is i)) in
    let may = subst (λ n. MayTake n (length c.args.lent.now) s.queue c.in-Ok.taking) known_is (subst (λ q. MayTake c.args.known (length c.args.lent.now) q c.in-Ok.taking) queue_is c.in-Ok.ensures.can) in
    let some = some_number s (length chain) (length c.args.lent.now) c.in-Ok.taking c.target_of-number.result (some_chain g.S.Sealer.sealed g.S.Sealer.signed g.H.BlockHash.hashed seed names f chain c.args.d has member) m.started may number_is in
    let lawful = lawful_chain g.S.Sealer.sealed g.S.Sealer.signed g.H.BlockHash.hashed seed names f chain has in
    let low = subst (λ n. length (ops_of c.args.d chain) ≤ n) (sym end_is) (meets_low c.args.d chain (plain s) lawful m.queue) in
    let stands = c.in-Ok-find_head.ensures.stands seed names chain has secret_is member is some low in
    start_stands f c.args.d chain s c.in-Ok.taking takes m c.target_of-number.result number_is g.S.Sealer.sealed g.H.BlockHash.hashed seed (read_of c.in-Ok-find_head.head) c.in-Ok-find_head.head.role c.in-Ok-find_head.ensures.number stands.0 stands.1
    (subst (λ q. FitAll q c.in-Ok-find_head.head.base.tree) left_is c.in-Ok-find_head.ensures.fit)
