use Rattle.std.proofs.Common.{◌≡◌, ◌-◌, length, map, refl, sym, ap, subst, ◌∙◌, arith}
use Rattle.std.specs.Prelude.{slice_index}
use Rattle.std.proofs.lemmas.List.{length-map, length-reverse}
use Rattle.sha2.specs.Sha256.{sha256}
use Rattle.kb_device.specs.Disks.{hash_at}
use Rattle.kb_device.specs.Foreign.{Apart}
use Rattle.kb_device.specs.Journals.{plain}
use Rattle.kb_snap.specs.Lawful.{AreOf}
use Rattle.std.proofs.Common.{inl}
use Rattle.kb_folder.specs.Held.{held}
use Rattle.kb_device.specs.Opening.{meets, IsSound, IsStrange, IsTakingOf}
use Rattle.kb_device.proofs.Longer.{chain_length}
use Rattle.kb_device.proofs.Pasts.{clash}
use Rattle.kb_device.proofs.Takings.{strange_is, meets_all, takes_of, err_started}
use Rattle.kb_device.proofs.opening.find_taking.Goals as goal

pub returns-then-is_strange-clause-takes : goal.returns-then-is_strange-clause-takes
returns-then-is_strange-clause-takes g c seed names chain s has is known_is hash_is queue_is end_is =
    let f = held c.args.folder.now in
    let lent = map (λ b. b.items) c.args.lent.now in
    let size : length f.revisions ≡ length chain = sym (chain_length g.S.Sealer.sealed g.S.Sealer.signed g.H.BlockHash.hashed seed names f chain has) in
    let strange = c.if-is_strange.ensures.strange.0 refl in
    strange_is f c.args.d chain s lent is size (subst (λ n. IsStrange c.args.d (map sha256 lent) n s.hash s.queue) known_is (subst (λ h. IsStrange c.args.d (map sha256 lent) c.args.known h s.queue) hash_is (subst (λ q. IsStrange c.args.d (map sha256 lent) c.args.known c.args.hash.now q) queue_is strange)))

pub returns-in-Err-clause-takes : goal.returns-in-Err-clause-takes
returns-in-Err-clause-takes g c seed names chain s has is known_is hash_is queue_is end_is =
    let count = ap length queue_is in
    let room = c.requires in
    let base_is : c.args.end - length c.args.queue.now ≡ s.base = omega (arith, end_is, count, room) in
    err_started c.in-Err.fault _ _ _ _ (λ apart. inl (Apart apart)) (c.in-Err.ensures.finds seed names chain (plain s) has is known_is base_is end_is)

pub returns-clause-takes : goal.returns-clause-takes
returns-clause-takes g c seed names chain s has is known_is hash_is queue_is end_is =
    let f = held c.args.folder.now in
    let lent = map (λ b. b.items) c.args.lent.now in
    let size : length f.revisions ≡ length chain = sym (chain_length g.S.Sealer.sealed g.S.Sealer.signed g.H.BlockHash.hashed seed names f chain has) in
    let count = ap length queue_is in
    let room = c.requires in
    let base_is : c.args.end - length c.args.queue.now ≡ s.base = omega (arith, end_is, count, room) in
    let ours = λ (strange : IsStrange c.args.d (map sha256 lent) s.known s.hash s.queue).
    clash (sym (c.if-is_strange.ensures.strange.1 (subst (λ n. IsStrange c.args.d (map sha256 lent) n c.args.hash.now c.args.queue.now) (sym known_is) (subst (λ h. IsStrange c.args.d (map sha256 lent) s.known h c.args.queue.now) (sym hash_is) (subst (λ q. IsStrange c.args.d (map sha256 lent) s.known s.hash q) (sym queue_is) strange))))) in
    let facts = c.if-is_strange.ensures.ours refl in
    let found = c.in-Ok.ensures.finds seed names chain (plain s) has is known_is base_is end_is in
    let m = meets_all f c.args.d chain s lent is size ours (sym hash_is ∙ facts.0 ∙ ap (hash_at (map sha256 lent)) known_is) (subst (AreOf c.args.d) queue_is facts.1) found.1 in
    let mapped = length-map c.args.lent.now (λ b. b.items) in
    let lent_size = ap length is in
    let turned = length-reverse f.revisions in
    let len : length c.args.lent.now ≡ length chain = omega (arith, mapped, lent_size, turned, size) in
    let sound = subst (λ n. IsSound n (length chain) c.in-Ok.own) known_is (subst (λ n. IsSound c.args.known n c.in-Ok.own) len c.in-Ok.ensures.sound) in
    let test = (λ i. meets c.in-Ok.own (slice_index f.state.last c.args.d) (sym base_is i) (sym end_is i)) ∙ c.in-Ok.ensures.met in
    (takes_of f c.args.d chain s lent is size c.in-Ok.own c.taking_of.result (slice_index f.state.last c.args.d) m found.0 sound test (subst (λ n. IsTakingOf (map sha256 lent) n c.in-Ok.own c.taking_of.result) base_is c.taking_of.ensures), m)
