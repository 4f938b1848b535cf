use Rattle.std.proofs.Common.{◌≡◌, ℕ, ◌+◌, ◌-◌, ◌≤◌, length, map, ap, sym, subst, ◌∙◌, arith}
use Rattle.std.specs.FinMap.{get}
use Rattle.std.proofs.lemmas.List.{length-map}
use Rattle.sha2.specs.Sha256.{sha256}
use Rattle.kb_keys.specs.Policies.{role_at}
use Rattle.kb_folder.specs.Stands.{IsWritten}
use Rattle.kb_folder.specs.Reading.{places_behind}
use Rattle.kb_device.specs.Stands.{RingStands}
use Rattle.kb_device.specs.Heads.{Read, ReadStands}
use Rattle.kb_device.proofs.Placed.{index_map}
use Rattle.std.specs.Prelude.{min}
use Rattle.kb_folder.specs.Held.{held}
use Rattle.kb_device.specs.Filling.{IsServed, HasKeysOf}
use Rattle.kb_device.proofs.Keys.{refused}
use Rattle.kb_device.proofs.LastRead.{served, within_back, ring_after, there, there_is, ring_there, head_stands, role_there, generation_there}
use Rattle.kb_device.proofs.heading.read_head.Goals as goal

pub returns-in-Err-clause-stands : goal.returns-in-Err-clause-stands
returns-in-Err-clause-stands g c seed names chain known has secret_is member gen_is stands within is =
    let low = c.min.ensures in
    let le : c.min.result ≤ c.args.generation = omega (arith, low) in
    refused c.in-Err.fault _ _ (c.in-Err.ensures seed c.args.generation stands le)

pub returns-in-Err-fill-clause-stands : goal.returns-in-Err-fill-clause-stands
returns-in-Err-fill-clause-stands g c seed names chain known has secret_is member gen_is stands within is =
    let most_is : c.generation-most.result ≡ (held c.args.folder.now).state.policy.1 = c.generation-most.ensures ∙ ap (λ p. p.1) c.policy-policy.ensures in
    let serves = served g.S.Sealer.sealed g.S.Sealer.signed g.H.BlockHash.hashed seed names (held c.args.folder.now) chain known c.args.d c.args.secret.now c.args.generation has secret_is member within in
    let back_within = within_back g.S.Sealer.sealed g.S.Sealer.signed g.H.BlockHash.hashed seed names (held c.args.folder.now) chain known c.args.d c.args.secret.now c.args.generation has secret_is member within in
    refused c.in-Err-fill.fault _ _ (c.in-Err-fill.ensures seed names known has.back (subst (λ n. IsServed seed (held c.args.folder.now) c.args.d c.args.secret.now n) (sym most_is) serves) has.stands back_within is)

pub returns-in-Err-read_tree-clause-stands : goal.returns-in-Err-read_tree-clause-stands
returns-in-Err-read_tree-clause-stands g c seed names chain known has secret_is member gen_is stands within is =
    let f = held c.args.folder.now in
    let most_is : c.generation-most.result ≡ f.state.policy.1 = c.generation-most.ensures ∙ ap (λ p. p.1) c.policy-policy.ensures in
    let low = c.min.ensures in
    let le : c.min.result ≤ c.args.generation = omega (arith, low) in
    let serves = served g.S.Sealer.sealed g.S.Sealer.signed g.H.BlockHash.hashed seed names f chain known c.args.d c.args.secret.now c.args.generation has secret_is member within in
    let back_within = within_back g.S.Sealer.sealed g.S.Sealer.signed g.H.BlockHash.hashed seed names f chain known c.args.d c.args.secret.now c.args.generation has secret_is member within in
    let filled = c.in-Ok-fill.ensures seed names known has.back (subst (λ n. IsServed seed f c.args.d c.args.secret.now n) (sym most_is) serves) has.stands back_within is in
    let top_is : c.min.result ≡ min f.state.policy.1 c.args.generation = low ∙ ap (λ n. min n c.args.generation) most_is in
    let ring = ring_after g.S.Sealer.sealed g.S.Sealer.signed g.H.BlockHash.hashed seed names f chain known c.args.d c.args.secret.now c.args.generation has secret_is member within gen_is c.in-Ok.keys c.fill.new.ring
    (subst (λ n. RingStands seed n c.in-Ok.keys) top_is (c.in-Ok.ensures seed c.args.generation stands le)) (subst (λ n. HasKeysOf seed c.args.d n (places_behind known has.back) c.in-Ok.keys c.fill.new.ring) most_is filled) in
    let lent = map (λ b. b.items) c.args.lent.now in
    let i : ℕ = length c.args.lent.now - 1 in
    let some = c.requires in
    let mapped_length = length-map c.args.lent.now (λ b. b.items) in
    let last : i + 1 ≡ length lent = omega (arith, some, mapped_length) in
    let item = c.index-lent-lent.result.items in
    let at = index_map (λ b. b.items) c.args.lent.now i c.index-lent-lent.result ∙ ap (λ b. b.items) (sym c.index-lent-lent.is) in
    let p = there g.S.Sealer.sealed g.S.Sealer.signed g.H.BlockHash.hashed seed names f chain known c.args.d c.args.secret.now c.args.generation has secret_is member within lent is i last item at in
    let p_is = there_is g.S.Sealer.sealed g.S.Sealer.signed g.H.BlockHash.hashed seed names f chain known c.args.d c.args.secret.now c.args.generation has secret_is member within lent is i last item at in
    let written = subst (λ b. IsWritten g.S.Sealer.sealed g.S.Sealer.signed g.H.BlockHash.hashed seed names (get f.blocks) p.older_bytes p.older b p.plain) (p_is ∙ sym c.deref.ensures.value) p.written in
    let keys = ring_there g.S.Sealer.sealed g.S.Sealer.signed g.H.BlockHash.hashed seed names f chain known c.args.d c.args.secret.now c.args.generation has secret_is member within lent is i last item at c.fill.new.ring ring in
    refused c.in-Err-read_tree.fault _ _ (c.in-Err-read_tree.ensures.read seed names p.older_bytes p.older p.plain written keys)

pub returns-clause-stands : goal.returns-clause-stands
returns-clause-stands g c seed names chain known has secret_is member gen_is stands within is =
    let f = held c.args.folder.now in
    let most_is : c.generation-most.result ≡ f.state.policy.1 = c.generation-most.ensures ∙ ap (λ p. p.1) c.policy-policy.ensures in
    let low = c.min.ensures in
    let le : c.min.result ≤ c.args.generation = omega (arith, low) in
    let serves = served g.S.Sealer.sealed g.S.Sealer.signed g.H.BlockHash.hashed seed names f chain known c.args.d c.args.secret.now c.args.generation has secret_is member within in
    let back_within = within_back g.S.Sealer.sealed g.S.Sealer.signed g.H.BlockHash.hashed seed names f chain known c.args.d c.args.secret.now c.args.generation has secret_is member within in
    let filled = c.in-Ok-fill.ensures seed names known has.back (subst (λ n. IsServed seed f c.args.d c.args.secret.now n) (sym most_is) serves) has.stands back_within is in
    let top_is : c.min.result ≡ min f.state.policy.1 c.args.generation = low ∙ ap (λ n. min n c.args.generation) most_is in
    let ring = ring_after g.S.Sealer.sealed g.S.Sealer.signed g.H.BlockHash.hashed seed names f chain known c.args.d c.args.secret.now c.args.generation has secret_is member within gen_is c.in-Ok.keys c.fill.new.ring
    (subst (λ n. RingStands seed n c.in-Ok.keys) top_is (c.in-Ok.ensures seed c.args.generation stands le)) (subst (λ n. HasKeysOf seed c.args.d n (places_behind known has.back) c.in-Ok.keys c.fill.new.ring) most_is filled) in
    let lent = map (λ b. b.items) c.args.lent.now in
    let i : ℕ = length c.args.lent.now - 1 in
    let some = c.requires in
    let mapped_length = length-map c.args.lent.now (λ b. b.items) in
    let last : i + 1 ≡ length lent = omega (arith, some, mapped_length) in
    let item = c.index-lent-lent.result.items in
    let at = index_map (λ b. b.items) c.args.lent.now i c.index-lent-lent.result ∙ ap (λ b. b.items) (sym c.index-lent-lent.is) in
    let p = there g.S.Sealer.sealed g.S.Sealer.signed g.H.BlockHash.hashed seed names f chain known c.args.d c.args.secret.now c.args.generation has secret_is member within lent is i last item at in
    let p_is = there_is g.S.Sealer.sealed g.S.Sealer.signed g.H.BlockHash.hashed seed names f chain known c.args.d c.args.secret.now c.args.generation has secret_is member within lent is i last item at in
    let written = subst (λ b. IsWritten g.S.Sealer.sealed g.S.Sealer.signed g.H.BlockHash.hashed seed names (get f.blocks) p.older_bytes p.older b p.plain) (p_is ∙ sym c.deref.ensures.value) p.written in
    let keys = ring_there g.S.Sealer.sealed g.S.Sealer.signed g.H.BlockHash.hashed seed names f chain known c.args.d c.args.secret.now c.args.generation has secret_is member within lent is i last item at c.fill.new.ring ring in
    let gen = generation_there g.S.Sealer.sealed g.S.Sealer.signed g.H.BlockHash.hashed seed names f chain known c.args.d c.args.secret.now c.args.generation has secret_is member within lent is i last item at in
    let tree = c.in-Ok-read_tree.ensures.read seed names p.older_bytes p.older p.plain written keys in
    let hash_is : c.hash_of-hash.result ≡ sha256 item = c.hash_of-hash.ensures ∙ ap sha256 c.deref-2.ensures.value in
    let all = head_stands g.S.Sealer.sealed g.S.Sealer.signed g.H.BlockHash.hashed seed names f chain known c.args.d c.args.secret.now c.args.generation has secret_is member within lent is i last item at c.length-number.result c.in-Ok-read_tree.made.0.tree c.in-Ok-read_tree.made.1 c.in-Ok-read_tree.made.2
    c.fill.new.ring c.length-number.ensures ring tree.0 tree.1 in (
      subst (λ h. (let r : Read = record { number = c.length-number.result; hash = h; tree = c.in-Ok-read_tree.made.0.tree; kept = c.in-Ok-read_tree.made.1; cache = c.in-Ok-read_tree.made.2; ring = c.fill.new.ring; generation = c.generation-most.result } in ReadStands g.S.Sealer.sealed g.H.BlockHash.hashed seed f chain r)) (sym hash_is)
          (subst (λ n. (let r : Read = record { number = c.length-number.result; hash = sha256 item; tree = c.in-Ok-read_tree.made.0.tree; kept = c.in-Ok-read_tree.made.1; cache = c.in-Ok-read_tree.made.2; ring = c.fill.new.ring; generation = n } in ReadStands g.S.Sealer.sealed g.H.BlockHash.hashed seed f chain r)) (sym most_is) all.0),
      all.1,
      c.role-role.ensures ∙ ap (λ p. role_at p.0 c.args.d) c.policy-policy.ensures ∙ role_there g.S.Sealer.sealed g.S.Sealer.signed g.H.BlockHash.hashed seed names f chain known c.args.d c.args.secret.now c.args.generation has secret_is member within,
      subst (λ n. 1 ≤ n) (sym most_is) gen.0,
      subst (λ n. n ≤ 64) (sym most_is) gen.1,
    )
