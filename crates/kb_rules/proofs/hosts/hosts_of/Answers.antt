use Rattle.std.proofs.Common.{◌≡◌, ℕ, zero, suc, ◌+◌, ◌-◌, ◌<◌, List, [], ◌∷◌, length, drop, get_or, refl, ap, sym, ◌∙◌, arith}
use Rattle.std.specs.Prelude.{find}
use Rattle.kb_name.specs.declared.ids.NodeId.{NodeId}
use Rattle.kb_rules.specs.declared.sides.Sides.{Sides}
use Rattle.kb_rules.specs.declared.hosts.Hosts.{Hosts}
use Rattle.kb_rules.specs.Hosting.{host_at, host_in, IsAdded}
use Rattle.kb_rules.proofs.HostFacts.{hosts_step}
use Rattle.kb_rules.proofs.hosts.hosts_of.Goals as goal

drop_all : (xs : List NodeId) (i : ℕ) → i ≡ length xs → drop i xs ≡ []
drop_all [] zero e = refl
drop_all [] (suc i) e = refl
drop_all (x ∷ xs) zero e = absurd (omega (arith, e))
drop_all (x ∷ xs) (suc i) e = drop_all xs i (omega (arith, e))

step : (s : Sides) (old new : Hosts) (k : ℕ) (d : NodeId) → k < length s.ids.now → ((p : NodeId) (n : List ℕ) → host_at old p n ≡ find (host_in s p n) (drop (length s.ids.now - k) s.ids.now)) → IsAdded s (get_or s.ids.now ((length s.ids.now - 1) - k) d) old new
    → (p : NodeId) (n : List ℕ) → host_at new p n ≡ find (host_in s p n) (drop (length s.ids.now - (k + 1)) s.ids.now)
step s old new k d lt before added p n =
    let here : (length s.ids.now - 1) - k ≡ length s.ids.now - (k + 1) = omega arith in
    let next : length s.ids.now - k ≡ ((length s.ids.now - 1) - k) + 1 = omega arith in
    hosts_step s old new ((length s.ids.now - 1) - k) d (omega arith) (λ p n. before p n ∙ ap (λ i. find (host_in s p n) (drop i s.ids.now)) next) added p n
    ∙ ap (λ i. find (host_in s p n) (drop i s.ids.now)) here

pub loop-k-init : goal.loop-k-init
loop-k-init c = λ p n. c.new-hosts.ensures p n ∙ sym (ap (find (host_in c.args.sides.now p n)) (drop_all c.args.sides.now.ids.now (length c.args.sides.now.ids.now - 0) (omega arith)))

pub loop-k-preserved : goal.loop-k-preserved
loop-k-preserved c = step c.args.sides.now c.loop-k.hosts c.add_host.new.hosts c.loop-k.k _ c.loop-k-test.true c.loop-k.invariant c.in_ok-add_host.ensures

pub returns : goal.returns
returns c = λ p n. let z : length c.args.sides.now.ids.now - c.loop-k.k ≡ 0 = omega arith in c.loop-k.invariant p n ∙ ap (λ i. find (host_in c.args.sides.now p n) (drop i c.args.sides.now.ids.now)) z
