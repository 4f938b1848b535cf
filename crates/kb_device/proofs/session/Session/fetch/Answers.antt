use Rattle.std.proofs.Common.{◌≡◌, ◌≤◌, length, refl, ap, sym, subst, ◌∙◌}
use Rattle.kb_snap.specs.Chains.{ops_of, tree_at}
use Rattle.kb_snap.specs.Members.{generation_at}
use Rattle.std.proofs.lemmas.List.{length-reverse}
use Rattle.kb_device.specs.Behind.{behind, all_ops, are_plain}
use Rattle.kb_device.specs.Fetching.{plan_from, with_plan}
use Rattle.kb_device.specs.Stands.{RingStands}
use Rattle.kb_device.specs.Views.{inside, plan_of, read_of}
use Rattle.kb_device.proofs.Keys.{no_bad}
use Rattle.kb_device.proofs.Fetchings.{runs_planned}
use Rattle.kb_device.proofs.MergedOps.{last_generation, behind_last}
use Rattle.kb_device.proofs.session.Session.fetch.Goals as goal

pub returns-in-Err-BadFolder-clause-does : goal.returns-in-Err-BadFolder-clause-does
returns-in-Err-BadFolder-clause-does g c = (
  refl,
  c.in-Ok.ensures.lent.0,
  λ seed names chain has secret_is gen ring within low.
      let known_is = c.known-known.ensures in
      no_bad c.in-Err-BadFolder.field-0 _ c.in-Err-BadFolder.field-0-is
      (c.in-Err-BadFolder.ensures seed names chain has c.in-Ok.ensures.lent.0 (subst (λ n. RingStands seed n c.args.self.now.ring) (gen ∙ ap (generation_at chain) (sym known_is)) ring) (subst (λ n. n ≤ length chain) (sym known_is) within)),
)

pub returns-in-Err-BadFolder-read_next-clause-does : goal.returns-in-Err-BadFolder-read_next-clause-does
returns-in-Err-BadFolder-read_next-clause-does g c = (
  refl,
  c.in-Ok.ensures.lent.0,
  λ seed names chain has secret_is gen ring within low.
      let known_is = c.known-known.ensures in
      no_bad c.in-Err-BadFolder-read_next.field-0 _ c.in-Err-BadFolder-read_next.field-0-is
      (c.in-Err-BadFolder-read_next.ensures.stands seed names chain has secret_is c.in-Ok.ensures.lent.0 (subst (λ n. c.args.self.now.generation ≡ generation_at chain n) (sym known_is) gen) ring (subst (λ n. n ≤ length chain) (sym known_is) within) (subst (λ n. length (ops_of c.args.d chain) ≤ n) (sym c.last.ensures) low) c.in-Ok.ensures.lent.1),
)

pub returns-in-Err-BadFolder-read_done-clause-does : goal.returns-in-Err-BadFolder-read_done-clause-does
returns-in-Err-BadFolder-read_done-clause-does g c = (
  refl,
  c.in-Ok.ensures.lent.0,
  λ seed names chain has secret_is gen ring within low.
      let known_is = c.known-known.ensures in
      let here = subst (λ n. n ≤ length chain) (sym known_is) within in
      let r = c.in-Ok-read_next.ensures.stands seed names chain has secret_is c.in-Ok.ensures.lent.0 (subst (λ n. c.args.self.now.generation ≡ generation_at chain n) (sym known_is) gen) ring here (subst (λ n. length (ops_of c.args.d chain) ≤ n) (sym c.last.ensures) low) c.in-Ok.ensures.lent.1 in
      let size = length-reverse has.back in
      no_bad c.in-Err-BadFolder-read_done.field-0 _ c.in-Err-BadFolder-read_done.field-0-is
      (c.in-Err-BadFolder-read_done.ensures seed names c.known-known.result has.back has.stands
      (subst (λ n. RingStands seed n c.in-Ok-read_next.head.ring) (last_generation chain has.back c.in-Ok-read_next.head.number c.in-Ok-read_next.head.generation has.turned r.1 r.0.remembers.generation_is) r.0.ring)
      (subst (λ n. c.known-known.result ≤ n) (ap length has.turned ∙ size) here) c.in-Ok.ensures.lent.1),
)

pub returns-clause-does : goal.returns-clause-does
returns-clause-does g c = record {
  member = c.in-Ok.ensures.lent.0;
  marked = sym c.branched.ensures ∙ c.if-not-branched.false;
  plan = plan_from (read_of c.in-Ok-read_next.head) c.in-Ok-read_known.base.tree c.in-Ok-read_done.done.ops.items c.in-Ok-read_done.done.plain;
  head = λ seed names chain has secret_is gen ring within low.
      let known_is = c.known-known.ensures in
      let here = subst (λ n. n ≤ length chain) (sym known_is) within in
      let r = c.in-Ok-read_next.ensures.stands seed names chain has secret_is c.in-Ok.ensures.lent.0 (subst (λ n. c.args.self.now.generation ≡ generation_at chain n) (sym known_is) gen) ring here (subst (λ n. length (ops_of c.args.d chain) ≤ n) (sym c.last.ensures) low) c.in-Ok.ensures.lent.1 in
      let base = c.in-Ok-read_known.ensures seed names chain has c.in-Ok.ensures.lent.0 (subst (λ n. RingStands seed n c.args.self.now.ring) (gen ∙ ap (generation_at chain) (sym known_is)) ring) here in
      let size = length-reverse has.back in
      let number = c.in-Ok-read_next.head.number in
      let done =
      c.in-Ok-read_done.ensures seed names c.known-known.result has.back has.stands
      (subst (λ n. RingStands seed n c.in-Ok-read_next.head.ring) (last_generation chain has.back number c.in-Ok-read_next.head.generation has.turned r.1 r.0.remembers.generation_is) r.0.ring)
      (subst (λ n. c.known-known.result ≤ n) (ap length has.turned ∙ size) here) c.in-Ok.ensures.lent.1 in
      let between = behind_last chain has.back c.known-known.result number has.turned r.1 ∙ ap (λ n. behind chain n number) known_is in
      (record { merged = r.0.tree; remembers = r.0.remembers; ring = r.0.ring; base = base ∙ ap (tree_at chain) known_is; ops = done.0 ∙ ap all_ops between; plain = done.1 ∙ ap are_plain between }, r.1);
  n_is = refl;
  session = ap (with_plan (inside c.args.self.now)) c.goal_of.ensures;
}

pub returns-clause-running : goal.returns-clause-running
returns-clause-running g c = runs_planned (inside c.args.self.now) (plan_of c.goal_of.result) c.requires.running
