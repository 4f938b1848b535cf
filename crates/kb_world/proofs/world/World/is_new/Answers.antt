use Rattle.std.proofs.Common.{◌≡◌, true, false, replicate, sym, ◌∙◌, arith}
use Rattle.std.specs.Prelude.{vec_len}
use Rattle.std.specs.Cmp.Lexicographic.{same_text, other_text}
use Rattle.std.proofs.lemmas.Bool.{false≢true, eqb-true, eqb-false, eq-eqb}
use Rattle.kb_world.proofs.Unchanged.{still_new, starts_at, none_left, is_not, is_so}
use Rattle.kb_world.proofs.world.World.is_new.Goals as goal
use Rattle.kb_world.proofs.world.World.is_new.Goals.{then-ne-via-then-ne, then-ne-via-else-ne+then-ne-2}

pub returns-then-ne : goal.returns-then-ne
returns-then-ne g c = elim c.then-ne.branch [
  | then-ne-via-then-ne w ↦ (λ is. absurd (false≢true is), λ new. absurd (eqb-false c.args.self.now.moment 0 (sym (is_not _ w.if-ne.ensures)) (starts_at c.args.self.now new).0))
  | then-ne-via-else-ne+then-ne-2 w ↦ (λ is. absurd (false≢true is), λ new. absurd (other_text c.args.self.now.seed (replicate 32 0) (is_not _ w.if-ne-2.ensures) (starts_at c.args.self.now new).1))
]

pub returns : goal.returns
returns g c =
    let w = c.args.self.now in
    let moment : w.moment ≡ 0 = eqb-true w.moment 0 (sym (is_so _ c.if-ne.ensures)) in
    let seed : w.seed ≡ replicate 32 0 = same_text w.seed (replicate 32 0) (is_so _ c.if-ne-2.ensures) in (
      λ is. still_new w seed moment (none_left w.devices.items (let n = eqb-true (vec_len w.devices) 0 (sym c.is_empty.ensures ∙ is) in let k = w.devices.ok.0 in omega (arith, n, k))) c.requires,
      λ new. c.is_empty.ensures ∙ eq-eqb (vec_len w.devices) 0 (let n = (starts_at w new).2 in let k = w.devices.ok.0 in omega (arith, n, k)),
    )
