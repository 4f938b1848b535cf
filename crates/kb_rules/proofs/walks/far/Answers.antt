use Rattle.std.proofs.Common.{◌≡◌, ◌≤◌, ◌+◌, ◌*◌, ℕ, List, ap, ◌∙◌, arith}
use Rattle.kb_rules.specs.Code.{twice}
use Rattle.kb_rules.proofs.Climbs.{climbs, climbs_one, twice_climbs}
use Rattle.kb_rules.proofs.walks.far.Goals as goal

doubled : (ups jumps next : List ℕ) (steps : ℕ) → 1 ≤ steps → jumps ≡ climbs ups steps → next ≡ twice jumps → next ≡ climbs ups (steps * 2)
doubled ups jumps next steps one is twice' = let z : steps + steps ≡ steps * 2 = omega arith in twice' ∙ ap twice is ∙ twice_climbs ups steps one ∙ ap (climbs ups) z

pub loop-steps-init : goal.loop-steps-init
loop-steps-init c = record { some = omega arith; jumps = climbs_one c.args.ups.items }

pub loop-steps-smaller : goal.loop-steps-smaller
loop-steps-smaller c = let some = c.loop-steps.invariant.some in omega (arith, some)

pub loop-steps-preserved : goal.loop-steps-preserved
loop-steps-preserved c =
    let some = c.loop-steps.invariant.some in
    record {
      some = omega (arith, some);
      jumps = doubled c.args.ups.items c.loop-steps.jumps.items c.in_ok-jumps.jumps.items c.loop-steps.steps some c.loop-steps.invariant.jumps (c.in_ok-jumps.ensures ∙ ap twice c.deref.ensures.value);
    }

pub returns : goal.returns
returns c = (c.loop-steps.steps, omega arith, c.loop-steps.invariant.jumps)
