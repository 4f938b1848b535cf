use Rattle.std.proofs.Common.{◌≡◌, ℕ, ◌+◌, ◌-◌, ◌<◌, length, map, refl, sym, ap, subst, ◌∙◌, arith}
use Rattle.std.proofs.Common.{Some}
use Rattle.std.proofs.lemmas.List.{length-map}
use Rattle.sha2.specs.Sha256.{sha256}
use Rattle.kb_device.specs.Opening.{IsTakeable, IsTakingOf}
use Rattle.kb_device.proofs.Placed.{index_map}
use Rattle.kb_device.proofs.Folds.{hash_of_place}
use Rattle.kb_device.proofs.opening.taking_of.Goals as goal

pub returns-in-Some : goal.returns-in-Some
returns-in-Some c =
    let lent = map (λ b. b.items) c.args.lent.now in
    let bounds = subst (IsTakeable (length c.args.lent.now) c.args.base) c.in-Some.is c.requires in
    let i : ℕ = c.in-Some.own.number - 1 in
    let low = bounds.0 in
    let high = bounds.1 in
    let mapped = length-map c.args.lent.now (λ b. b.items) in
    let lt : i < length lent = omega (arith, low, high, mapped) in
    let e : c.in-Some.own.number ≡ i + 1 = omega (arith, low) in
    let at = index_map (λ b. b.items) c.args.lent.now i c.index-lent-own.result ∙ ap (λ b. b.items) (sym c.index-lent-own.is) in
    let is = hash_of_place lent c.in-Some.own.number i c.index-lent-own.result.items e lt at in
    let made = c.hash_of.ensures ∙ ap sha256 c.deref.ensures.value ∙ sym is in
    subst (λ o. IsTakingOf (map sha256 lent) c.args.base o (Some (record { number = c.in-Some.own.number; hash = c.hash_of.result; count = c.in-Some.own.last - c.args.base }))) (sym c.in-Some.is) (refl, refl, made)
