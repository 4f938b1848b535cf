use Rattle.std.proofs.Common.{◌≡◌, ℕ, ◌+◌, ◌-◌, ◌<◌, length, map, sym, ap, ◌∙◌, arith}
use Rattle.std.proofs.lemmas.List.{length-map}
use Rattle.std.proofs.lemmas.Slice.Eq.{bytes_eq-Decides}
use Rattle.sha2.specs.Sha256.{sha256}
use Rattle.kb_device.proofs.Placed.{index_map}
use Rattle.kb_device.proofs.Folds.{hash_of_place}
use Rattle.kb_device.proofs.opening.keeps_hash.Goals as goal

pub returns : goal.returns
returns c =
    let lent = map (λ b. b.items) c.args.lent.now in
    let i : ℕ = c.args.known - 1 in
    let within = c.requires in
    let some = c.if-known-eq0.false in
    let mapped = length-map c.args.lent.now (λ b. b.items) in
    let lt : i < length lent = omega (arith, within, some, mapped) in
    let e : c.args.known ≡ i + 1 = omega (arith, some) in
    let at = index_map (λ b. b.items) c.args.lent.now i c.index-lent-known.result ∙ ap (λ b. b.items) (sym c.index-lent-known.is) in
    let is = hash_of_place lent c.args.known i c.index-lent-known.result.items e lt at in
    let made = c.hash_of.ensures ∙ ap sha256 c.deref.ensures.value ∙ sym is in
    let test = c.eq-2.ensures in
    let both = bytes_eq-Decides c.args.hash.now c.hash_of.result in
    (λ h. both.0 (sym test ∙ h) ∙ made, λ h. test ∙ both.1 (h ∙ sym made))
