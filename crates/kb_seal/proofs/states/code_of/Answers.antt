use Rattle.std.proofs.Common.{◌≡◌, ◌++◌, ◌∷◌, ap, ◌∙◌, sym, subst, append_assoc}
use Rattle.sha2.specs.Sha256.{sha256}
use Rattle.sha2.specs.declared.Sha256.{Sha256}
use Rattle.sha2.specs.Hashers.{Holds256}
use Rattle.kb_seal.specs.Hmac.{keyed, hmac}
use Rattle.kb_seal.proofs.states.code_of.Goals as goal

pub returns : goal.returns
unfolding hmac
returns c key p =
    let h = subst (λ (s : Sha256). Holds256 s (keyed 0x36 key)) (sym c.copied-inner.ensures) p.inner in
    let d = c.finalize-digest.ensures _ (c.update-3.ensures _ (c.update-2.ensures _ (c.update.ensures _ h))) in
    let o = subst (λ (s : Sha256). Holds256 s (keyed 0x5c key)) (sym c.copied-outer.ensures) p.outer in
    let e = c.finalize.ensures _ (c.update-4.ensures _ o) in
    let regrouped : ((keyed 0x36 key ++ c.as_slice.result.now) ++ c.args.second.now) ++ c.args.third.now ≡ keyed 0x36 key ++ (c.args.first ∷ (c.args.second.now ++ c.args.third.now)) = simp (append_assoc, c.as_slice.ensures) in
    e ∙ ap (λ d. sha256 (keyed 0x5c key ++ d)) (c.as_slice-2.ensures ∙ d ∙ ap sha256 regrouped)
