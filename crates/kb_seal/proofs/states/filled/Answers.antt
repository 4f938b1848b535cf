use Rattle.std.proofs.Common.{◌≡◌, ℕ, ◌<◌, ◌++◌, ap, ◌∙◌, length, arith, replicate, add-one}
use Rattle.std.proofs.lemmas.List.{drop-replicate}
use Rattle.std.proofs.Math.ListN.{set, get_or}
use Rattle.kb_seal.proofs.Masks.{over, over_more, over_whole}
use Rattle.kb_seal.proofs.states.filled.Goals as goal

pub loop-i-preserved : goal.loop-i-preserved
loop-i-preserved c =
    let n : c.loop-i.i < length c.args.key.now = omega arith in
    let small : c.loop-i.i < length (replicate {A = ℕ} 64 0) = omega arith in
    rw (add-one) (ap (λ t. set t c.loop-i.i (get_or c.args.key.now c.loop-i.i 0)) c.loop-i.invariant ∙ over_more c.loop-i.i c.args.key.now (replicate 64 0) n small)

pub returns : goal.returns
returns c =
    let e : c.loop-i.i ≡ length c.args.key.now = omega arith in
    c.loop-i.invariant ∙ ap (λ n. over n c.args.key.now (replicate 64 0)) e ∙ over_whole c.args.key.now (replicate 64 0) (omega arith) ∙ ap (λ z. c.args.key.now ++ z) (drop-replicate (length c.args.key.now) 64 0)
