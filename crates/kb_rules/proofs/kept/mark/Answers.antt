use Rattle.std.proofs.Common.{◌≡◌, ℕ, zero, suc, ◌+◌, ◌-◌, Bool, true, false, List, length, get_or, set, sym, ap, ◌∙◌, arith}
use Rattle.kb_rules.specs.Code.{mark}
use Rattle.kb_rules.proofs.Basics.{when, unless}
use Rattle.kb_rules.proofs.kept.mark.Goals as goal

marked : (ups : List ℕ) (n at : ℕ) (kept whole : List Bool) → get_or kept at true ≡ true → mark ups n at kept ≡ whole → kept ≡ whole
marked ups zero at kept whole e h = h
marked ups (suc n) at kept whole e h = sym (when _ kept (mark ups n (get_or ups at (length ups)) (set kept at true)) e) ∙ h

further : (ups : List ℕ) (n at next : ℕ) (kept whole : List Bool) → get_or kept at true ≡ false → next ≡ get_or ups at (length ups) → mark ups (suc n) at kept ≡ whole → mark ups n next (set kept at true) ≡ whole
further ups n at next kept whole e up h = ap (λ j. mark ups n j (set kept at true)) up ∙ sym (unless _ kept (mark ups n (get_or ups at (length ups)) (set kept at true)) e) ∙ h

pub loop-init : goal.loop-init
loop-init c = λ n e. let z : n ≡ length c.args.ups.now = omega (arith, e) in ap (λ k. mark c.args.ups.now k c.args.from c.args.kept.now.items) z

pub returns-then-is_marked : goal.returns-then-is_marked
returns-then-is_marked c =
    let n = length c.args.ups.now - c.loop.counter in
    let left : n + c.loop.counter ≡ length c.args.ups.now = omega arith in
    marked c.args.ups.now n c.loop.at c.loop.kept.items _ (sym (c.is_marked.ensures.is ∙ ap (λ l. get_or l c.loop.at true) c.deref.ensures.value) ∙ c.if-is_marked.true) (c.loop.invariant n left)

pub loop-preserved : goal.loop-preserved
loop-preserved c = λ n e.
    let left : suc n + c.loop.counter ≡ length c.args.ups.now = omega (arith, e) in
    further c.args.ups.now n c.loop.at c.next-at.result c.loop.kept.items _ (sym (c.is_marked.ensures.is ∙ ap (λ l. get_or l c.loop.at true) c.deref.ensures.value) ∙ c.if-is_marked.false) c.next-at.ensures (c.loop.invariant (suc n) left)

pub returns : goal.returns
returns c = let left : zero + c.loop.counter ≡ length c.args.ups.now = omega arith in c.loop.invariant zero left
