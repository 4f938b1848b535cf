use Rattle.std.proofs.Common.{◌≡◌, ℕ, zero, suc, ◌+◌, ◌-◌, Bool, true, false, List, refl, sym, ap, ◌∙◌, arith}
use Rattle.std.proofs.lemmas.Result.{IfOk-weaker}
use Rattle.kb_rules.specs.Merge.{conflicted}
use Rattle.kb_rules.specs.PlaceSets.{has_place}
use Rattle.kb_rules.specs.Naming.{free_by}
use Rattle.kb_rules.proofs.names.free_name.Goals as goal

free_here : (taken : List ℕ → Bool) (f : ℕ → List ℕ) (n k : ℕ) (free whole : List ℕ) → free ≡ f k → taken free ≡ false → free_by taken f n k ≡ whole → free ≡ whole
free_here taken f zero k free whole e h w = e ∙ w
free_here taken f (suc n) k free whole e h w = let no : taken (f k) ≡ false = ap taken (sym e) ∙ h in e ∙ (sym (rw no refl) ∙ w)

free_later : (taken : List ℕ → Bool) (f : ℕ → List ℕ) (n k : ℕ) (free whole : List ℕ) → free ≡ f k → taken free ≡ true → free_by taken f (suc n) k ≡ whole → free_by taken f n (k + 1) ≡ whole
free_later taken f n k free whole e h w = let yes : taken (f k) ≡ true = ap taken (sym e) ∙ h in rw yes at w

pub returns-then-not-branch : goal.returns-then-not-branch
returns-then-not-branch c =
    let taken = has_place c.args.taken.now c.args.parent in
    let f = conflicted c.args.stamp.now c.args.name.now in
    let n = (c.args.all + 1) - c.loop-k.k in
    let left : n + c.loop-k.k ≡ c.args.all + 1 = omega arith in
    free_here taken f n c.loop-k.k c.in_ok-free.free (free_by taken f c.args.all 1) c.in_ok-free.ensures (sym c.in_ok-is_taken.ensures ∙ c.if-not-branch.true) (c.loop-k.invariant n left)

pub loop-k-preserved : goal.loop-k-preserved
loop-k-preserved c = λ n e.
    let taken = has_place c.args.taken.now c.args.parent in
    let f = conflicted c.args.stamp.now c.args.name.now in
    let left : suc n + c.loop-k.k ≡ c.args.all + 1 = omega (arith, e) in
    free_later taken f n c.loop-k.k c.in_ok-free.free (free_by taken f c.args.all 1) c.in_ok-free.ensures (sym c.in_ok-is_taken.ensures ∙ c.if-not-branch.false) (c.loop-k.invariant (suc n) left)

pub returns : goal.returns
returns c =
    let taken = has_place c.args.taken.now c.args.parent in
    let f = conflicted c.args.stamp.now c.args.name.now in
    let last : zero + c.loop-k.k ≡ c.args.all + 1 = omega arith in
    let end : c.loop-k.k ≡ c.args.all + 1 = omega (arith, last) in
    let whole : f (c.args.all + 1) ≡ free_by taken f c.args.all 1 = ap f (sym end) ∙ c.loop-k.invariant zero last in
    IfOk-weaker c.conflicted-2.result (λ n. n ≡ f (c.args.all + 1)) (λ n. n ≡ free_by taken f c.args.all 1) (λ n e. e ∙ whole) c.conflicted-2.ensures
