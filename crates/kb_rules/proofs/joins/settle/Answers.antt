use Rattle.std.proofs.Common.{◌≡◌, ℕ, zero, suc, ◌+◌, ◌-◌, ◌<◌, List, [], ◌∷◌, ◌++◌, length, take, set, get_or, Option, Some, refl, sym, ap, ◌∙◌, arith}
use Rattle.kb_name.specs.declared.ids.NodeId.{NodeId}
use Rattle.kb_rules.specs.declared.sides.Sides.{Sides}
use Rattle.kb_rules.specs.Hosting.{Joins, join_at, settle}
use Rattle.kb_rules.proofs.joins.settle.Goals as goal

settle_last : (s : Sides) (ups path : List ℕ) (i : ℕ) (known : Joins) → settle s ups (path ++ i ∷ []) known ≡ settle s ups path (set known i (Some (join_at s ups known i)))
settle_last s ups [] i known = refl
settle_last s ups (j ∷ path) i known = ap (λ k. set k j (Some (join_at s ups k j))) (settle_last s ups path i known)

take_last : (xs : List ℕ) (i d : ℕ) → i < length xs → take (i + 1) xs ≡ take i xs ++ get_or xs i d ∷ []
take_last [] i d lt = absurd (omega (arith, lt))
take_last (x ∷ xs) zero d lt = refl
take_last (x ∷ xs) (suc i) d lt = let z : suc i + 1 ≡ suc (i + 1) = omega arith in ap (λ k. take k (x ∷ xs)) z ∙ ap (λ l. x ∷ l) (take_last xs i d (omega (arith, lt)))

take_all : (xs : List ℕ) (i : ℕ) → i ≡ length xs → take i xs ≡ xs
take_all [] zero e = refl
take_all [] (suc i) e = refl
take_all (x ∷ xs) zero e = absurd (omega (arith, e))
take_all (x ∷ xs) (suc i) e = ap (λ l. x ∷ l) (take_all xs i (omega (arith, e)))

step : (s : Sides) (ups path : List ℕ) (k d : ℕ) (known new whole : Joins) (joined : Option NodeId) → k < length path → joined ≡ join_at s ups known (get_or path ((length path - 1) - k) d) → new ≡ set known (get_or path ((length path - 1) - k) d) (Some joined)
    → settle s ups (take (length path - k) path) known ≡ whole → settle s ups (take (length path - (k + 1)) path) new ≡ whole
step s ups path k d known new whole joined lt is e h =
    let here : length path - (k + 1) ≡ (length path - 1) - k = omega arith in
    let next : length path - k ≡ ((length path - 1) - k) + 1 = omega arith in
    let i = get_or path ((length path - 1) - k) d in
    ap (λ n. settle s ups (take n path) new) here
    ∙ ap (settle s ups (take ((length path - 1) - k) path)) (e ∙ ap (λ j. set known i (Some j)) is)
    ∙ sym (settle_last s ups (take ((length path - 1) - k) path) i known)
    ∙ ap (λ p. settle s ups p known) (sym (take_last path ((length path - 1) - k) d (omega arith)) ∙ ap (λ n. take n path) (sym next))
    ∙ h

pub loop-k-init : goal.loop-k-init
loop-k-init c = ap (λ p. settle c.args.sides.now c.args.ups.now p c.args.known.now.items) (take_all c.args.path.now (length c.args.path.now - 0) (omega arith))

pub loop-k-preserved : goal.loop-k-preserved
loop-k-preserved c = step c.args.sides.now c.args.ups.now c.args.path.now c.loop-k.k _ c.loop-k.known.items c.write.new.known.items _ c.in_ok-joined.joined c.loop-k-test.true (c.in_ok-joined.ensures ∙ ap (λ (k : Joins). join_at c.args.sides.now c.args.ups.now k (get_or c.args.path.now ((length c.args.path.now - 1) - c.loop-k.k) 0)) c.deref.ensures.value) c.write.ensures c.loop-k.invariant

pub returns : goal.returns
returns c = let z : length c.args.path.now - c.loop-k.k ≡ 0 = omega arith in sym (ap (λ n. settle c.args.sides.now c.args.ups.now (take n c.args.path.now) c.loop-k.known.items) z) ∙ c.loop-k.invariant
