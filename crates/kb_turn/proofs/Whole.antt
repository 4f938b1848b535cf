-- Each step keeps the whole rule: the rule, the shares, and that a seat with no share has not the turn.
use Rattle.std.proofs.Common.{◌≡◌, ℕ, zero, suc, ◌+◌, ◌%◌, ◌^◌, ◌<◌, ◌≤◌, eqb, set, true, false, List, [], ◌∷◌, ◌++◌, length, get_or, refl, ap, sym, ◌∙◌, subst, arith, ⊎_elim}
use mathlib.Core.Option.{none}
use prog.Atomic.{either}
use mathlib.Core.Logic.{dite}
use native.Mathlib.Decide.{ℕ_discrete}
use Rattle.std.specs.Prelude.{All, Option, Some}
use Rattle.atomic_table.specs.Table.{State, Me, step, Allows, Splits, Joins, opening}
use Rattle.atomic_table.proofs.Lists.{at_set}
use Rattle.kb_turn.specs.declared.view.View.{View}
use Rattle.kb_turn.specs.Views.{maker, spent, first_half, second_half, watching, numbered, handing, joining}
use Rattle.kb_turn.specs.Rule.{Rule, Whole}
use Rattle.kb_turn.specs.Steps.{claimed, counted_up, released, counted}
use Rattle.kb_turn.proofs.Lists.{at_snoc_place, at_one}
use Rattle.kb_turn.proofs.Keeping as steps
use Rattle.kb_turn.proofs.Weights.{weighed_set, weighed_split, weighed_more, weighed_hand, weighed_join}

module _ {T E : Type 0} (told : T → List E) (number_of : E → ℕ) (callers : ℕ) where
  abbrev Seat : Type 0
  Seat = Me (Option T) (View E)

  abbrev pub Holds : State (Option T) (View E) → Type 0
  Holds = Whole told number_of callers

  -- the share of the seat is as it was, and only a seat with a share has the turn
  abbrev Keeps : View E → View E → Type 0
  Keeps v w = (w.parts ≡ v.parts) × (w.halvings ≡ v.halvings) × (w.holds ≡ true → 0 < w.parts)

  one_view : (v : View E) → v.halvings ≤ 0 → All (λ (z : View E). z.halvings ≤ 0) (v ∷ [])
  one_view v le zero d lt = le
  one_view v le (suc k) d lt = absurd (omega arith)

  lifts : (slots id : ℕ) (me : Seat) (i : ℕ) (f : ℕ → ℕ) (tells : ℕ → Seat → Type 0) → Allows (Rule told number_of callers) slots id me i f tells → ((n : ℕ) (m : Seat) → tells n m → (me.0.holds ≡ true → 0 < me.0.parts) → Keeps me.0 m.0)
      → Allows Holds slots id me i f tells
  lifts slots id me i f tells law keeps s h wide at fits = let o = law s h.rule wide at fits in let w : View E = o.0 in let k = keeps (get_or s.words i 0) (w, _) o.4 (h.alive id me.0 at) in (
    w,
    o.1,
    o.2,
    record {
      rule = o.3;
      shares = weighed_set callers s.views id me.0 w at k.0 k.1 h.shares;
      alive = λ j u e. ⊎_elim (λ t. subst (λ (z : View E). z.holds ≡ true → 0 < z.parts) t.1 k.2) (λ t. h.alive j u t.1) (at_set s.views id j w u e);
    },
    o.4,
  )

  pub claims : (n id : ℕ) (me : Seat) → me.1 ≡ [] → me.0.kept ≡ [] → 0 < me.0.parts → Allows Holds n id me 1 (λ y. either (eqb y 0) 1 y) (claimed told number_of (step n 1 0 1 none) me)
  claims n id me empty bare pos = lifts n id me 1 (λ y. either (eqb y 0) 1 y) (claimed told number_of (step n 1 0 1 none) me) (steps.claims told number_of callers n id me empty bare)
      (λ r m t alive. dite (ℕ_discrete r 0) (λ z. subst (Keeps me.0) (sym (ap (λ (s : Seat). s.0) (t.0 z).1)) (refl, refl, λ h. pos))
      (λ z. subst (Keeps me.0) (sym (ap (λ (s : Seat). s.0) (t.1 (omega arith)))) (refl, refl, alive)))

  pub releases : (n id : ℕ) (me : Seat) (x : T) → me.1 ≡ (0, Some x) ∷ [] → told x ≡ me.0.seen → me.0.holds ≡ true → Allows Holds n id me 1 (λ _. 0) (released (step n 1 0 0 none) me)
  releases n id me x has stands holding = lifts n id me 1 (λ _. 0) (released (step n 1 0 0 none) me) (steps.releases told number_of callers n id me x has stands holding)
      (λ r m t alive. subst (Keeps me.0) (sym (ap (λ (s : Seat). s.0) t)) (refl, refl, λ h. absurd cc))

  pub counts_up : (n id : ℕ) (me : Seat) (x : T) (e : E) → me.1 ≡ (0, Some x) ∷ [] → told x ≡ me.0.seen ++ e ∷ [] → me.0.holds ≡ true → me.0.kept ≡ [] → 0 < me.0.number → number_of e ≡ me.0.number
      → length me.0.seen < 18446744073709551615 → Allows Holds n id me 0 (λ y. (y + 1) % 2 ^ 64) (counted_up told (step n 0 1 0 none) me)
  counts_up n id me x e has stands holding bare numbered' carries room = lifts n id me 0 (λ y. (y + 1) % 2 ^ 64) (counted_up told (step n 0 1 0 none) me) (steps.counts_up told number_of callers n id me x e has stands holding bare numbered' carries room)
      (λ r m t alive. subst (Keeps me.0) (sym (ap (λ (s : Seat). s.0) t.1)) (refl, refl, alive))

  pub counts : (n id : ℕ) (me : Seat) → Allows Holds n id me 0 (λ y. y) (counted number_of (step n 0 0 0 none) me)
  counts n id me = lifts n id me 0 (λ y. y) (counted number_of (step n 0 0 0 none) me) (steps.counts told number_of callers n id me)
      (λ r m t alive. subst (Keeps me.0) (sym (ap (λ (s : Seat). s.0) t.0)) (refl, refl, alive))

  pub splits : (id : ℕ) (v : View E) → 0 < v.parts → Splits Holds id v (first_half v) (second_half v)
  splits id v pos s h at = record {
    rule = steps.splits told number_of callers id v s h.rule at;
    shares = weighed_split callers s.views id v (first_half v) (second_half v) at refl refl refl refl h.shares;
    alive = λ j u e y. ⊎_elim (λ t. ⊎_elim (λ z. subst (λ (x : View E). 0 < x.parts) z.1 pos) (λ z. h.alive j u z.1 y) (at_set s.views id j (first_half v) u t))
        (λ t. subst (λ (x : View E). 0 < x.parts) t.1 pos) (at_snoc_place (set s.views id (first_half v)) (second_half v) u j e);
  }

  pub hands_out : (id : ℕ) (v : View E) → 0 < v.next → v.next ≤ callers → 0 < v.parts → v.halvings ≡ 0 → v.holds ≡ false → Splits Holds id v (handing v) (numbered v)
  hands_out id v next small pos bare free s h at = record {
    rule = steps.hands_out told number_of callers id v next small s h.rule at;
    shares = weighed_hand callers s.views id v (handing v) (numbered v) at pos bare refl bare refl refl h.shares;
    alive = λ j u e y. ⊎_elim (λ t. ⊎_elim (λ z. let no : u.holds ≡ false = ap (λ (x : View E). x.holds) (sym z.1) ∙ free in absurd cc) (λ z. h.alive j u z.1 y) (at_set s.views id j (handing v) u t))
        (λ t. let no : u.holds ≡ false = ap (λ (x : View E). x.holds) (sym t.1) in absurd cc) (at_snoc_place (set s.views id (handing v)) (numbered v) u j e);
  }

  pub joins : (id : ℕ) (v : View E) (other : ℕ) (w : View E) → v.holds ≡ false → w.holds ≡ false → Joins Holds id v other w (joining v w) spent
  joins id v other w free free' s h at ne at' = record {
    rule = steps.joins told number_of callers id v other w free free' s h.rule at ne at';
    shares = weighed_join callers s.views id other v w spent at at' ne refl refl h.shares;
    alive = λ j u e y. ⊎_elim (λ t. let no : u.holds ≡ false = ap (λ (x : View E). x.holds) (sym t.1) in absurd cc)
        (λ t. ⊎_elim (λ z. let no : u.holds ≡ false = ap (λ (x : View E). x.holds) (sym z.1) in absurd cc) (λ z. h.alive j u z.1 y) (at_set s.views id j (joining v w) u t.1)) (at_set (set s.views id (joining v w)) other j spent u e);
  }

  pub watches : (id : ℕ) (v : View E) → Splits Holds id v v (watching v)
  watches id v s h at = record {
    rule = steps.watches told number_of callers id v s h.rule at;
    shares = weighed_more callers (set s.views id v) (watching v) refl refl (weighed_set callers s.views id v v at refl refl h.shares);
    alive = λ j u e y. ⊎_elim (λ t. ⊎_elim (λ z. subst (λ (x : View E). 0 < x.parts) z.1 (h.alive id v at (ap (λ (x : View E). x.holds) z.1 ∙ y))) (λ z. h.alive j u z.1 y) (at_set s.views id j v u t))
        (λ t. let no : u.holds ≡ false = ap (λ (x : View E). x.holds) (sym t.1) in absurd cc) (at_snoc_place (set s.views id v) (watching v) u j e);
  }

  pub opens : (x : T) → All (λ e. number_of e ≡ 0) (told x) → Holds (opening (length (told x) ∷ 0 ∷ []) (Some x ∷ []) (maker (told x) callers))
  opens x bare = let first : View E = maker (told x) callers in record {
    rule = steps.opens told number_of callers callers x bare;
    shares = (0, one_view first (omega arith), omega arith);
    alive = λ j u e y. let no : u.holds ≡ false = ap (λ (z : View E). z.holds) (sym (at_one first j u e).1) in absurd cc;
  }
