-- Each step keeps the rule.
use Rattle.std.proofs.Common.{◌≡◌, ℕ, zero, suc, ◌+◌, ◌%◌, ◌^◌, ◌<◌, ◌≤◌, ◌≢◌, ◌⊎◌, inl, inr, eqb, set, nat_lt, Bool, true, false, List, [], ◌∷◌, ◌++◌, length, get_or, refl, ap, sym, ◌∙◌, subst, arith, le_refl, length-append, ⊎_elim}
use mathlib.Core.Option.{some, none, some-injective}
use mathlib.Core.Option as maybe
use mathlib.Core.List.{IsPrefix}
use mathlib.Core.Logic.{dite}
use native.Mathlib.Decide.{ℕ_discrete}
use lib.ListN.{get_elem?}
use prog.Atomic.{either}
use Rattle.std.proofs.lemmas.Bool.Decides.{nat_tests}
use Rattle.std.specs.Prelude.{All, if◌then◌else◌, Option, Some}
use Rattle.atomic_table.specs.Table.{State, Me, step, Act, keeps, takes, gives, Valid, carried_after, stepped, Allows, Splits, Joins, opening}
use Rattle.atomic_table.proofs.Lists.{at_set, set_else, at_longer}
use Rattle.kb_turn.specs.declared.view.View.{View}
use Rattle.kb_turn.specs.Views.{numbers_of, Among, maker, spent, first_half, second_half, watching, numbered, handing, longer, joining, taking, missing, seeing, leaving, loading, of}
use Rattle.kb_turn.specs.Rule.{AreNumbered, Phase, home, out, word_of, home_of, Kept, Fits, Turned, Rule}
use Rattle.kb_turn.specs.Steps.{Follows, claimed, counted_up, released, counted}
use Rattle.kb_turn.proofs.Lists.{at_one, set_there, at_snoc_place, prefix_self, prefix_snoc, prefix_trans, prefix_shorter, prefix_length, among_append, of_other, of_bare, of_between, all_snoc, same_head}

no_zero : (k : ℕ) → 0 < k → Among k (0 ∷ []) → ⊥
no_zero k p m = ⊎_elim (λ e. absurd (omega arith)) (λ n. n) m

is_false : (b : Bool) → (b ≡ true → ⊥) → b ≡ false
is_false true n = absurd (n refl)
is_false false n = refl

module _ {T E : Type 0} (told : T → List E) (number_of : E → ℕ) (callers : ℕ) where
  abbrev St : Type 0
  St = State (Option T) (View E)

  abbrev Seat : Type 0
  Seat = Me (Option T) (View E)

  abbrev pub Holds : St → Type 0
  Holds = Rule told number_of callers

  -- a seat's view becomes w, which has the same numbers. The list is now list', and the other views fit it
  abbrev changed : (s : St) (r : Holds s) (id : ℕ) (v w : View E) → get_elem? s.views id ≡ some v → (numbers_of w) ≡ (numbers_of v) → v.next ≤ w.next → (0 < w.next → 0 < v.next)
      → (list' : List E) → AreNumbered number_of callers list' → (phase' : Phase T) → Turned told number_of list' (set s.views id w) phase' → Fits number_of list' w
      → ((j : ℕ) (u : View E) → j ≢ id → get_elem? s.views j ≡ some u → Fits number_of list' u)
      → Holds record { words = length list' ∷ word_of phase' ∷ []; homes = home_of phase' ∷ []; views = set s.views id w }
  changed s r id v w at same_numbers more was_maker list' marked phase' turn mine others =
      let was : (j : ℕ) (u : View E) → get_elem? (set s.views id w) j ≡ some u → (u' : View E) × (get_elem? s.views j ≡ some u') × (numbers_of u' ≡ (numbers_of u)) × (u'.next ≤ u.next) × (0 < u.next → 0 < u'.next) =
      λ j u e. ⊎_elim (λ t. (v, (ap (get_elem? s.views) t.0 ∙ at), sym same_numbers ∙ ap (λ (x : View E). (numbers_of x)) t.1, subst (λ (x : View E). v.next ≤ x.next) t.1 more, subst (λ (x : View E). 0 < x.next → 0 < v.next) t.1 was_maker)) (λ t. (u, t.1, refl, le_refl u.next, λ p. p)) (at_set s.views id j w u e) in
      record {
        list = list';
        phase = phase';
        words = refl;
        homes = refl;
        turn = turn;
        marked = marked;
        fits = λ j u e. ⊎_elim (λ t. subst (Fits number_of list') t.1 mine) (λ t. others j u t.0 t.1) (at_set s.views id j w u e);
        low = λ j u e. let x = was j u e in let h = r.low j x.0 x.1 in let same = same_head x.0.number u.number x.0.gone u.gone x.2 in omega arith;
        apart = λ i j a b ea eb k p ka kb.
            let x = was i a ea in
            let y = was j b eb in
            r.apart i j x.0 y.0 x.1 y.1 k p (subst (Among k) (sym x.2) ka) (subst (Among k) (sym y.2) kb);
        hands = λ i j a b ea eb pos.
            let x = was i a ea in
            let y = was j b eb in
            let h = r.hands i j x.0 y.0 x.1 y.1 (x.4 pos) in
            ((λ k q kb. let low = h.0 k q (subst (Among k) (sym y.2) kb) in let le = x.3 in omega arith), (λ p. h.1 (y.4 p)));
      }

  added_turn : (views : List (View E)) (list : List E) (w : View E) → w.holds ≡ false → (p : Phase T) → Turned told number_of list views p → Turned told number_of list (views ++ w ∷ []) p
  added_turn views list w free (home x) turn = (turn.0, λ j u e. ⊎_elim (turn.1 j u) (λ t. ap (λ (z : View E). z.holds) (sym t.1) ∙ free) (at_snoc_place views w u j e))
  added_turn views list w free (out i) turn = (
    (turn.0.0, at_longer views (w ∷ []) i turn.0.0 turn.0.1, turn.0.2, turn.0.3),
    λ j u e h. ⊎_elim (λ t. turn.1 j u t h) (λ t. let no : u.holds ≡ false = ap (λ (z : View E). z.holds) (sym t.1) ∙ free in absurd cc) (at_snoc_place views w u j e),
  )

  -- what a step at a seat has to show, where the words and the homes are given
  abbrev Goes : List ℕ → List (maybe.Option (Option T)) → List (View E) → ℕ → ℕ → Seat → (ℕ → ℕ) → (ℕ → Seat → Type 0) → Type 0
  Goes ws hs vs k id me f tells =
      let s : St = record { words = ws; homes = hs; views = vs } in
      (w : View E) × (a : Act (Option T)) × Valid hs me.1 a × Holds (stepped s k (f (get_or ws k 0)) id me.1 w a) × tells (get_or ws k 0) (w, carried_after me.1 a)

  -- it is enough to show it at the words and homes of the rule
  goes : (s : St) (r : Holds s) (k id : ℕ) (me : Seat) (f : ℕ → ℕ) (tells : ℕ → Seat → Type 0)
      → Goes (length r.list ∷ word_of r.phase ∷ []) (home_of r.phase ∷ []) s.views k id me f tells → Goes s.words s.homes s.views k id me f tells
  goes s r k id me f tells g = let P : List ℕ → Type 0 = λ ws. Goes ws s.homes s.views k id me f tells in
      let Q : List (maybe.Option (Option T)) → Type 0 = λ hs. Goes (length r.list ∷ word_of r.phase ∷ []) hs s.views k id me f tells in
      subst P (sym r.words) (subst Q (sym r.homes) g)

  -- nothing was kept
  no_lists : (v : View E) (ps : List (List ℕ × List E)) → ps ≡ [] → All (Kept number_of v) ps
  no_lists v ps bare = subst (All (Kept number_of v)) (sym bare) (λ k d h. absurd (omega arith))

  two_lists : (v : View E) (p q : List ℕ × List E) → Kept number_of v p → Kept number_of v q → All (Kept number_of v) (p ∷ q ∷ [])
  two_lists v p q a b zero d h = a
  two_lists v p q a b (suc zero) d h = b
  two_lists v p q a b (suc (suc k)) d h = absurd (omega arith)

  -- the seat sees the whole list
  takes_all : (list : List E) (v : View E) → Fits number_of list v → v.kept ≡ [] → Fits number_of list (taking v list)
  takes_all list v f bare = record { begins = prefix_self list; below = f.below; mine = λ k p m. refl; lists = no_lists (taking v list) v.kept bare; later = f.later }

  -- nothing changes but how often it found the turn out
  misses : (list : List E) (v : View E) → Fits number_of list v → Fits number_of list (missing v)
  misses list v f = record { begins = f.begins; below = f.below; mine = f.mine; lists = f.lists; later = f.later }

  follows_of : (list : List E) (v : View E) → Fits number_of list v → Follows number_of v list
  follows_of list v f = record { begins = f.begins; reaches = f.below; mine = f.mine }

  -- a seat whose view changes in what no seat's turn depends on
  stays_turned : (list : List E) (views : List (View E)) (id : ℕ) (v w : View E) → get_elem? views id ≡ some v → w.holds ≡ v.holds → w.seen ≡ v.seen → (p : Phase T) → Turned told number_of list views p → Turned told number_of list (set views id w) p
  stays_turned list views id v w at same_holds same_seen (home x) turn = (turn.0, λ j u e. ⊎_elim (λ t. ap (λ (z : View E). z.holds) (sym t.1) ∙ (same_holds ∙ turn.1 id v at)) (λ t. turn.1 j u t.1) (at_set views id j w u e))
  stays_turned list views id v w at same_holds same_seen (out i) turn = (
    dite (ℕ_discrete i id)
        (λ here. let same : turn.0.0 ≡ v = some-injective turn.0.0 v (sym turn.0.1 ∙ (ap (get_elem? views) here ∙ at)) in
        (w, ap (get_elem? (set views id w)) here ∙ set_there views id v w at, same_holds ∙ (ap (λ (z : View E). z.holds) (sym same) ∙ turn.0.2), same_seen ∙ (ap (λ (z : View E). z.seen) (sym same) ∙ turn.0.3)))
        (λ ne. (turn.0.0, set_else views id i w ne ∙ turn.0.1, turn.0.2, turn.0.3)),
    λ j u e h. ⊎_elim (λ t. t.0 ∙ turn.1 id v at (sym same_holds ∙ (ap (λ (z : View E). z.holds) t.1 ∙ h))) (λ t. turn.1 j u t.1 h) (at_set views id j w u e),
  )

  -- where nobody had the turn, a seat that takes it is the only one
  only_holder : (views : List (View E)) (id : ℕ) (w : View E) → ((j : ℕ) (u : View E) → get_elem? views j ≡ some u → u.holds ≡ false) → (j : ℕ) (u : View E) → get_elem? (set views id w) j ≡ some u → u.holds ≡ true → j ≡ id
  only_holder views id w nobody j u e h = ⊎_elim (λ t. t.0) (λ t. let n = nobody j u t.1 in absurd cc) (at_set views id j w u e)

  -- where a seat had it, and lets go, nobody has it
  none_left : (views : List (View E)) (id : ℕ) (w : View E) → w.holds ≡ false → ((j : ℕ) (u : View E) → get_elem? views j ≡ some u → u.holds ≡ true → j ≡ id) → (j : ℕ) (u : View E) → get_elem? (set views id w) j ≡ some u → u.holds ≡ false
  none_left views id w free one j u e = ⊎_elim (λ t. ap (λ (z : View E). z.holds) (sym t.1) ∙ free) (λ t. is_false u.holds (λ h. t.0 (one j u t.1 h))) (at_set views id j w u e)

  claims_at : (s : St) (r : Holds s) (n id : ℕ) (me : Seat) → me.1 ≡ [] → me.0.kept ≡ [] → get_elem? s.views id ≡ some me.0
      → (p : Phase T) → Turned told number_of r.list s.views p → Goes (length r.list ∷ word_of p ∷ []) (home_of p ∷ []) s.views 1 id me (λ y. either (eqb y 0) 1 y) (claimed told number_of (step n 1 0 1 none) me)
  claims_at s r n id me empty bare at (home x) turn = let f = r.fits id me.0 at in let w : View E = taking me.0 (told x) in
      let fw : Fits number_of r.list w = subst (λ (l : List E). Fits number_of r.list (taking me.0 l)) (sym turn.0) (takes_all r.list me.0 f bare) in
      (w, takes 0 (Some x), refl, changed s r id me.0 w at refl (le_refl me.0.next) (λ p. p) r.list r.marked (out id) ((w, set_there s.views id me.0 w at, refl, turn.0), only_holder s.views id w turn.1) fw (λ j u ne e. r.fits j u e), ((λ _. (x, refl, subst (Follows number_of me.0) (sym turn.0) (follows_of r.list me.0 f))), λ h. absurd (omega arith)))
  claims_at s r n id me empty bare at (out i) turn = let w : View E = missing me.0 in
      (w, keeps, tt, changed s r id me.0 w at refl (le_refl me.0.next) (λ p. p) r.list r.marked (out i) (stays_turned r.list s.views id me.0 w at refl refl (out i) turn) (misses r.list me.0 (r.fits id me.0 at)) (λ j u ne e. r.fits j u e), ((λ h. absurd (omega arith)), λ _. refl))

  pub claims : (n id : ℕ) (me : Seat) → me.1 ≡ [] → me.0.kept ≡ [] → Allows Holds n id me 1 (λ y. either (eqb y 0) 1 y) (claimed told number_of (step n 1 0 1 none) me)
  claims n id me empty bare s r wide at fits = goes s r 1 id me (λ y. either (eqb y 0) 1 y) (claimed told number_of (step n 1 0 1 none) me) (claims_at s r n id me empty bare at r.phase r.turn)

  -- the seat that has the turn gives the value back, which stands for what it has seen
  releases_at : (s : St) (r : Holds s) (n id : ℕ) (me : Seat) (x : T) → me.1 ≡ (0, Some x) ∷ [] → told x ≡ me.0.seen → me.0.holds ≡ true → get_elem? s.views id ≡ some me.0
      → (p : Phase T) → Turned told number_of r.list s.views p → Goes (length r.list ∷ word_of p ∷ []) (home_of p ∷ []) s.views 1 id me (λ _. 0) (released (step n 1 0 0 none) me)
  releases_at s r n id me x has stands holding at (home y) turn = let free = turn.1 id me.0 at in absurd cc
  releases_at s r n id me x has stands holding at (out i) turn = let f = r.fits id me.0 at in let w : View E = leaving me.0 in let here : id ≡ i = turn.1 id me.0 at holding in
      let same : turn.0.0 ≡ me.0 = some-injective turn.0.0 me.0 (sym turn.0.1 ∙ (ap (get_elem? s.views) (sym here) ∙ at)) in let whole : me.0.seen ≡ r.list = ap (λ (z : View E). z.seen) (sym same) ∙ turn.0.3 in
      let G : List (ℕ × Option T) → Type 0 = λ c. Goes (length r.list ∷ 1 ∷ []) (none ∷ []) s.views 1 id (me.0, c) (λ _. 0) (released (step n 1 0 0 none) (me.0, c)) in
      subst G (sym has) (
        w,
        gives,
        tt,
        changed s r id me.0 w at refl (le_refl me.0.next) (λ p. p) r.list r.marked (home x) (stands ∙ whole, none_left s.views id w refl (λ j u e h. turn.1 j u e h ∙ sym here))
            record { begins = f.begins; below = f.below; mine = f.mine; lists = f.lists; later = f.later } (λ j u ne e. r.fits j u e),
        refl,
      )

  pub releases : (n id : ℕ) (me : Seat) (x : T) → me.1 ≡ (0, Some x) ∷ [] → told x ≡ me.0.seen → me.0.holds ≡ true → Allows Holds n id me 1 (λ _. 0) (released (step n 1 0 0 none) me)
  releases n id me x has stands holding s r wide at fits = goes s r 1 id me (λ _. 0) (released (step n 1 0 0 none) me) (releases_at s r n id me x has stands holding at r.phase r.turn)

  none_later : (list : List E) (v : View E) (e : E) → Fits number_of list v → (0 < v.next → number_of e < v.next) → 0 < v.next → (k : ℕ) → v.next ≤ k → of number_of k (list ++ e ∷ []) ≡ []
  none_later list v e f low pos k le = of_other number_of k list e (λ same. let l = low pos in omega arith) ∙ f.later pos k le

  -- one more entry, whose number is none of the view's
  grown : (list : List E) (v : View E) (e : E) → Fits number_of list v → (Among (number_of e) (numbers_of v) → ⊥) → (0 < v.next → number_of e < v.next) → Fits number_of (list ++ e ∷ []) v
  grown list v e f not low = record {
    begins = prefix_trans v.seen list (list ++ e ∷ []) f.begins (prefix_snoc list e);
    below = let b = f.below in omega (arith, length-append list (e ∷ []));
    mine = λ k p m. of_other number_of k list e (λ same. not (subst (λ (z : ℕ). Among z (numbers_of v)) (sym same) m)) ∙ f.mine k p m;
    lists = f.lists;
    later = none_later list v e f low;
  }

  -- the seat that has the turn counts an entry of its number, which the value has at its end
  counts_up_at : (s : St) (r : Holds s) (n id : ℕ) (me : Seat) (x : T) (e : E) → me.1 ≡ (0, Some x) ∷ [] → told x ≡ me.0.seen ++ e ∷ [] → me.0.holds ≡ true → me.0.kept ≡ [] → 0 < me.0.number → number_of e ≡ me.0.number
      → length me.0.seen < 18446744073709551615 → get_elem? s.views id ≡ some me.0
      → (p : Phase T) → Turned told number_of r.list s.views p → Goes (length r.list ∷ word_of p ∷ []) (home_of p ∷ []) s.views 0 id me (λ y. (y + 1) % 18446744073709551616) (counted_up told (step n 0 1 0 none) me)
  counts_up_at s r n id me x e has stands holding bare numbered carries room at (home y) turn = let free = turn.1 id me.0 at in absurd cc
  counts_up_at s r n id me x e has stands holding bare numbered carries room at (out i) turn = let f = r.fits id me.0 at in let w : View E = seeing me.0 (told x) in let here : id ≡ i = turn.1 id me.0 at holding in
      let same : turn.0.0 ≡ me.0 = some-injective turn.0.0 me.0 (sym turn.0.1 ∙ (ap (get_elem? s.views) (sym here) ∙ at)) in let whole : me.0.seen ≡ r.list = ap (λ (z : View E). z.seen) (sym same) ∙ turn.0.3 in
      let list' : List E = r.list ++ e ∷ [] in let all : told x ≡ list' = stands ∙ ap (λ (l : List E). l ++ e ∷ []) whole in
      let one_more : length list' ≡ length r.list + 1 = length-append r.list (e ∷ []) in
      let is_mine : Among (number_of e) (numbers_of me.0) = inl carries in
      let carried : 0 < number_of e = omega arith in
      let marked : AreNumbered number_of callers list' = all_snoc (λ (y : E). number_of y ≤ callers) r.list e r.marked (let l = r.low id me.0 at in omega arith) in
      let fw : Fits number_of list' w = record {
        begins = subst (λ (l : List E). IsPrefix l list') (sym all) (prefix_self list');
        below = let b = f.below in omega arith;
        mine = λ k p m. ap (of number_of k) (sym all);
        lists = no_lists w me.0.kept bare;
        later = none_later r.list me.0 e f (λ pos. (r.hands id id me.0 me.0 at at pos).0 (number_of e) carried is_mine);
      } in
      let turned : Turned told number_of list' (set s.views id w) (out i) = (
        (w, ap (get_elem? (set s.views id w)) (sym here) ∙ set_there s.views id me.0 w at, holding, all),
        λ j u h y. ⊎_elim (λ t. t.0 ∙ here) (λ t. turn.1 j u t.1 y) (at_set s.views id j w u h),
      ) in
      let c = changed s r id me.0 w at refl (le_refl me.0.next) (λ p. p) list' marked (out i) turned fw (λ j u ne h. grown r.list u e (r.fits j u h) (λ m. ne (r.apart j id u me.0 h at (number_of e) carried m is_mine)) (λ pos. (r.hands j id u me.0 h at pos).0 (number_of e) carried is_mine)) in
      let seen_length : length me.0.seen ≡ length r.list = ap length whole in
      let counted : length list' ≡ (length r.list + 1) % 18446744073709551616 = omega arith in
      let G : List (ℕ × Option T) → Type 0 = λ d. Goes (length r.list ∷ 1 ∷ []) (none ∷ []) s.views 0 id (me.0, d) (λ y. (y + 1) % 18446744073709551616) (counted_up told (step n 0 1 0 none) (me.0, d)) in
      subst G (sym has) (w, keeps, tt, subst (λ (z : ℕ). Holds record { words = z ∷ 1 ∷ []; homes = none ∷ []; views = set s.views id w }) counted c, (sym seen_length, refl))

  pub counts_up : (n id : ℕ) (me : Seat) (x : T) (e : E) → me.1 ≡ (0, Some x) ∷ [] → told x ≡ me.0.seen ++ e ∷ [] → me.0.holds ≡ true → me.0.kept ≡ [] → 0 < me.0.number → number_of e ≡ me.0.number
      → length me.0.seen < 18446744073709551615 → Allows Holds n id me 0 (λ y. (y + 1) % 2 ^ 64) (counted_up told (step n 0 1 0 none) me)
  counts_up n id me x e has stands holding bare numbered carries room s r wide at fits = goes s r 0 id me (λ y. (y + 1) % 2 ^ 64) (counted_up told (step n 0 1 0 none) me) (counts_up_at s r n id me x e has stands holding bare numbered carries room at r.phase r.turn)

  -- a load of the count
  counts_at : (s : St) (r : Holds s) (n id : ℕ) (me : Seat) → get_elem? s.views id ≡ some me.0
      → Goes (length r.list ∷ word_of r.phase ∷ []) (home_of r.phase ∷ []) s.views 0 id me (λ y. y) (counted number_of (step n 0 0 0 none) me)
  counts_at s r n id me at = let f = r.fits id me.0 at in let w : View E = loading me.0 (length r.list) in (
    w,
    keeps,
    tt,
    changed s r id me.0 w at refl (le_refl me.0.next) (λ p. p) r.list r.marked r.phase (stays_turned r.list s.views id me.0 w at refl refl r.phase r.turn)
        record { begins = f.begins; below = let b = f.below in omega arith; mine = f.mine; lists = no_lists w [] refl; later = f.later } (λ j u ne e. r.fits j u e),
    (refl, prefix_length me.0.seen r.list f.begins, f.lists),
  )

  pub counts : (n id : ℕ) (me : Seat) → Allows Holds n id me 0 (λ y. y) (counted number_of (step n 0 0 0 none) me)
  counts n id me s r wide at fits = goes s r 0 id me (λ y. y) (counted number_of (step n 0 0 0 none) me) (counts_at s r n id me at)

  placed : (s : St) (r : Holds s) (vs : List (View E)) → Holds record { words = length r.list ∷ word_of r.phase ∷ []; homes = home_of r.phase ∷ []; views = vs } → Holds record { words = s.words; homes = s.homes; views = vs }
  placed s r vs h = subst (λ (ws : List ℕ). Holds record { words = ws; homes = s.homes; views = vs }) (sym r.words)
      (subst (λ (hs : List (maybe.Option (Option T))). Holds record { words = length r.list ∷ word_of r.phase ∷ []; homes = hs; views = vs }) (sym r.homes) h)

  -- one more view, which has not the turn
  added : (s : St) (r : Holds s) (w : View E) → Fits number_of r.list w → w.number ≤ callers → w.holds ≡ false → w.next ≡ 0
      → ((j : ℕ) (u : View E) → get_elem? s.views j ≡ some u → (k : ℕ) → 0 < k → Among k (numbers_of w) → Among k (numbers_of u) → ⊥)
      → ((j : ℕ) (u : View E) → get_elem? s.views j ≡ some u → 0 < u.next → (k : ℕ) → 0 < k → Among k (numbers_of w) → k < u.next)
      → Holds record { words = s.words; homes = s.homes; views = s.views ++ w ∷ [] }
  added s r w fw small free last others lower = record {
    list = r.list;
    phase = r.phase;
    words = r.words;
    homes = r.homes;
    turn = added_turn s.views r.list w free r.phase r.turn;
    marked = r.marked;
    fits = λ j u e. ⊎_elim (r.fits j u) (λ t. subst (Fits number_of r.list) t.1 fw) (at_snoc_place s.views w u j e);
    low = λ j u e. ⊎_elim (r.low j u) (λ t. subst (λ (z : View E). z.number ≤ callers) t.1 small) (at_snoc_place s.views w u j e);
    apart = λ i j a b ea eb k p ka kb.
        ⊎_elim
        (λ x. ⊎_elim (λ y. r.apart i j a b x y k p ka kb) (λ y. absurd (others i a x k p (subst (λ (z : View E). Among k (numbers_of z)) (sym y.1) kb) ka)) (at_snoc_place s.views w b j eb))
        (λ x. ⊎_elim (λ y. absurd (others j b y k p (subst (λ (z : View E). Among k (numbers_of z)) (sym x.1) ka) kb)) (λ y. x.0 ∙ sym y.0) (at_snoc_place s.views w b j eb))
        (at_snoc_place s.views w a i ea);
    hands = λ i j a b ea eb pos.
        ⊎_elim
        (λ x. ⊎_elim (λ y. r.hands i j a b x y pos)
        (λ y. ((λ k q kb. lower i a x pos k q (subst (λ (z : View E). Among k (numbers_of z)) (sym y.1) kb)), (λ p. let z : 0 ≡ b.next = sym last ∙ ap (λ (z : View E). z.next) y.1 in absurd (omega arith))))
        (at_snoc_place s.views w b j eb))
        (λ x. let z : 0 ≡ a.next = sym last ∙ ap (λ (z : View E). z.next) x.1 in absurd (omega arith))
        (at_snoc_place s.views w a i ea);
  }

  -- a view that has seen the same, and has no number
  splits_at : (id : ℕ) (v : View E) (s : St) (r : Holds s) → get_elem? s.views id ≡ some v
      → Holds record { words = length r.list ∷ word_of r.phase ∷ []; homes = home_of r.phase ∷ []; views = set s.views id (first_half v) ++ second_half v ∷ [] }
  splits_at id v s r at = let f = r.fits id v at in let w : View E = first_half v in
      let c = changed s r id v w at refl (le_refl v.next) (λ p. p) r.list r.marked r.phase (stays_turned r.list s.views id v w at refl refl r.phase r.turn)
      record { begins = f.begins; below = f.below; mine = f.mine; lists = f.lists; later = f.later } (λ j u ne e. r.fits j u e) in
      added record { words = length r.list ∷ word_of r.phase ∷ []; homes = home_of r.phase ∷ []; views = set s.views id w } c (second_half v)
      record { begins = f.begins; below = f.below; mine = λ k p m. absurd (no_zero k p m); lists = no_lists (second_half v) [] refl; later = λ p. absurd (omega arith) } (omega arith) refl refl
      (λ j u e k p m n. no_zero k p m) (λ j u e p k q m. absurd (no_zero k q m))

  pub splits : (id : ℕ) (v : View E) → Splits Holds id v (first_half v) (second_half v)
  splits id v s r at = placed s r (set s.views id (first_half v) ++ second_half v ∷ []) (splits_at id v s r at)

  -- a view with the next number
  hands_out_at : (id : ℕ) (v : View E) → 0 < v.next → v.next ≤ callers → (s : St) (r : Holds s) → get_elem? s.views id ≡ some v
      → Holds record { words = length r.list ∷ word_of r.phase ∷ []; homes = home_of r.phase ∷ []; views = set s.views id (handing v) ++ numbered v ∷ [] }
  hands_out_at id v pos small s r at = let f = r.fits id v at in let w : View E = handing v in let n : ℕ = v.next in
      let c = changed s r id v w at refl (omega arith) (λ p. pos) r.list r.marked r.phase (stays_turned r.list s.views id v w at refl refl r.phase r.turn)
      record { begins = f.begins; below = f.below; mine = f.mine; lists = f.lists; later = λ p k le. f.later pos k (omega arith) } (λ j u ne e. r.fits j u e) in
      let nothing : of number_of n r.list ≡ [] = f.later pos n (le_refl n) in
      let fn : Fits number_of r.list (numbered v) = record {
        begins = f.begins;
        below = omega arith;
        mine = λ k p m. ⊎_elim (λ same. subst (λ (z : ℕ). of number_of z r.list ≡ of number_of z v.seen) (sym same) (nothing ∙ sym (of_between number_of n [] v.seen r.list (v.seen, refl) f.begins nothing))) (λ none_at. absurd none_at) m;
        lists = no_lists (numbered v) [] refl;
        later = λ p. absurd (omega arith);
      } in
      let old : (j : ℕ) (u : View E) → get_elem? (set s.views id w) j ≡ some u → (k : ℕ) → 0 < k → Among k (numbers_of u) → k < n =
      λ j u e k p m. ⊎_elim (λ t. (r.hands id id v v at at pos).0 k p (subst (λ (z : View E). Among k (numbers_of z)) (sym t.1) m)) (λ t. (r.hands id j v u at t.1 pos).0 k p m) (at_set s.views id j w u e) in
      let nexts : (j : ℕ) (u : View E) → get_elem? (set s.views id w) j ≡ some u → 0 < u.next → n < u.next =
      λ j u e p. ⊎_elim (λ t. subst (λ (z : View E). n < z.next) t.1 (omega arith)) (λ t. absurd (t.0 (sym ((r.hands id j v u at t.1 pos).1 p)))) (at_set s.views id j w u e) in
      added record { words = length r.list ∷ word_of r.phase ∷ []; homes = home_of r.phase ∷ []; views = set s.views id w } c (numbered v) fn small refl refl
      (λ j u e k p m m'. ⊎_elim (λ same. let low = old j u e k p m' in absurd (omega arith)) (λ none_at. absurd none_at) m)
      (λ j u e p k q m. ⊎_elim (λ same. let low = nexts j u e p in omega arith) (λ none_at. absurd none_at) m)

  pub hands_out : (id : ℕ) (v : View E) → 0 < v.next → v.next ≤ callers → Splits Holds id v (handing v) (numbered v)
  hands_out id v pos small s r at = placed s r (set s.views id (handing v) ++ numbered v ∷ []) (hands_out_at id v pos small s r at)

  -- two views that have not the turn become one
  joins_turn : (views : List (View E)) (list : List E) (id other : ℕ) (v w : View E) → get_elem? views id ≡ some v → get_elem? views other ≡ some w → v.holds ≡ false → w.holds ≡ false
      → (p : Phase T) → Turned told number_of list views p → Turned told number_of list (set (set views id (joining v w)) other spent) p
  joins_turn views list id other v w at at' free free' (home x) turn = (
    turn.0,
    λ j u e. ⊎_elim (λ t. ap (λ (z : View E). z.holds) (sym t.1)) (λ t. ⊎_elim (λ y. ap (λ (z : View E). z.holds) (sym y.1)) (λ y. turn.1 j u y.1) (at_set views id j (joining v w) u t.1)) (at_set (set views id (joining v w)) other j spent u e),
  )
  joins_turn views list id other v w at at' free free' (out i) turn =
      let not_id : i ≢ id = λ same. let e : turn.0.0 ≡ v = some-injective turn.0.0 v (sym turn.0.1 ∙ (ap (get_elem? views) same ∙ at)) in let h : turn.0.0.holds ≡ true = turn.0.2 in let no : turn.0.0.holds ≡ false = ap (λ (z : View E). z.holds) e ∙ free in absurd cc in
      let not_other : i ≢ other = λ same. let e : turn.0.0 ≡ w = some-injective turn.0.0 w (sym turn.0.1 ∙ (ap (get_elem? views) same ∙ at')) in let h : turn.0.0.holds ≡ true = turn.0.2 in let no : turn.0.0.holds ≡ false = ap (λ (z : View E). z.holds) e ∙ free' in absurd cc in (
        (turn.0.0, set_else (set views id (joining v w)) other i spent not_other ∙ (set_else views id i (joining v w) not_id ∙ turn.0.1), turn.0.2, turn.0.3),
        λ j u e h. ⊎_elim (λ t. let no : u.holds ≡ false = ap (λ (z : View E). z.holds) (sym t.1) in absurd cc)
            (λ t. ⊎_elim (λ y. let no : u.holds ≡ false = ap (λ (z : View E). z.holds) (sym y.1) in absurd cc) (λ y. turn.1 j u y.1 h) (at_set views id j (joining v w) u t.1)) (at_set (set views id (joining v w)) other j spent u e),
      )

  longer_at : (list xs ys : List E) → IsPrefix xs list → IsPrefix ys list → (b : Bool) → nat_lt (length xs) (length ys) ≡ b
      → IsPrefix xs (if b then ys else xs) × IsPrefix ys (if b then ys else xs) × IsPrefix (if b then ys else xs) list
  longer_at list xs ys p q true is = let lt : length xs < length ys = grind (arith, nat_tests) in (prefix_shorter xs ys list p q (omega arith), prefix_self ys, q)
  longer_at list xs ys p q false is = let le : length ys ≤ length xs = grind (arith, nat_tests) in (prefix_self xs, prefix_shorter ys xs list q p le, p)

  -- of what two views had seen, the longer begins with both, and has no more entries of their numbers
  longer_begins : (list xs ys : List E) → IsPrefix xs list → IsPrefix ys list → IsPrefix xs (longer xs ys) × IsPrefix ys (longer xs ys) × IsPrefix (longer xs ys) list
  longer_begins list xs ys p q = longer_at list xs ys p q (nat_lt (length xs) (length ys)) refl

  spent_fits : {list : List E} → Fits number_of list spent
  spent_fits {list} = record { begins = (list, refl); below = omega arith; mine = λ k p m. absurd (no_zero k p m); lists = no_lists spent [] refl; later = λ p. absurd (omega arith) }

  joined_fits : (list : List E) (v w : View E) → Fits number_of list v → Fits number_of list w → Fits number_of list (joining v w)
  joined_fits list v w f g = let b = longer_begins list v.seen w.seen f.begins g.begins in let all : List E = longer v.seen w.seen in
      let from_v : (k : ℕ) → 0 < k → Among k (numbers_of v) → of number_of k all ≡ of number_of k v.seen = λ k p m. of_between number_of k v.seen all list b.0 b.2 (f.mine k p m) in
      let from_w : (k : ℕ) → 0 < k → Among k (numbers_of w) → of number_of k all ≡ of number_of k w.seen = λ k p m. of_between number_of k w.seen all list b.1 b.2 (g.mine k p m) in
      record {
        begins = b.2;
        below = let x = f.below in let y = g.below in omega arith;
        mine = λ k p m. ⊎_elim (λ l. f.mine k p l ∙ sym (from_v k p l)) (λ l. g.mine k p l ∙ sym (from_w k p l)) (among_append k (numbers_of v) (numbers_of w) m);
        lists = two_lists (joining v w) ((numbers_of v), v.seen) ((numbers_of w), w.seen) (b.0, from_v) (b.1, from_w);
        later = f.later;
      }

  pub joins : (id : ℕ) (v : View E) (other : ℕ) (w : View E) → v.holds ≡ false → w.holds ≡ false → Joins Holds id v other w (joining v w) spent
  joins id v other w free free' s r at ne at' =
      let vs : List (View E) = set (set s.views id (joining v w)) other spent in
      let at'' : get_elem? s.views other ≡ some w = sym (set_else s.views id other (joining v w) ne) ∙ at' in
      let f = r.fits id v at in let g = r.fits other w at'' in
      -- a view is the spent one, the joined one, or one that was there
      let which : (j : ℕ) (u : View E) → get_elem? vs j ≡ some u → ((j ≡ other) × (spent ≡ u)) ⊎ (((j ≡ id) × (joining v w ≡ u)) ⊎ ((j ≢ id) × (j ≢ other) × (get_elem? s.views j ≡ some u))) =
      λ j u e. ⊎_elim (λ t. inl t) (λ t. ⊎_elim (λ y. inr (inl y)) (λ y. inr (inr (y.0, t.0, y.1))) (at_set s.views id j (joining v w) u t.1)) (at_set (set s.views id (joining v w)) other j spent u e) in
      -- an old view that has the number
      let source : (j : ℕ) (u : View E) → get_elem? vs j ≡ some u → (k : ℕ) → 0 < k → Among k (numbers_of u) → (i : ℕ) × (z : View E) × (get_elem? s.views i ≡ some z) × Among k (numbers_of z) × (((i ≡ j) × (j ≢ other)) ⊎ ((i ≡ other) × (j ≡ id))) =
      λ j u e k p m. ⊎_elim (λ t. absurd (no_zero k p (subst (λ (z : View E). Among k (numbers_of z)) (sym t.1) m))) (λ t. ⊎_elim
      (λ y. ⊎_elim (λ l. (id, v, at, l, inl (sym y.0, (λ same. ne (sym same ∙ y.0))))) (λ l. (other, w, at'', l, inr (refl, y.0))) (among_append k (numbers_of v) (numbers_of w) (subst (λ (z : View E). Among k (numbers_of z)) (sym y.1) m)))
      (λ y. (j, u, y.2, m, inl (refl, y.1))) t) (which j u e) in
      -- an old view that hands out numbers
      let keeper : (j : ℕ) (u : View E) → get_elem? vs j ≡ some u → 0 < u.next → (z : View E) × (get_elem? s.views j ≡ some z) × (z.next ≡ u.next) =
      λ j u e p. ⊎_elim (λ t. let n : 0 ≡ u.next = ap (λ (z : View E). z.next) t.1 in absurd (omega arith)) (λ t. ⊎_elim
      (λ y. (v, ap (get_elem? s.views) y.0 ∙ at, ap (λ (z : View E). z.next) y.1)) (λ y. (u, y.2, refl)) t) (which j u e) in
      placed s r vs record {
        list = r.list;
        phase = r.phase;
        words = refl;
        homes = refl;
        turn = joins_turn s.views r.list id other v w at at'' free free' r.phase r.turn;
        marked = r.marked;
        low = λ j u e. ⊎_elim (λ t. subst (λ (z : View E). z.number ≤ callers) t.1 (omega arith)) (λ t. ⊎_elim (λ y. subst (λ (z : View E). z.number ≤ callers) y.1 (r.low id v at)) (λ y. r.low j u y.2) t) (which j u e);
        fits = λ j u e. ⊎_elim (λ t. subst (Fits number_of r.list) t.1 spent_fits) (λ t. ⊎_elim (λ y. subst (Fits number_of r.list) y.1 (joined_fits r.list v w f g)) (λ y. r.fits j u y.2) t) (which j u e);
        apart = λ i j a b ea eb k p ka kb.
            let x = source i a ea k p ka in
            let y = source j b eb k p kb in
            let same = r.apart x.0 y.0 x.1 y.1 x.2 y.2 k p x.3 y.3 in
            ⊎_elim (λ l. ⊎_elim (λ m. sym l.0 ∙ (same ∙ m.0)) (λ m. absurd (l.1 (sym l.0 ∙ (same ∙ m.0)))) y.4) (λ l. ⊎_elim (λ m. absurd (m.1 (sym m.0 ∙ (sym same ∙ l.0)))) (λ m. l.1 ∙ sym m.1) y.4) x.4;
        hands = λ i j a b ea eb pos.
            let x = keeper i a ea pos in (
              (λ k p kb. let y = source j b eb k p kb in let low = (r.hands i y.0 x.0 y.1 x.1 y.2 (let n = x.2 in omega arith)).0 k p y.3 in let n = x.2 in omega arith),
              (λ p. let y = keeper j b eb p in (r.hands i j x.0 y.0 x.1 y.1 (let n = x.2 in omega arith)).1 (let n = y.2 in omega arith)),
            );
      }

  pub opens : (n : ℕ) (x : T) → All (λ e. number_of e ≡ 0) (told x) → Holds (opening (length (told x) ∷ 0 ∷ []) (Some x ∷ []) (maker (told x) n))
  opens n x bare = let first : View E = maker (told x) n in record {
    list = told x;
    phase = home x;
    words = refl;
    homes = refl;
    turn = (refl, λ j u e. ap (λ (z : View E). z.holds) (sym (at_one first j u e).1));
    marked = λ k d h. let zero_at = bare k d h in omega arith;
    low = λ j u e. subst (λ (z : View E). z.number ≤ callers) (at_one first j u e).1 (omega arith);
    fits = λ j u e. subst (Fits number_of (told x)) (at_one first j u e).1 record { begins = prefix_self (told x); below = omega arith; mine = λ k p m. refl; lists = no_lists first [] refl; later = λ p k le. of_bare number_of k (told x) (omega arith) bare };
    apart = λ i j a b ea eb k p ka kb. (at_one first i a ea).0 ∙ sym (at_one first j b eb).0;
    hands = λ i j a b ea eb pos. ((λ k p kb. absurd (no_zero k p (subst (λ (z : View E). Among k (numbers_of z)) (sym (at_one first j b eb).1) kb))), λ p. (at_one first i a ea).0 ∙ sym (at_one first j b eb).0);
  }

  -- a view that has seen the same, with no number and no share
  watches_at : (id : ℕ) (v : View E) (s : St) (r : Holds s) → get_elem? s.views id ≡ some v
      → Holds record { words = length r.list ∷ word_of r.phase ∷ []; homes = home_of r.phase ∷ []; views = set s.views id v ++ watching v ∷ [] }
  watches_at id v s r at = let f = r.fits id v at in
      let c = changed s r id v v at refl (le_refl v.next) (λ p. p) r.list r.marked r.phase (stays_turned r.list s.views id v v at refl refl r.phase r.turn) f (λ j u ne e. r.fits j u e) in
      added record { words = length r.list ∷ word_of r.phase ∷ []; homes = home_of r.phase ∷ []; views = set s.views id v } c (watching v)
      record { begins = f.begins; below = f.below; mine = λ k p m. absurd (no_zero k p m); lists = no_lists (watching v) [] refl; later = λ p. absurd (omega arith) } (omega arith) refl refl
      (λ j u e k p m n. no_zero k p m) (λ j u e p k q m. absurd (no_zero k q m))

  pub watches : (id : ℕ) (v : View E) → Splits Holds id v v (watching v)
  watches id v s r at = placed s r (set s.views id v ++ watching v ∷ []) (watches_at id v s r at)
