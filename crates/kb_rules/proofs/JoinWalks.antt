-- Making joins known along walks gives what each row is joined to.
use Rattle.std.proofs.Common.{◌≡◌, ◌≢◌, ℕ, zero, suc, ◌+◌, ◌≤◌, ◌<◌, Bool, true, false, not, List, [], ◌∷◌, map, length, set, get_or, cond, Option, Some, None, is_some, inl, inr, ◌&&◌, slice_get, refl, sym, ap, subst, ◌∙◌, arith}
use Rattle.std.specs.Prelude.{find}
use Rattle.std.specs.Option.{option_and_then, unwrap_or}
use Rattle.std.proofs.lemmas.List.{get_or-set_same, get_or-set_other, length-set, length-map}
use Rattle.std.proofs.lemmas.Option.{slice_get_within}
use Rattle.kb_name.specs.declared.ids.NodeId.{NodeId}
use Rattle.kb_name.specs.Nodes.{root, same_node}
use Rattle.kb_ops.specs.declared.rows.Row.{Row}
use Rattle.kb_ops.specs.Rows.{meets}
use Rattle.kb_ops.proofs.Nodes.{node_is, node_self}
use Rattle.kb_ops.proofs.Kept.{some_and}
use Rattle.kb_ops.proofs.Walks.{meets_from}
use Rattle.kb_rules.specs.declared.sides.Sides.{Sides}
use Rattle.kb_rules.specs.Three.{Three}
use Rattle.kb_rules.specs.Places.{seat, is_kept}
use Rattle.kb_rules.specs.Joins.{takes, joined, into}
use Rattle.kb_rules.specs.Code.{three_in, AreSides, kept_in, merged_in, ours_in, seat_in, joined_in, up_of}
use Rattle.kb_rules.specs.Hosting.{Joins, takes_in, into_known, join_in, join_at, path_of, settle, settle_from, at_first, is_joined}
use Rattle.kb_rules.proofs.Basics.{bool_cases, not_both, second_of_both, when, unless, same_some, none_some}
use Rattle.kb_rules.proofs.Reaching.{seat_new, seat_reaches}
use Rattle.kb_rules.proofs.Keeps.{kept_there}
use Rattle.kb_rules.proofs.Joined.{next, no_row, joined_step, merged_stays, joins}
use Rattle.kb_rules.proofs.Tables.{at_map}
use Rattle.kb_rules.proofs.Marks.{place_cases}
use Rattle.kb_rules.proofs.Marks as marks

abbrev pub is_known : Joins → ℕ → Bool
is_known known i = is_some (get_or known i None)

-- within the table the value past it doesn't matter
known_any : (known : Joins) (i : ℕ) → i < length known → is_some (get_or known i (Some None)) ≡ is_known known i
known_any [] i lt = absurd (omega (arith, lt))
known_any (k ∷ known) zero lt = refl
known_any (k ∷ known) (suc i) lt = known_any known i (omega (arith, lt))

known_some : (o : Option (Option NodeId)) → is_some o ≡ true → (v : Option NodeId) × (o ≡ Some v)
known_some None h = not_both _ h refl
known_some (Some v) h = (v, refl)

into_is : (v : Option NodeId) (p : NodeId) → into_known (Some v) p ≡ unwrap_or v p
into_is None p = refl
into_is (Some a) p = refl

module _ (s : Sides) (sides : AreSides s) where
  abbrev t : Three
  t = three_in s

  abbrev ups : List ℕ
  ups = map (up_of t.ids (seat t)) t.ids

  abbrev up : ℕ → ℕ
  up i = get_or ups i (length ups)

  pub record AreKnown (known : Joins) : Type 0 where
    pub long : length known ≡ length t.ids
    pub right : (i : ℕ) (q : NodeId) (v : Option NodeId) → slice_get t.ids i ≡ Some q → get_or known i None ≡ Some v → v ≡ joined t q
    pub top : (i : ℕ) → slice_get t.ids i ≡ Some root → is_known known i ≡ true

  record Settled (known new : Joins) (at : ℕ) : Type 0 where
    pub are : AreKnown new
    pub keeps : (i : ℕ) → is_known known i ≡ true → is_known new i ≡ true
    pub here : is_known new at ≡ true

  -- what is found for a row by what is known of its parent is what it is joined to
  join_right : (q : NodeId) (r : Row) (v : Option NodeId) → seat t q ≡ Some r → v ≡ joined t r.parent → join_in s (Some v) q ≡ joined t q
  unfolding kept_in merged_in ours_in takes_in
  join_right q r v at is = choose (is_kept t q && not (is_some (t.merged q))) refl ∙ sym (joined_step sides.n sides.m t sides.can q)
    where
      choose : (c : Bool) → (is_kept t q && not (is_some (t.merged q))) ≡ c
          → cond (is_kept t q && not (is_some (t.merged q))) (option_and_then (λ (b : Row). find (takes t b (into_known (Some v) b.parent)) t.ids) (t.ours q)) None ≡ next t (into t) q
      choose false e = unless _ _ None e ∙ sym (unless _ _ None e)
      choose true e = when _ _ None e ∙ row (t.ours q) refl ∙ sym (when _ _ None e)
        where
          row : (o : Option Row) → t.ours q ≡ o → option_and_then (λ (b : Row). find (takes t b (into_known (Some v) b.parent)) t.ids) (t.ours q) ≡ option_and_then (λ (b : Row). find (takes t b (into t b.parent)) t.ids) (t.ours q)
          row None h = ap (option_and_then (λ (b : Row). find (takes t b (into_known (Some v) b.parent)) t.ids)) h ∙ sym (ap (option_and_then (λ (b : Row). find (takes t b (into t b.parent)) t.ids)) h)
          row (Some b) h =
              let none = no_row (t.merged q) (second_of_both (is_kept t q) (not (is_some (t.merged q))) e) in
              let same : b ≡ r = same_some b r (seat t q) (seat_new t q b none h) at in
              let up : into_known (Some v) b.parent ≡ into t b.parent = into_is v b.parent ∙ ap (λ o. unwrap_or o b.parent) (is ∙ ap (λ (x : Row). joined t x.parent) (sym same)) in
              ap (option_and_then (λ (b : Row). find (takes t b (into_known (Some v) b.parent)) t.ids)) h
              ∙ ap (λ p. find (takes t b p) t.ids) up
              ∙ sym (ap (option_and_then (λ (b : Row). find (takes t b (into t b.parent)) t.ids)) h)

  within : (known : Joins) (at : ℕ) (q : NodeId) → AreKnown known → slice_get t.ids at ≡ Some q → at < length known
  within known at q are is = subst (λ l. at < l) (sym are.long) (slice_get_within t.ids at q is)

  set_known : (known : Joins) (at i : ℕ) (v : Option NodeId) → at < length known → is_known known i ≡ true → is_known (set known at (Some v)) i ≡ true
  set_known known at i v lt h = elim (place_cases i at) [
    | inl e ↦ ap (is_known (set known at (Some v))) e ∙ ap is_some (get_or-set_same known at (Some v) None lt)
    | inr ne ↦ ap is_some (get_or-set_other known at i (Some v) None ne) ∙ h
  ]

  written : (known : Joins) (at : ℕ) (q : NodeId) (v : Option NodeId) → AreKnown known → slice_get t.ids at ≡ Some q → v ≡ joined t q → Settled known (set known at (Some v)) at
  written known at q v are is e =
      let lt = within known at q are is in
      record {
        are = record {
          long = length-set known at (Some v) ∙ are.long;
          right = λ i p w ip h. elim (place_cases i at) [
            | inl z ↦
                let one : Some q ≡ Some p = sym is ∙ ap (slice_get t.ids) (sym z) ∙ ip in
                let same : q ≡ p = cc in
                let got : Some v ≡ Some w = sym (get_or-set_same known at (Some v) None lt) ∙ ap (λ j. get_or (set known at (Some v)) j None) (sym z) ∙ h in
                let value : v ≡ w = cc in
                sym value ∙ e ∙ ap (joined t) same
            | inr ne ↦ are.right i p w ip (sym (get_or-set_other known at i (Some v) None ne) ∙ h)
          ];
          top = λ i ip. set_known known at i v lt (are.top i ip);
        };
        keeps = λ i h. set_known known at i v lt h;
        here = ap is_some (get_or-set_same known at (Some v) None lt);
      }

  -- along a walk that reaches the root within so many steps
  settle_walk : (k at : ℕ) (q : NodeId) (known : Joins) → AreKnown known → slice_get t.ids at ≡ Some q → meets (seat t) root k q ≡ true → Settled known (settle s ups (path_of ups known k at) known) at
  settle_walk zero at q known are is walk = record { are = are; keeps = λ i h. h; here = are.top at (is ∙ ap (λ x. Some x) (node_is q root walk)) }
  settle_walk (suc k) at q known are is walk = elim (bool_cases (is_some (get_or known at (Some None)))) [
    | inl e ↦ subst (λ p. Settled known (settle s ups p known) at) (sym (when _ [] (at ∷ path_of ups known k (up at)) e)) (record { are = are; keeps = λ i h. h; here = sym (known_any known at (within known at q are is)) ∙ e })
    | inr e ↦
        let off : q ≢ root = λ z. not_both _ (known_any known at (within known at q are is) ∙ are.top at (is ∙ ap (λ x. Some x) z)) e in
        let w = meets_from (seat t) root q k off walk in
        let next_at = marks.next_is sides.n sides.m t sides.can sides.ids at q w.0 is w.1 in
        let rest = settle_walk k (up at) w.0.parent known are next_at w.2 in
        let before = settle s ups (path_of ups known k (up at)) known in
        let above = known_some (get_or before (up at) None) rest.here in
        let right = rest.are.right (up at) w.0.parent above.0 next_at above.1 in
        let value : join_at s ups before at ≡ joined t q = ap (option_and_then (join_in s (get_or before (up at) None))) is ∙ ap (λ a. join_in s a q) above.1 ∙ join_right q w.0 above.0 w.1 right in
        let last = written before at q (join_at s ups before at) rest.are is value in
        subst (λ p. Settled known (settle s ups p known) at) (sym (unless _ [] (at ∷ path_of ups known k (up at)) e)) (record { are = last.are; keeps = λ i h. last.keeps i (rest.keeps i h); here = last.here })
  ]

  -- once the rows before a place had their turn
  pub record AreSettled (known : Joins) (so_far : ℕ) : Type 0 where
    pub are : AreKnown known
    pub done : (i : ℕ) (q : NodeId) → i < so_far → slice_get t.ids i ≡ Some q → is_kept t q ≡ true → is_known known i ≡ true

  pub settled_first : (known : Joins) → known ≡ map at_first t.ids → AreSettled known 0
  settled_first known e = record {
    are = record {
      long = ap length e ∙ length-map t.ids at_first;
      right = λ i q v is h. root_alone q v (sym (value i q is) ∙ h);
      top = λ i is. ap is_some (value i root is) ∙ ap is_some (when {A = Option (Option NodeId)} _ (Some None) None (node_self root));
    };
    done = λ i q lt is k. absurd (omega (arith, lt));
  }
    where
      value : (i : ℕ) (q : NodeId) → slice_get t.ids i ≡ Some q → get_or known i None ≡ at_first q
      value i q is = ap (λ l. get_or l i None) e ∙ at_map at_first t.ids i q None is

      root_alone : (q : NodeId) (v : Option NodeId) → at_first q ≡ Some v → v ≡ joined t q
      root_alone q v h = elim (bool_cases (same_node q root)) [
        | inl y ↦
            let got : Some None ≡ Some v = sym (when _ (Some None) None y) ∙ h in
            let none : None ≡ v = cc in
            let a = some_and _ (t.merged root) sides.can.merged.rooted in
            sym none ∙ sym (ap (joined t) (node_is q root y) ∙ merged_stays t (length t.ids) root a.0 a.1)
        | inr y ↦ none_some v None refl (sym (unless _ (Some None) None y) ∙ h)
      ]

  pub settled_next : (known new : Joins) (so_far : ℕ) (q : NodeId) (keep : Bool) → AreSettled known so_far → slice_get t.ids so_far ≡ Some q → keep ≡ is_kept t q → new ≡ settle_from s ups keep so_far known → AreSettled new (so_far + 1)
  settled_next known new so_far q keep are is same e = elim (bool_cases keep) [
    | inl y ↦
        let row = kept_there sides.n sides.m t sides.can q (sym same ∙ y) in
        let walk : meets (seat t) root (length ups) q ≡ true = ap (λ k. meets (seat t) root k q) (length-map t.ids (up_of t.ids (seat t))) ∙ seat_reaches sides.n sides.m t sides.can q row.0 row.1 in
        let w = settle_walk (length ups) so_far q known are.are is walk in
        subst (λ k. AreSettled k (so_far + 1)) (sym (e ∙ when _ (settle s ups (path_of ups known (length ups) so_far) known) known y)) (record {
          are = w.are;
          done = λ i p lt ip k. elim (place_cases i so_far) [ inl z ↦ ap (is_known _) z ∙ w.here | inr ne ↦ w.keeps i (are.done i p (omega (arith, lt, ne)) ip k) ];
        })
    | inr y ↦ subst (λ k. AreSettled k (so_far + 1)) (sym (e ∙ unless _ (settle s ups (path_of ups known (length ups) so_far) known) known y)) (record {
      are = are.are;
      done = λ i p lt ip k. elim (place_cases i so_far) [
        | inl z ↦ let b : Some q ≡ Some p = sym is ∙ ap (slice_get t.ids) (sym z) ∙ ip in let one : q ≡ p = cc in not_both _ (same ∙ ap (is_kept t) one ∙ k) y
        | inr ne ↦ are.done i p (omega (arith, lt, ne)) ip k
      ];
    })
  ]

  pub settled_all : (known : Joins) (so_far : ℕ) → length t.ids ≤ so_far → AreSettled known so_far → map is_joined known ≡ map (joined t) t.ids
  settled_all known so_far all are = by_values known t.ids are.are.long (λ i q is. value i q is (get_or known i None) refl)
    where
      value : (i : ℕ) (q : NodeId) → slice_get t.ids i ≡ Some q → (o : Option (Option NodeId)) → get_or known i None ≡ o → is_joined (get_or known i None) ≡ joined t q
      value i q is (Some v) h = ap is_joined h ∙ are.are.right i q v is h
      value i q is None h = ap is_joined h ∙ elim (joined t q) as (λ o. joined t q ≡ o → None ≡ o) [
        | Some a ↦ λ e.
            let j = joins sides.n sides.m t sides.can q a e in
            let lt = slice_get_within t.ids i q is in
            not_both _ (are.done i q (omega (arith, lt, all)) is j.kept) (ap is_some h)
        | None ↦ λ e. refl
      ] refl

      by_values : (known : Joins) (ids : List NodeId) → length known ≡ length ids → ((i : ℕ) (q : NodeId) → slice_get ids i ≡ Some q → is_joined (get_or known i None) ≡ joined t q) → map is_joined known ≡ map (joined t) ids
      by_values [] [] l h = refl
      by_values [] (q ∷ ids) l h = absurd (omega (arith, l))
      by_values (k ∷ known) [] l h = absurd (omega (arith, l))
      by_values (k ∷ known) (q ∷ ids) l h =
          let first : is_joined k ≡ joined t q = h 0 q refl in
          let rest = by_values known ids (omega (arith, l)) (λ i p e. h (suc i) p e) in
          λ i. first i ∷ rest i

-- the same of the code's words
pub next_settled : (s : Sides) (a : AreSides s) (ups : List ℕ) (known new : Joins) (kept : List Bool) (i : ℕ) → ups ≡ map (up_of s.ids.now (seat_in s)) s.ids.now → kept ≡ map (kept_in s) s.ids.now → AreSettled s a known i → i < length s.ids.now → new ≡ settle_from s ups (get_or kept i false) i known → AreSettled s a new (i + 1)
unfolding seat_in kept_in
next_settled s a ups known new kept i up keep are lt e =
    let q = got s.ids.now i lt in
    settled_next s a known new i q.0 (get_or kept i false) are q.1 (ap (λ l. get_or l i false) keep ∙ at_map (is_kept (three_in s)) s.ids.now i q.0 false q.1) (e ∙ ap (λ us. settle_from s us (get_or kept i false) i known) up)
  where
    got : (ids : List NodeId) (i : ℕ) → i < length ids → (q : NodeId) × (slice_get ids i ≡ Some q)
    got [] i lt = absurd (omega (arith, lt))
    got (x ∷ ids) zero lt = (x, refl)
    got (x ∷ ids) (suc i) lt = got ids i (omega (arith, lt))

pub all_settled : (s : Sides) (a : AreSides s) (known : Joins) (i : ℕ) → length s.ids.now ≤ i → AreSettled s a known i → map is_joined known ≡ map (joined_in s) s.ids.now
unfolding joined_in
all_settled s a known i past are = settled_all s a known i past are
