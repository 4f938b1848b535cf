-- Marking along walks gives what is kept.
use Rattle.std.proofs.Common.{◌≡◌, ◌≢◌, ℕ, zero, suc, ◌+◌, ◌≤◌, ◌<◌, Bool, true, false, List, [], ◌∷◌, map, length, set, if◌then◌else◌, Some, ◌⊎◌, inl, inr, nat_eq, slice_get, get_or, refl, sym, ap, subst, ◌∙◌, arith}
use mathlib.Core.Bool.{true≢false}
use borrow.Author.Tests.{eqb-true}
use Rattle.std.specs.Option.{option_and_then, unwrap_or}
use Rattle.std.proofs.lemmas.List.{get_or-set_same, get_or-set_other, length-set, length-map}
use Rattle.std.proofs.lemmas.Option.{slice_get_within}
use Rattle.kb_name.specs.declared.ids.NodeId.{NodeId}
use Rattle.kb_name.specs.Nodes.{root, same_node}
use Rattle.kb_ops.specs.declared.rows.Row.{Row}
use Rattle.kb_ops.specs.Rows.{meets}
use Rattle.kb_ops.proofs.Nodes.{node_is, node_self}
use Rattle.kb_ops.proofs.Kept.{some_and}
use Rattle.kb_ops.proofs.Walks.{meets_from}
use Rattle.kb_rules.specs.Three.{Three, stays}
use Rattle.kb_rules.specs.Places.{seat, is_kept}
use Rattle.kb_rules.specs.Ready.{CanMerge}
use Rattle.kb_rules.specs.declared.sides.Sides.{Sides}
use Rattle.kb_rules.specs.Code.{three_in, AreSides, seat_in, stays_in, kept_in, ascend, place_in, up_of, mark}
use Rattle.kb_rules.proofs.Basics.{bool_cases, not_both, when, unless}
use Rattle.kb_rules.proofs.Ids.{stands_once, in_get}
use Rattle.kb_rules.proofs.Reaching.{seat_reaches, root_row_seat}
use Rattle.kb_rules.proofs.Keeps.{kept_least, stays_kept, kept_parent, kept_there, root_kept}
use Rattle.kb_rules.proofs.Tables.{at_map, seat_in_ids, parent_in_ids}
use Rattle.kb_rules.proofs.Positions.{place_got}
use Rattle.kb_rules.proofs.Climbs.{placed_at, same_bools}

abbrev pub flag : List Bool → ℕ → Bool
flag kept i = get_or kept i false

flag_within : (kept : List Bool) (i : ℕ) → flag kept i ≡ true → i < length kept
flag_within [] i h = absurd (true≢false (sym h))
flag_within (b ∷ kept) zero h = omega arith
flag_within (b ∷ kept) (suc i) h = let rest = flag_within kept i h in omega (arith, rest)

-- within the table the value past it doesn't matter
flag_any : (kept : List Bool) (i : ℕ) → i < length kept → get_or kept i true ≡ flag kept i
flag_any [] i lt = absurd (omega (arith, lt))
flag_any (b ∷ kept) zero lt = refl
flag_any (b ∷ kept) (suc i) lt = flag_any kept i (omega (arith, lt))

set_here : (kept : List Bool) (i : ℕ) → i < length kept → flag (set kept i true) i ≡ true
set_here kept i lt = get_or-set_same kept i true false lt

set_other : (kept : List Bool) (i j : ℕ) → j ≢ i → flag (set kept i true) j ≡ flag kept j
set_other kept i j ne = get_or-set_other kept i j true false ne

pub place_cases : (i j : ℕ) → (i ≡ j) ⊎ (i ≢ j)
place_cases i j = elim (bool_cases (nat_eq i j)) [ inl e ↦ inl (eqb-true i j e) | inr e ↦ inr (λ z. true≢false (sym (ap (nat_eq i) (sym z) ∙ self i) ∙ e)) ]
  where
    self : (i : ℕ) → nat_eq i i ≡ true
    self i = borrow.Author.Tests.eq-eqb i i refl

set_keeps : (kept : List Bool) (i j : ℕ) → i < length kept → flag kept j ≡ true → flag (set kept i true) j ≡ true
set_keeps kept i j lt h = elim (place_cases j i) [
  | inl e ↦ ap (flag (set kept i true)) e ∙ set_here kept i lt
  | inr ne ↦ set_other kept i j ne ∙ h
]

module _ (n m : ℕ) (t : Three) (can : CanMerge n m t) (rise : ascend t.ids ≡ true) where
  abbrev pub ups : List ℕ
  ups = map (up_of t.ids (seat t)) t.ids

  abbrev pub next : ℕ → ℕ
  next i = get_or ups i (length ups)

  -- what is marked is kept, and what it leads to is marked, or is this place
  pub record Sound (kept : List Bool) : Type 0 where
    pub long : length kept ≡ length t.ids
    pub kept_are : (i : ℕ) (q : NodeId) → slice_get t.ids i ≡ Some q → flag kept i ≡ true → is_kept t q ≡ true
    pub top : (i : ℕ) → slice_get t.ids i ≡ Some root → flag kept i ≡ true

  abbrev pub Closed : List Bool → Type 0
  Closed kept = (i : ℕ) → flag kept i ≡ true → flag kept (next i) ≡ true

  abbrev ClosedBut : List Bool → ℕ → Type 0
  ClosedBut kept at = (i : ℕ) → flag kept i ≡ true → (flag kept (next i) ≡ true) ⊎ (next i ≡ at)

  -- the place that a row leads to is its parent's
  pub next_is : (i : ℕ) (q : NodeId) (r : Row) → slice_get t.ids i ≡ Some q → seat t q ≡ Some r → slice_get t.ids (next i) ≡ Some r.parent
  next_is i q r at h =
      let up : next i ≡ unwrap_or (place_in t.ids r.parent) (length t.ids) = at_map (up_of t.ids (seat t)) t.ids i q (length ups) at ∙ ap (λ o. unwrap_or (option_and_then (λ (s : Row). place_in t.ids s.parent) o) (length t.ids)) h in
      place_got r.parent t.ids (next i) (placed_at t.ids r.parent (next i) (parent_in_ids n m t can q r h) up)

  root_seat : (top : Row) × (seat t root ≡ Some top) × (top.parent ≡ root)
  root_seat = let a = some_and _ (t.merged root) can.merged.rooted in (a.0, root_row_seat n m t can ∙ a.1, a.2.1)

  pub record Marked (kept new : List Bool) (at : ℕ) : Type 0 where
    pub sound : Sound new
    pub closed : Closed new
    pub keeps : (i : ℕ) → flag kept i ≡ true → flag new i ≡ true
    pub here : flag new at ≡ true

  whole : (kept : List Bool) (at : ℕ) → flag kept at ≡ true → Sound kept → ClosedBut kept at → Marked kept kept at
  whole kept at here sound closed = record { sound = sound; closed = λ i h. elim (closed i h) [ inl a ↦ a | inr z ↦ ap (flag kept) z ∙ here ]; keeps = λ i h. h; here = here }

  within : (kept : List Bool) (at : ℕ) (q : NodeId) → Sound kept → slice_get t.ids at ≡ Some q → at < length kept
  within kept at q sound is = subst (λ l. at < l) (sym sound.long) (slice_get_within t.ids at q is)

  -- one more mark
  sound_set : (kept : List Bool) (at : ℕ) (q : NodeId) → Sound kept → slice_get t.ids at ≡ Some q → is_kept t q ≡ true → Sound (set kept at true)
  sound_set kept at q sound is keep = record {
    long = length-set kept at true ∙ sound.long;
    kept_are = λ i p ip h. elim (place_cases i at) [
      | inl e ↦ let z : Some q ≡ Some p = sym is ∙ ap (slice_get t.ids) (sym e) ∙ ip in let same : q ≡ p = cc in ap (is_kept t) (sym same) ∙ keep
      | inr ne ↦ sound.kept_are i p ip (sym (set_other kept at i ne) ∙ h)
    ];
    top = λ i ip. set_keeps kept at i (within kept at q sound is) (sound.top i ip);
  }

  closed_set : (kept : List Bool) (at : ℕ) (q : NodeId) → Sound kept → slice_get t.ids at ≡ Some q → ClosedBut kept at → ClosedBut (set kept at true) (next at)
  closed_set kept at q sound is closed i h = elim (place_cases i at) [
    | inl e ↦ inr (ap next e)
    | inr ne ↦ elim (closed i (sym (set_other kept at i ne) ∙ h)) [
      | inl a ↦ inl (set_keeps kept at (next i) (within kept at q sound is) a)
      | inr z ↦ inl (ap (flag (set kept at true)) z ∙ set_here kept at (within kept at q sound is))
    ]
  ]

  -- marking along a walk that reaches the root within so many steps
  mark_walk : (k at : ℕ) (q : NodeId) (kept : List Bool) → Sound kept → ClosedBut kept at → slice_get t.ids at ≡ Some q → is_kept t q ≡ true → meets (seat t) root k q ≡ true → Marked kept (mark ups k at kept) at
  mark_walk zero at q kept sound closed is keep walk = whole kept at (sound.top at (is ∙ ap (λ x. Some x) (node_is q root walk))) sound closed
  mark_walk (suc k) at q kept sound closed is keep walk = elim (bool_cases (get_or kept at true)) [
    | inl e ↦ subst (λ new. Marked kept new at) (sym (when _ kept (mark ups k (next at) (set kept at true)) e)) (whole kept at (sym (flag_any kept at (within kept at q sound is)) ∙ e) sound closed)
    | inr e ↦
        let off : q ≢ root = λ z. not_both _ (flag_any kept at (within kept at q sound is) ∙ sound.top at (is ∙ ap (λ x. Some x) z)) e in
        let w = meets_from (seat t) root q k off walk in
        let lt = within kept at q sound is in
        let rest = mark_walk k (next at) w.0.parent (set kept at true) (sound_set kept at q sound is keep) (closed_set kept at q sound is closed) (next_is at q w.0 is w.1) (kept_parent n m t can q w.0 w.1 keep) w.2 in
        subst (λ new. Marked kept new at) (sym (unless _ kept (mark ups k (next at) (set kept at true)) e)) (record {
          sound = rest.sound;
          closed = rest.closed;
          keeps = λ i h. rest.keeps i (set_keeps kept at i lt h);
          here = rest.keeps at (set_here kept at lt);
        })
  ]

  -- once the rows before a place had their turn
  pub record AreMarked (kept : List Bool) (so_far : ℕ) : Type 0 where
    pub sound : Sound kept
    pub closed : Closed kept
    pub done : (i : ℕ) (q : NodeId) → i < so_far → slice_get t.ids i ≡ Some q → stays t q ≡ true → flag kept i ≡ true

  pub marked_at_first : (kept : List Bool) → kept ≡ map (λ q. same_node q root) t.ids → AreMarked kept 0
  marked_at_first kept are = record {
    sound = record { long = ap length are ∙ length-map t.ids (λ q. same_node q root); kept_are = λ i q is h. ap (is_kept t) (node_is q root (sym (root_at i q is) ∙ h)) ∙ root_kept n m t can; top = λ i is. root_at i root is ∙ node_self root };
    closed = λ i h. closed i (found i (subst (λ l. i < l) (ap length are ∙ length-map t.ids (λ q. same_node q root)) (flag_within kept i h))) h;
    done = λ i q lt is s. absurd (omega (arith, lt));
  }
    where
      root_at : (i : ℕ) (q : NodeId) → slice_get t.ids i ≡ Some q → flag kept i ≡ same_node q root
      root_at i q is = ap (λ l. flag l i) are ∙ at_map (λ q. same_node q root) t.ids i q false is

      found : (i : ℕ) → i < length t.ids → (q : NodeId) × (slice_get t.ids i ≡ Some q)
      found i lt = got t.ids i lt
        where
          got : (ids : List NodeId) (i : ℕ) → i < length ids → (q : NodeId) × (slice_get ids i ≡ Some q)
          got [] i lt = absurd (omega (arith, lt))
          got (x ∷ ids) zero lt = (x, refl)
          got (x ∷ ids) (suc i) lt = got ids i (omega (arith, lt))

      closed : (i : ℕ) → (q : NodeId) × (slice_get t.ids i ≡ Some q) → flag kept i ≡ true → flag kept (next i) ≡ true
      closed i w h =
          let top : w.0 ≡ root = node_is w.0 root (sym (root_at i w.0 w.1) ∙ h) in
          let s = root_seat in
          let up = next_is i root s.0 (w.1 ∙ ap (λ x. Some x) top) s.1 in
          root_at (next i) root (up ∙ ap (λ x. Some x) s.2) ∙ node_self root

  pub marked_next : (kept new : List Bool) (so_far : ℕ) (q : NodeId) (stay : Bool) → AreMarked kept so_far → slice_get t.ids so_far ≡ Some q → stay ≡ stays t q → new ≡ (if stay then mark ups (length ups) so_far kept else kept) → AreMarked new (so_far + 1)
  marked_next kept new so_far q stay are is same e = elim (bool_cases stay) [
    | inl y ↦
        let keep = stays_kept n m t can q (sym same ∙ y) in
        let row = kept_there n m t can q keep in
        let walk : meets (seat t) root (length ups) q ≡ true = ap (λ k. meets (seat t) root k q) (length-map t.ids (up_of t.ids (seat t))) ∙ seat_reaches n m t can q row.0 row.1 in
        let w = mark_walk (length ups) so_far q kept are.sound (λ i h. inl (are.closed i h)) is keep walk in
        subst (λ k. AreMarked k (so_far + 1)) (sym (e ∙ when _ (mark ups (length ups) so_far kept) kept y)) (record {
          sound = w.sound;
          closed = w.closed;
          done = λ i p lt ip s. elim (place_cases i so_far) [ inl z ↦ ap (flag _) z ∙ w.here | inr ne ↦ w.keeps i (are.done i p (omega (arith, lt, ne)) ip s) ];
        })
    | inr y ↦ subst (λ k. AreMarked k (so_far + 1)) (sym (e ∙ unless _ (mark ups (length ups) so_far kept) kept y)) (record {
      sound = are.sound;
      closed = are.closed;
      done = λ i p lt ip s. elim (place_cases i so_far) [
        | inl z ↦ let b : Some q ≡ Some p = sym is ∙ ap (slice_get t.ids) (sym z) ∙ ip in let one : q ≡ p = cc in not_both _ (same ∙ ap (stays t) one ∙ s) y
        | inr ne ↦ are.done i p (omega (arith, lt, ne)) ip s
      ];
    })
  ]

  pub marked_all : (kept : List Bool) (so_far : ℕ) → length t.ids ≤ so_far → AreMarked kept so_far → kept ≡ map (is_kept t) t.ids
  marked_all kept so_far all are = by_flags kept t.ids are.sound.long (λ i q is. same_bools _ _ (are.sound.kept_are i q is) (λ k. reached q k i is))
    where
      reached : (q : NodeId) → is_kept t q ≡ true → (i : ℕ) → slice_get t.ids i ≡ Some q → flag kept i ≡ true
      reached = kept_least t (λ q. (i : ℕ) → slice_get t.ids i ≡ Some q → flag kept i ≡ true)
          (λ q s i is. let lt = slice_get_within t.ids i q is in are.done i q (omega (arith, lt, all)) is s)
          (λ q r h p i is.
          let w = in_get t.ids q (seat_in_ids n m t can q r h) in
          let up = next_is w.0 q r w.1 h in
          let same : next w.0 ≡ i = stands_once t.ids (next w.0) i r.parent rise up is in
          ap (flag kept) (sym same) ∙ are.closed w.0 (p w.0 w.1))

      by_flags : (kept : List Bool) (ids : List NodeId) → length kept ≡ length ids → ((i : ℕ) (q : NodeId) → slice_get ids i ≡ Some q → flag kept i ≡ is_kept t q) → kept ≡ map (is_kept t) ids
      by_flags [] [] l h = refl
      by_flags [] (q ∷ ids) l h = absurd (omega (arith, l))
      by_flags (b ∷ kept) [] l h = absurd (omega (arith, l))
      by_flags (b ∷ kept) (q ∷ ids) l h =
          let first : b ≡ is_kept t q = h 0 q refl in
          let rest = by_flags kept ids (omega (arith, l)) (λ i p e. h (suc i) p e) in
          λ i. first i ∷ rest i

-- the same of the code's words
pub first_marks : (s : Sides) → (a : AreSides s) → (kept : List Bool) → kept ≡ map (λ q. same_node q root) s.ids.now → AreMarked a.n a.m (three_in s) a.can a.ids kept 0
first_marks s a kept e = marked_at_first a.n a.m (three_in s) a.can a.ids kept e

pub next_marks : (s : Sides) → (a : AreSides s) → (ups : List ℕ) (kept new : List Bool) (i : ℕ) (d : NodeId) (stay : Bool) → ups ≡ map (up_of s.ids.now (seat_in s)) s.ids.now → AreMarked a.n a.m (three_in s) a.can a.ids kept i
    → i < length s.ids.now → stay ≡ stays_in s (get_or s.ids.now i d) → new ≡ (if stay then mark ups (length ups) i kept else kept) → AreMarked a.n a.m (three_in s) a.can a.ids new (i + 1)
unfolding seat_in stays_in
next_marks s a ups kept new i d stay up are lt same e = marked_next a.n a.m (three_in s) a.can a.ids kept new i (get_or s.ids.now i d) stay are (got s.ids.now i d lt) same (e ∙ (λ j. if stay then mark (up j) (length (up j)) i kept else kept))
  where
    got : (ids : List NodeId) (i : ℕ) (d : NodeId) → i < length ids → slice_get ids i ≡ Some (get_or ids i d)
    got [] i d lt = absurd (omega (arith, lt))
    got (x ∷ ids) zero d lt = refl
    got (x ∷ ids) (suc i) d lt = got ids i d (omega (arith, lt))

pub all_marks : (s : Sides) → (a : AreSides s) → (kept : List Bool) (i : ℕ) → length s.ids.now ≤ i → AreMarked a.n a.m (three_in s) a.can a.ids kept i → kept ≡ map (kept_in s) s.ids.now
unfolding kept_in
all_marks s a kept i past are = marked_all a.n a.m (three_in s) a.can a.ids kept i past are
