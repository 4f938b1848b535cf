-- What is kept is the least set that has what stays and, with each row, its parent.
use Rattle.std.proofs.Common.{◌≡◌, ◌≢◌, ℕ, zero, suc, true, length, ◌⊎◌, inl, inr, ◌&&◌, Some, sym, ap, subst, ◌∙◌}
use Rattle.kb_name.specs.declared.ids.NodeId.{NodeId}
use Rattle.kb_ops.specs.declared.rows.Row.{Row}
use Rattle.kb_name.specs.Nodes.{root}
use Rattle.kb_ops.specs.Rows.{Look, is_dir_row, meets}
use Rattle.kb_ops.proofs.Nodes.{node_is, node_self, node_cases}
use Rattle.kb_ops.proofs.Walks.{meets_here, meets_step, meets_from, meets_within, row_cases}
use Rattle.kb_ops.proofs.Kept.{dir_at, some_and}
use Rattle.kb_rules.specs.Three.{Three, stays_by, stays}
use Rattle.kb_rules.specs.Places.{seat, is_kept}
use Rattle.kb_rules.specs.Ready.{is_in, CanMerge}
use Rattle.kb_rules.proofs.Basics.{not_both, both, first_of_both, second_of_both, any_in, in_any}
use Rattle.kb_rules.proofs.Reaching.{seat_of_ours, seat_of_merged, parent_dir, dir_seat, seat_most, root_row_seat}

-- a walk that comes to a row comes to its parent
pub meets_beyond : (look : Look) (q : NodeId) (r : Row) → look q ≡ Some r → (k : ℕ) (s : NodeId) → meets look q k s ≡ true → meets look r.parent (suc k) s ≡ true
meets_beyond look q r is zero s h =
    let e = node_is s q h in
    subst (λ x. meets look r.parent (suc zero) x ≡ true) (sym e) (meets_step look r.parent q zero r is (node_self r.parent))
meets_beyond look q r is (suc k) s h = elim (node_cases s q) [
  | inl e ↦ subst (λ x. meets look r.parent (suc (suc k)) x ≡ true) (sym e) (meets_step look r.parent q (suc k) r is (meets_here look r.parent (suc k)))
  | inr ne ↦ let w = meets_from look q s k ne h in meets_step look r.parent s (suc k) w.0 w.1 (meets_beyond look q r is k w.0.parent w.2)
]

-- what goes up with the walk holds where it comes to
pub along : (look : Look) (P : NodeId → Type 0) → ((q : NodeId) (r : Row) → look q ≡ Some r → P q → P r.parent) → (q : NodeId) (k : ℕ) (s : NodeId) → P s → meets look q k s ≡ true → P q
along look P up q zero s h m = subst P (node_is s q m) h
along look P up q (suc k) s h m = elim (node_cases s q) [
  | inl e ↦ subst P e h
  | inr ne ↦ let w = meets_from look q s k ne m in along look P up q k w.0.parent (up s w.0 w.1 h) w.2
]

-- what stays is a row of merged or of ours
pub stays_there : (t : Three) (q : NodeId) → stays t q ≡ true → ((r : Row) × (t.merged q ≡ Some r)) ⊎ ((r : Row) × (t.ours q ≡ Some r))
stays_there t q h = elim (row_cases t.merged q) [
  | inl w ↦ inl w
  | inr m ↦ elim (row_cases t.ours q) [
    | inl w ↦ inr w
    | inr u ↦ not_both _ h (λ i. stays_by (m i) (u i) (t.base q))
  ]
]

pub kept_least : (t : Three) (P : NodeId → Type 0) → ((q : NodeId) → stays t q ≡ true → P q) → ((q : NodeId) (r : Row) → seat t q ≡ Some r → P q → P r.parent) → (q : NodeId) → is_kept t q ≡ true → P q
kept_least t P has up q h =
    let w = any_in (λ s. stays t s && meets (seat t) q (length t.ids) s) t.ids h in
    along (seat t) P up q (length t.ids) w.0 (has w.0 (first_of_both _ _ w.2)) (second_of_both _ _ w.2)

module _ (n m : ℕ) (t : Three) (can : CanMerge n m t) where
  pub stays_kept : (q : NodeId) → stays t q ≡ true → is_kept t q ≡ true
  stays_kept q h =
      let in' : is_in q t.ids ≡ true = elim (stays_there t q h) [ inl w ↦ can.merged_in q w.0 w.1 | inr w ↦ can.ours_in q w.0 w.1 ] in
      in_any (λ s. stays t s && meets (seat t) q (length t.ids) s) t.ids q in' (both _ _ h (meets_here (seat t) q (length t.ids)))

  pub both_stay : (q : NodeId) (r s : Row) → t.merged q ≡ Some r → t.ours q ≡ Some s → stays t q ≡ true
  both_stay q r s e f = λ i. stays_by (e i) (f i) (t.base q)

  pub root_kept : is_kept t root ≡ true
  root_kept = let a = some_and _ (t.merged root) can.merged.rooted in let b = some_and _ (t.ours root) can.ours.rooted in stays_kept root (both_stay root a.0 b.0 a.1 b.1)

  pub kept_parent : (q : NodeId) (r : Row) → seat t q ≡ Some r → is_kept t q ≡ true → is_kept t r.parent ≡ true
  kept_parent q r is h =
      let w = any_in (λ s. stays t s && meets (seat t) q (length t.ids) s) t.ids h in
      let on = meets_beyond (seat t) q r is (length t.ids) w.0 (second_of_both _ _ w.2) in
      in_any (λ s. stays t s && meets (seat t) r.parent (length t.ids) s) t.ids w.0 w.1
      (both _ _ (first_of_both _ _ w.2) (meets_within (length t.ids) (seat t) (seat_most n m t can) r.parent w.0 (suc (length t.ids)) on))

  -- the parent of a place has a place, as a Dir
  pub parent_there : (q : NodeId) (r : Row) → q ≢ root → seat t q ≡ Some r → (p : Row) × (seat t r.parent ≡ Some p) × (is_dir_row p ≡ true)
  parent_there q r off h =
      let d = parent_dir n m t can q r off h in
      let w : (p : Row) × (seat t r.parent ≡ Some p) = elim d [
        | inl x ↦ let a = dir_at t.merged r.parent x in seat_of_merged t r.parent a.0 a.1
        | inr x ↦ let a = dir_at t.ours r.parent x in seat_of_ours t r.parent a.0 a.1
      ] in
      (w.0, w.1, dir_seat n m t can r.parent w.0 w.1 d)

  pub kept_there : (q : NodeId) → is_kept t q ≡ true → (r : Row) × (seat t q ≡ Some r)
  kept_there = kept_least t (λ q. (r : Row) × (seat t q ≡ Some r))
      (λ q h. elim (stays_there t q h) [ inl w ↦ seat_of_merged t q w.0 w.1 | inr w ↦ seat_of_ours t q w.0 w.1 ])
      (λ q r h _. elim (node_cases q root) [
        | inl e ↦
            let a = some_and _ (t.merged root) can.merged.rooted in
            let same : Some r ≡ Some a.0 = sym h ∙ ap (seat t) e ∙ root_row_seat n m t can ∙ a.1 in
            let is : r ≡ a.0 = cc in
            (r, ap (seat t) (ap (λ (x : Row). x.parent) is ∙ a.2.1 ∙ sym e) ∙ h)
        | inr off ↦ let p = parent_there q r off h in (p.0, p.1)
      ])
