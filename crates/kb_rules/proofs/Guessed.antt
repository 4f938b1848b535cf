-- Which walks under the first guess reach the root, by places.
use Rattle.std.proofs.Common.{◌≡◌, ℕ, ◌+◌, ◌≤◌, Bool, true, List, map, length, Some, nat_eq, inl, inr, sym, ap, subst, ◌∙◌, arith}
use Rattle.std.specs.List.{range_with_len}
use Rattle.std.specs.Option.{unwrap_or}
use Rattle.std.proofs.lemmas.List.{length-map}
use Rattle.kb_name.specs.declared.ids.NodeId.{NodeId}
use Rattle.kb_name.specs.Nodes.{root}
use Rattle.kb_ops.specs.declared.rows.Row.{Row}
use Rattle.kb_ops.specs.Rows.{meets}
use Rattle.kb_ops.proofs.Kept.{some_and}
use Rattle.kb_ops.proofs.Walks.{IsAtMost}
use Rattle.kb_rules.specs.declared.sides.Sides.{Sides}
use Rattle.kb_rules.specs.Three.{Three}
use Rattle.kb_rules.specs.Places.{is_moved, guess}
use Rattle.kb_rules.specs.Ready.{is_in, CanMerge}
use Rattle.kb_rules.specs.Code.{three_in, AreSides, ascend, place_in, up_of, climb, IsFar, guess_in, reaches_in}
use Rattle.kb_rules.proofs.Basics.{bool_cases, when, unless, listed_most}
use Rattle.kb_rules.proofs.Reaching.{root_unmoved}
use Rattle.kb_rules.proofs.Tables.{root_in_ids}
use Rattle.kb_rules.proofs.Climbs.{far_meets, by_place, mapped, placed_at}

module _ (n m : ℕ) (t : Three) (can : CanMerge n m t) where
  guess_among : (q : NodeId) (r : Row) → guess t q ≡ Some r → is_in q t.ids ≡ true
  guess_among q r h = elim (bool_cases (is_moved t q)) [
    | inl e ↦ can.ours_in q r (sym (when _ (t.ours q) (t.merged q) e) ∙ h)
    | inr e ↦ can.merged_in q r (sym (unless _ (t.ours q) (t.merged q) e) ∙ h)
  ]

  guess_root : (top : Row) × (guess t root ≡ Some top) × (top.parent ≡ root)
  guess_root = let a = some_and _ (t.merged root) can.merged.rooted in (a.0, unless _ (t.ours root) (t.merged root) (root_unmoved n m t can) ∙ a.1, a.2.1)

  guess_most : IsAtMost (length t.ids) (guess t)
  guess_most = listed_most (length t.ids) t.ids (guess t) (omega arith) guess_among

  reached_by : ascend t.ids ≡ true → (ups ends : List ℕ) (are : List Bool) (at : ℕ) → ups ≡ map (up_of t.ids (guess t)) t.ids → IsFar ups ends → at ≡ unwrap_or (place_in t.ids root) (length t.ids) → are ≡ map (λ i. nat_eq i at) ends
      → are ≡ map (λ q. meets (guess t) root (length t.ids) q) t.ids
  reached_by rise ups ends are at up far placed is =
      let g = guess_root in
      let same : length ups ≡ length t.ids = ap length up ∙ length-map t.ids (up_of t.ids (guess t)) in
      is ∙ ap (map (λ i. nat_eq i at)) far.2
      ∙ mapped (λ i. nat_eq i at) (climb ups far.0) (range_with_len 0 (length ups))
      ∙ ap (λ n. map (λ i. nat_eq (climb ups far.0 i) at) (range_with_len 0 n)) same
      ∙ by_place (λ i. nat_eq (climb ups far.0 i) at) (λ q. meets (guess t) root (length t.ids) q) t.ids 0 (λ i q h.
      let z : 0 + i ≡ i = omega arith in
      ap (λ j. nat_eq (climb ups far.0 j) at) z
      ∙ ap (λ us. nat_eq (climb us far.0 i) at) up
      ∙ far_meets t.ids rise (guess t) guess_among g.0 g.1 g.2 at (placed_at t.ids root at (root_in_ids n m t can) placed) guess_most far.0 i q (subst (λ k. k ≤ far.0) (ap length up) far.1) h)

-- the table of the walks that reach the root
pub reached_is : (s : Sides) → AreSides s → (ups ends : List ℕ) (are : List Bool) (at : ℕ) → ups ≡ map (up_of s.ids.now (guess_in s)) s.ids.now → IsFar ups ends → at ≡ unwrap_or (place_in s.ids.now root) (length s.ids.now) → are ≡ map (λ i. nat_eq i at) ends → are ≡ map (reaches_in s) s.ids.now
unfolding guess_in reaches_in
reached_is s sides ups ends are at up far placed is = reached_by sides.n sides.m (three_in s) sides.can sides.ids ups ends are at up far placed is
