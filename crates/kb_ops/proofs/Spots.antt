-- An index keeps up with its tree.
use Rattle.std.proofs.Common.{◌≡◌, ◌≢◌, ℕ, Bool, true, false, List, [], ◌∷◌, map, cond, Option, Some, None, IsSome, is_some, zero, suc, inl, inr, refl, sym, ap, subst, ◌∙◌}
use mathlib.Core.Bool.{true≢false}
use Rattle.std.specs.Prelude.{T}
use Rattle.std.specs.List.{insert}
use Rattle.std.specs.declared.cmp.Ordering.{Ordering}
use Rattle.std.specs.declared.cmp.Ordering.TheVariants.{Less, Equal, Greater}
use Rattle.std.specs.Ordering.{nat_cmp, eq_by_cmp, is_eq}
use Rattle.std.specs.Cmp.{IsTotalOrder, eq_by_cmp_equiv}
use Rattle.std.specs.Cmp.Lexicographic.{slice_cmp, nat_list_cmp_total}
use Rattle.std.proofs.lemmas.Cmp.{on_total, then_total}
use Rattle.std.proofs.lemmas.Map.Lookups.{exact_pairs, exact_bytes}
use Rattle.std.specs.FinMap as map
use Rattle.std.specs.FinMap.Entries as entries
use Rattle.kb_name.specs.declared.ids.NodeId.{NodeId}
use Rattle.kb_ops.specs.declared.rows.Row.{Row}
use Rattle.kb_name.specs.Nodes.{root, node_cmp}
use Rattle.kb_ops.specs.Rows.{FitsNew}
use Rattle.kb_ops.specs.Trees.{Tree, look, IsWellFormed}
use Rattle.kb_ops.specs.Find.{child}
use Rattle.kb_ops.specs.Sorted.{place_in_order}
use Rattle.kb_ops.specs.Spots.{Spot, spot_cmp, spot_of, spotted, AreThere, IsIndex}
use Rattle.kb_ops.proofs.Nodes.{node_cases}
use Rattle.kb_ops.proofs.Looks.{nodes_total, exact_nodes, look-insert}
use Rattle.kb_ops.proofs.Kept.{set_cases, some_and}
use Rattle.kb_ops.proofs.TreeKept.{new_kept}
use Rattle.kb_ops.proofs.Children.{child_stands, child_by}
use Rattle.kb_ops.proofs.Sorted.{put_new, map-insert}

pub spots_total : IsTotalOrder spot_cmp
spots_total = then_total (on_total (λ (s : Spot). s.0) nodes_total) (on_total (λ (s : Spot). s.1) nat_list_cmp_total)

pub exact_spots : map.IsAntisymmetric spot_cmp
exact_spots = exact_pairs node_cmp (slice_cmp nat_cmp) exact_nodes exact_bytes

tie_is : (a b : Spot) → eq_by_cmp spot_cmp a b ≡ true → a ≡ b
tie_is a b h = exact_spots a b (equal_is (spot_cmp a b) h)
  where
    equal_is : (r : Ordering) → is_eq r ≡ true → r ≡ Equal
    equal_is Less g = absurd (true≢false (sym g))
    equal_is Equal g = refl
    equal_is Greater g = absurd (true≢false (sym g))

is_true : (b : Bool) → T b → b ≡ true
is_true true h = refl
is_true false h = absurd h

-- two answers that imply each other are one
same_options : {A : Type 0} (a b : Option A) → ((x : A) → a ≡ Some x → b ≡ Some x) → ((x : A) → b ≡ Some x → a ≡ Some x) → a ≡ b
same_options (Some x) b f g = sym (f x refl)
same_options None (Some y) f g = g y refl
same_options None None f g = refl

module _ (t : Tree) (row : Row) (w : IsWellFormed t) (fits : FitsNew (look t) row) where
  abbrev with_row : Tree
  with_row = map.insert t row.id row

  not_root : row.id ≢ root
  not_root e = let r = some_and _ (look t root) w.rooted in let some : look t row.id ≡ Some r.0 = ap (look t) e ∙ r.1 in let none : look t row.id ≡ None = fits.new in cc

  -- the new row is the child of its place
  child_here : child with_row row.parent row.name ≡ Some row.id
  child_here = child_by with_row (new_kept t row w fits) row.parent row.name row.id (record {
    row = row;
    found = (look-insert t row.id row).here;
    not_root = not_root;
    parent_is = refl;
    name_is = refl;
  })

  child_other : (k : Spot) → k ≢ (row.parent, row.name) → child with_row k.0 k.1 ≡ child t k.0 k.1
  child_other k off = same_options _ _
      (λ x e.
      let s = child_stands with_row (new_kept t row w fits) k.0 k.1 x e in
      elim (set_cases (look t) (look with_row) row.id row (look-insert t row.id row) x s.row s.found) [
        | inl at ↦ absurd (off (λ i. ((sym s.parent_is ∙ ap (λ (r : Row). r.parent) at.1) i, (sym s.name_is ∙ ap (λ (r : Row). r.name) at.1) i)))
        | inr at ↦ child_by t w k.0 k.1 x (record { row = s.row; found = at.1; not_root = s.not_root; parent_is = s.parent_is; name_is = s.name_is })
      ])
      (λ x e.
      let s = child_stands t w k.0 k.1 x e in
      child_by with_row (new_kept t row w fits) k.0 k.1 x (record { row = s.row; found = (look-insert t row.id row).others x (other x s.row s.found) ∙ s.found; not_root = s.not_root; parent_is = s.parent_is; name_is = s.name_is }))
    where
      other : (x : NodeId) (r : Row) → look t x ≡ Some r → x ≢ row.id
      other x r found e = let none : look t x ≡ None = ap (look t) e ∙ fits.new in cc

  spotted_same : (ids : List NodeId) → AreThere t ids → map (spotted with_row) ids ≡ map (spotted t) ids
  spotted_same [] h = refl
  spotted_same (q ∷ ids) h =
      let ne : q ≢ row.id = λ e. true≢false (sym h.0 ∙ ap is_some (ap (look t) e ∙ fits.new)) in
      λ i. (spot_of ((look-insert t row.id row).others q ne i), q) ∷ spotted_same ids h.1 i

  still_there : (q : NodeId) → IsSome (look t q) → IsSome (look with_row q)
  still_there q h = elim (node_cases q row.id) [
    | inl e ↦ ap is_some (ap (look with_row) e ∙ (look-insert t row.id row).here)
    | inr ne ↦ ap is_some ((look-insert t row.id row).others q ne) ∙ h
  ]

  all_there : (ids : List NodeId) → AreThere t ids → AreThere with_row ids
  all_there [] h = tt
  all_there (q ∷ ids) h = (still_there q h.0, all_there ids h.1)

  there_insert : (ids : List NodeId) (n : ℕ) → AreThere t ids → AreThere with_row (insert ids n row.id)
  there_insert ids zero h = (ap is_some (look-insert t row.id row).here, all_there ids h)
  there_insert [] (suc n) h = (ap is_some (look-insert t row.id row).here, tt)
  there_insert (q ∷ ids) (suc n) h = (still_there q h.0, there_insert ids n h.1)

  pub index_insert : (ids : List NodeId) → IsIndex t ids → IsIndex with_row (insert ids (place_in_order spot_cmp (row.parent, row.name) (map (spotted t) ids)) row.id)
  index_insert ids x = record {
    there = there_insert ids _ x.there;
    rise = is_true _ (subst (λ es. T (entries.is_sorted spot_cmp es)) put_is (entries.is_sorted-put spot_cmp spots_total k row.id es (subst T (sym x.rise) tt)));
    gives = λ q. ap (entries.find spot_cmp q) (sym put_is) ∙ entries.find-put spot_cmp spots_total q k row.id es ∙ ap (cond (eq_by_cmp spot_cmp q k) (Some row.id)) (x.gives q) ∙ answers q;
  }
    where
      k : Spot
      k = (row.parent, row.name)

      es : List (Spot × NodeId)
      es = map (spotted t) ids

      free : entries.find spot_cmp k es ≡ None
      free = x.gives k ∙ no_child (child t row.parent row.name) refl
        where
          no_child : (o : Option NodeId) → child t row.parent row.name ≡ o → o ≡ None
          no_child None e = refl
          no_child (Some q) e = let s = child_stands t w row.parent row.name q e in absurd (fits.free q s.row s.found s.not_root s.parent_is s.name_is)

      put_is : entries.put spot_cmp k row.id es ≡ map (spotted with_row) (insert ids (place_in_order spot_cmp k es) row.id)
      put_is =
          put_new spot_cmp spots_total exact_spots k row.id es free
          ∙ ap (λ l. insert l (place_in_order spot_cmp k es) (k, row.id)) (sym (spotted_same ids x.there))
          ∙ ap (λ o. insert (map (spotted with_row) ids) (place_in_order spot_cmp k es) (spot_of o, row.id)) (sym (look-insert t row.id row).here)
          ∙ sym (map-insert (spotted with_row) ids (place_in_order spot_cmp k es) row.id)

      answers : (q : Spot) → cond (eq_by_cmp spot_cmp q k) (Some row.id) (child t q.0 q.1) ≡ child with_row q.0 q.1
      answers q = elim (eq_by_cmp spot_cmp q k) as (λ b. eq_by_cmp spot_cmp q k ≡ b → cond b (Some row.id) (child t q.0 q.1) ≡ child with_row q.0 q.1) [
        | true ↦ λ e. sym (ap (λ (s : Spot). child with_row s.0 s.1) (tie_is q k e) ∙ child_here)
        | false ↦ λ e. sym (child_other q (λ p. true≢false (sym (ap (eq_by_cmp spot_cmp q) (sym p) ∙ (eq_by_cmp_equiv spots_total).refl q) ∙ e)))
      ] refl
