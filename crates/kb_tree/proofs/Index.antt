-- The index by places keeps up with its tree.
use Rattle.std.proofs.Common.{◌≡◌, ◌≢◌, ℕ, zero, suc, Bool, true, false, not, List, [], ◌∷◌, map, cond, Option, Some, None, IsSome, is_some, ◌⊎◌, inl, inr, ◌&&◌, refl, sym, ap, subst, ◌∙◌}
use mathlib.Core.Bool.{true≢false}
use Rattle.std.specs.Prelude.{T}
use Rattle.std.specs.List.{list_all, insert, remove}
use Rattle.std.specs.declared.cmp.Ordering.{Ordering}
use Rattle.std.specs.declared.cmp.Ordering.TheVariants.{Less, Equal, Greater}
use Rattle.std.specs.Ordering.{eq_by_cmp, is_eq}
use Rattle.std.specs.Cmp.{eq_by_cmp_equiv, alike_right}
use Rattle.std.specs.FinMap as map
use Rattle.std.specs.FinMap.Entries as entries
use Rattle.kb_name.specs.declared.ids.NodeId.{NodeId}
use Rattle.kb_ops.specs.declared.rows.Row.{Row}
use Rattle.kb_name.specs.Nodes.{root}
use Rattle.kb_ops.specs.Rows.{FitsReplace, FitsRemove, FitsRename}
use Rattle.kb_ops.specs.Trees.{Tree, look, IsWellFormed}
use Rattle.kb_ops.specs.Find.{child}
use Rattle.kb_ops.specs.Sorted.{place_in_order}
use Rattle.kb_ops.specs.Spots.{Spot, spot_cmp, spot_of, spotted, AreThere, IsIndex}
use Rattle.kb_ops.proofs.Nodes.{node_cases}
use Rattle.kb_ops.proofs.Looks.{look-insert, look-remove}
use Rattle.kb_ops.proofs.Kept.{Sets}
use Rattle.kb_ops.proofs.TreeKept.{remove_kept, replace_kept}
use Rattle.kb_ops.proofs.Children.{child_stands, child_is, child_by}
use Rattle.kb_ops.proofs.Sorted.{put_new, map-insert}
use Rattle.kb_ops.proofs.Spots.{spots_total, exact_spots}
use Rattle.kb_tree.proofs.Entries.{some_is, none_some, is_true, all_pass, map-remove, others, others_are}

pub tied : (a b : Spot) → eq_by_cmp spot_cmp a b ≡ true → a ≡ b
tied a b h = exact_spots a b (equal_is (spot_cmp a b) h)
  where
    equal_is : (r : Ordering) → is_eq r ≡ true → r ≡ Equal
    equal_is Less g = absurd (true≢false (sym g))
    equal_is Equal g = refl
    equal_is Greater g = absurd (true≢false (sym g))

pub ties_itself : (a : Spot) → eq_by_cmp spot_cmp a a ≡ true
ties_itself a = (eq_by_cmp_equiv spots_total).refl a

pub spot_cases : (a b : Spot) → ((eq_by_cmp spot_cmp a b ≡ true) × (a ≡ b)) ⊎ ((eq_by_cmp spot_cmp a b ≡ false) × (a ≢ b))
spot_cases a b = elim (eq_by_cmp spot_cmp a b) as (λ x. eq_by_cmp spot_cmp a b ≡ x → ((x ≡ true) × (a ≡ b)) ⊎ ((x ≡ false) × (a ≢ b))) [
  | true ↦ λ e. inl (refl, tied a b e)
  | false ↦ λ e. inr (refl, λ p. true≢false (sym (ap (eq_by_cmp spot_cmp a) (sym p) ∙ ties_itself a) ∙ e))
] refl

-- two answers that imply each other are one
pub same_options : {A : Type 0} (a b : Option A) → ((x : A) → a ≡ Some x → b ≡ Some x) → ((x : A) → b ≡ Some x → a ≡ Some x) → a ≡ b
same_options (Some x) b f g = sym (f x refl)
same_options None (Some y) f g = g y refl
same_options None None f g = refl

-- the place at which a row is found
pub spot_is : (t : Tree) (q : NodeId) (r : Row) → look t q ≡ Some r → spot_of (look t q) ≡ (r.parent, r.name)
spot_is t q r h = ap spot_of h

-- places of the same parent and name are one
pub one_place : (r s : Row) (k : Spot) → r.parent ≡ k.0 → r.name ≡ k.1 → s.parent ≡ k.0 → s.name ≡ k.1 → (r.parent ≡ s.parent) × (r.name ≡ s.name)
one_place r s k p n a b = (p ∙ sym a, n ∙ sym b)

pub spot_by : (r : Row) (k : Spot) → r.parent ≡ k.0 → r.name ≡ k.1 → (r.parent, r.name) ≡ k
spot_by r k p n = λ i. (p i, n i)

-- ids whose rows stand elsewhere than at a place
abbrev AreElsewhere : Tree → Spot → List NodeId → Type 0
AreElsewhere t k ids = list_all (λ (e : Spot × NodeId). not (eq_by_cmp spot_cmp k e.0)) (map (spotted t) ids) ≡ true

and_first : (a b : Bool) → (a && b) ≡ true → a ≡ true
and_first true b h = refl
and_first false b h = h

and_second : (a b : Bool) → (a && b) ≡ true → b ≡ true
and_second true b h = h
and_second false b h = absurd (true≢false (sym h))

-- a tree that differs from another at one id alone shows the others as before
module _ (t s : Tree) (node : NodeId) (was : Row) (found : look t node ≡ Some was) (other : (q : NodeId) → q ≢ node → look s q ≡ look t q) where
  abbrev old_spot : Spot
  old_spot = (was.parent, was.name)

  not_it : (q : NodeId) → not (eq_by_cmp spot_cmp old_spot (spotted t q).0) ≡ true → q ≢ node
  not_it q h e =
      let at : (spotted t q).0 ≡ old_spot = ap (λ x. spot_of (look t x)) e ∙ spot_is t node was found in
      true≢false (sym h ∙ ap (λ k. not (eq_by_cmp spot_cmp old_spot k)) at ∙ ap not (ties_itself old_spot))

  pub shown_as_before : (ids : List NodeId) → AreElsewhere t old_spot ids → map (spotted s) ids ≡ map (spotted t) ids
  shown_as_before [] h = refl
  shown_as_before (q ∷ ids) h = λ i. (spot_of (other q (not_it q (and_first _ _ h)) i), q) ∷ shown_as_before ids (and_second _ _ h) i

  pub there_as_before : (ids : List NodeId) → AreElsewhere t old_spot ids → AreThere t ids → AreThere s ids
  there_as_before [] h there = tt
  there_as_before (q ∷ ids) h there = (ap is_some (other q (not_it q (and_first _ _ h))) ∙ there.0, there_as_before ids (and_second _ _ h) there.1)

pub there_without : (t : Tree) (ids : List NodeId) (n : ℕ) → AreThere t ids → AreThere t (remove ids n)
there_without t [] zero h = tt
there_without t [] (suc n) h = tt
there_without t (q ∷ ids) zero h = h.1
there_without t (q ∷ ids) (suc n) h = (h.0, there_without t ids n h.1)

pub there_with : (t : Tree) (ids : List NodeId) (n : ℕ) (q : NodeId) → IsSome (look t q) → AreThere t ids → AreThere t (insert ids n q)
there_with t ids zero q is h = (is, h)
there_with t [] (suc n) q is h = (is, tt)
there_with t (p ∷ ids) (suc n) q is h = (h.0, there_with t ids n q is h.1)

-- without the entry of a row
module _ (t : Tree) (w : IsWellFormed t) (ids : List NodeId) (x : IsIndex t ids) (node : NodeId) (was : Row) (found : look t node ≡ Some was) (off : node ≢ root) where
  abbrev pub spot : Spot
  spot = (was.parent, was.name)

  abbrev pub place : ℕ
  place = place_in_order spot_cmp spot (map (spotted t) ids)

  abbrev pub rest : List NodeId
  rest = remove ids place

  pub listed : entries.find spot_cmp spot (map (spotted t) ids) ≡ Some node
  listed = x.gives spot ∙ child_is t w node was found off

  pub rest_is : others spot_cmp spots_total exact_spots spot (map (spotted t) ids) ≡ map (spotted t) rest
  rest_is = others_are spot_cmp spots_total exact_spots spot node (map (spotted t) ids) x.rise listed ∙ sym (map-remove (spotted t) ids place)

  pub rest_elsewhere : AreElsewhere t spot rest
  rest_elsewhere = subst (λ es. list_all (λ (e : Spot × NodeId). not (eq_by_cmp spot_cmp spot e.0)) es ≡ true) rest_is (all_pass (λ (e : Spot × NodeId). not (eq_by_cmp spot_cmp spot e.0)) (map (spotted t) ids))

  pub rest_rises : entries.is_sorted spot_cmp (map (spotted t) rest) ≡ true
  rest_rises = is_true _ (subst (λ es. T (entries.is_sorted spot_cmp es)) rest_is (entries.is_sorted-where_key spot_cmp (λ y. not (eq_by_cmp spot_cmp spot y)) (map (spotted t) ids) (subst T (sym x.rise) tt)))

  pub rest_gives : (q : Spot) → entries.find spot_cmp q (map (spotted t) rest) ≡ cond (not (eq_by_cmp spot_cmp spot q)) (child t q.0 q.1) None
  rest_gives q =
      ap (entries.find spot_cmp q) (sym rest_is)
      ∙ entries.find-where_key spot_cmp (λ y. not (eq_by_cmp spot_cmp spot y)) q (λ y e. ap (λ r. not (is_eq r)) (sym (alike_right spots_total q y spot e))) (map (spotted t) ids)
      ∙ ap (λ a. cond (not (eq_by_cmp spot_cmp spot q)) a None) (x.gives q)

  -- the row is taken out
  module _ (fits : FitsRemove (look t) node) where
    abbrev without : Tree
    without = map.remove t node

    without_formed : IsWellFormed without
    without_formed = remove_kept t node w fits

    gone : (q : NodeId) (r : Row) → look without q ≡ Some r → q ≢ node
    gone q r h e = none_some r (sym (look-remove t node).here ∙ ap (look without) (sym e) ∙ h)

    free_here : (o : Option NodeId) → child without was.parent was.name ≡ o → o ≡ None
    free_here None e = refl
    free_here (Some q) e =
        let s = child_stands without without_formed was.parent was.name q e in
        let ne = gone q s.row s.found in
        absurd (ne (w.places q node s.row was (sym ((look-remove t node).others q ne) ∙ s.found) found s.not_root off s.parent_is s.name_is))

    elsewhere_same : (k : Spot) → spot ≢ k → child t k.0 k.1 ≡ child without k.0 k.1
    elsewhere_same k ne = same_options _ _
        (λ q e.
        let s = child_stands t w k.0 k.1 q e in
        let apart : q ≢ node = λ p. ne (sym (spot_is t node was found) ∙ ap (λ y. spot_of (look t y)) (sym p) ∙ spot_is t q s.row s.found ∙ spot_by s.row k s.parent_is s.name_is) in
        child_by without without_formed k.0 k.1 q (record { row = s.row; found = (look-remove t node).others q apart ∙ s.found; not_root = s.not_root; parent_is = s.parent_is; name_is = s.name_is }))
        (λ q e.
        let s = child_stands without without_formed k.0 k.1 q e in
        child_by t w k.0 k.1 q (record { row = s.row; found = sym ((look-remove t node).others q (gone q s.row s.found)) ∙ s.found; not_root = s.not_root; parent_is = s.parent_is; name_is = s.name_is }))

    as_before : map (spotted without) rest ≡ map (spotted t) rest
    as_before = shown_as_before t without node was found (look-remove t node).others rest rest_elsewhere

    pub index_remove : IsIndex without rest
    index_remove = record {
      there = there_as_before t without node was found (look-remove t node).others rest rest_elsewhere (there_without t ids place x.there);
      rise = ap (entries.is_sorted spot_cmp) as_before ∙ rest_rises;
      gives = λ q. ap (entries.find spot_cmp q) as_before ∙ rest_gives q ∙ answers q;
    }
      where
        answers : (q : Spot) → cond (not (eq_by_cmp spot_cmp spot q)) (child t q.0 q.1) None ≡ child without q.0 q.1
        answers q = elim (spot_cases spot q) [
          | inl at ↦ ap (λ b. cond (not b) (child t q.0 q.1) None) at.0 ∙ sym (ap (λ (k : Spot). child without k.0 k.1) (sym at.1) ∙ free_here (child without was.parent was.name) refl)
          | inr at ↦ ap (λ b. cond (not b) (child t q.0 q.1) None) at.0 ∙ elsewhere_same q at.1
        ]

-- a row takes the place of the one with its id
module _ (t : Tree) (w : IsWellFormed t) (was row : Row) (fits : FitsReplace (map.len t) (look t) was row) where
  abbrev replaced : Tree
  replaced = map.insert t row.id row

  set : Sets (look t) (look replaced) row.id (Some row)
  set = look-insert t row.id row

  replaced_formed : IsWellFormed replaced
  replaced_formed = replace_kept t was row w fits

  set_row : (q : NodeId) (r : Row) → q ≡ row.id → look replaced q ≡ Some r → r ≡ row
  set_row q r e h = some_is r row (sym h ∙ ap (look replaced) e ∙ set.here)

  was_row : (q : NodeId) (r : Row) → q ≡ row.id → look t q ≡ Some r → r ≡ was
  was_row q r e h = some_is r was (sym h ∙ ap (look t) e ∙ fits.there)

  -- at the same place
  module _ (parent_is : row.parent ≡ was.parent) (name_is : row.name ≡ was.name) where
    same_spot : (q : NodeId) → spot_of (look replaced q) ≡ spot_of (look t q)
    same_spot q = elim (node_cases q row.id) [
      | inl e ↦ spot_is replaced q row (ap (look replaced) e ∙ set.here) ∙ (λ i. (parent_is i, name_is i)) ∙ sym (spot_is t q was (ap (look t) e ∙ fits.there))
      | inr ne ↦ ap spot_of (set.others q ne)
    ]

    same_there : (q : NodeId) → IsSome (look t q) → IsSome (look replaced q)
    same_there q h = elim (node_cases q row.id) [ inl e ↦ ap is_some (ap (look replaced) e ∙ set.here) | inr ne ↦ ap is_some (set.others q ne) ∙ h ]

    all_same : (ids : List NodeId) → map (spotted replaced) ids ≡ map (spotted t) ids
    all_same [] = refl
    all_same (q ∷ ids) = λ i. (same_spot q i, q) ∷ all_same ids i

    all_same_there : (ids : List NodeId) → AreThere t ids → AreThere replaced ids
    all_same_there [] h = tt
    all_same_there (q ∷ ids) h = (same_there q h.0, all_same_there ids h.1)

    child_same : (k : Spot) → child t k.0 k.1 ≡ child replaced k.0 k.1
    child_same k = same_options _ _
        (λ q e.
        let s = child_stands t w k.0 k.1 q e in
        elim (node_cases q row.id) [
          | inl at ↦
              let was_is = was_row q s.row at s.found in
              child_by replaced replaced_formed k.0 k.1 q (record {
                row = row;
                found = ap (look replaced) at ∙ set.here;
                not_root = s.not_root;
                parent_is = parent_is ∙ sym (ap (λ (r : Row). r.parent) was_is) ∙ s.parent_is;
                name_is = name_is ∙ sym (ap (λ (r : Row). r.name) was_is) ∙ s.name_is;
              })
          | inr ne ↦ child_by replaced replaced_formed k.0 k.1 q (record { row = s.row; found = set.others q ne ∙ s.found; not_root = s.not_root; parent_is = s.parent_is; name_is = s.name_is })
        ])
        (λ q e.
        let s = child_stands replaced replaced_formed k.0 k.1 q e in
        elim (node_cases q row.id) [
          | inl at ↦
              let row_is = set_row q s.row at s.found in
              child_by t w k.0 k.1 q (record {
                row = was;
                found = ap (look t) at ∙ fits.there;
                not_root = s.not_root;
                parent_is = sym parent_is ∙ sym (ap (λ (r : Row). r.parent) row_is) ∙ s.parent_is;
                name_is = sym name_is ∙ sym (ap (λ (r : Row). r.name) row_is) ∙ s.name_is;
              })
          | inr ne ↦ child_by t w k.0 k.1 q (record { row = s.row; found = sym (set.others q ne) ∙ s.found; not_root = s.not_root; parent_is = s.parent_is; name_is = s.name_is })
        ])

    pub index_same : (ids : List NodeId) → IsIndex t ids → IsIndex replaced ids
    index_same ids x = record {
      there = all_same_there ids x.there;
      rise = ap (entries.is_sorted spot_cmp) (all_same ids) ∙ x.rise;
      gives = λ k. ap (entries.find spot_cmp k) (all_same ids) ∙ x.gives k ∙ child_same k;
    }

  -- at another place
  module _ (ids : List NodeId) (x : IsIndex t ids) (move : FitsRename (map.len t) (look t) row.id row.parent row.name None) where
    abbrev old_place : Spot
    old_place = (was.parent, was.name)

    abbrev new_place : Spot
    new_place = (row.parent, row.name)

    abbrev left : List NodeId
    left = rest t w ids x row.id was fits.there move.not_root

    abbrev pub moved : List NodeId
    moved = insert left (place_in_order spot_cmp new_place (map (spotted t) left)) row.id

    left_rises : entries.is_sorted spot_cmp (map (spotted t) left) ≡ true
    left_rises = rest_rises t w ids x row.id was fits.there move.not_root

    left_elsewhere : AreElsewhere t old_place left
    left_elsewhere = rest_elsewhere t w ids x row.id was fits.there move.not_root

    left_before : map (spotted replaced) left ≡ map (spotted t) left
    left_before = shown_as_before t replaced row.id was fits.there set.others left left_elsewhere

    new_free : (o : Option NodeId) → child t row.parent row.name ≡ o → o ≡ None
    new_free None e = refl
    new_free (Some q) e = let s = child_stands t w row.parent row.name q e in absurd (move.place q s.row s.found s.not_root s.parent_is s.name_is)

    not_listed : entries.find spot_cmp new_place (map (spotted t) left) ≡ None
    not_listed =
        rest_gives t w ids x row.id was fits.there move.not_root new_place
        ∙ ap (λ a. cond (not (eq_by_cmp spot_cmp old_place new_place)) a None) (new_free (child t row.parent row.name) refl)
        ∙ either (eq_by_cmp spot_cmp old_place new_place)
      where
        either : (b : Bool) → let nothing : Option NodeId = None in cond (not b) nothing nothing ≡ nothing
        either true = refl
        either false = refl

    put_is : entries.put spot_cmp new_place row.id (map (spotted t) left) ≡ map (spotted replaced) moved
    put_is =
        put_new spot_cmp spots_total exact_spots new_place row.id (map (spotted t) left) not_listed
        ∙ ap (λ l. insert l (place_in_order spot_cmp new_place (map (spotted t) left)) (new_place, row.id)) (sym left_before)
        ∙ ap (λ o. insert (map (spotted replaced) left) (place_in_order spot_cmp new_place (map (spotted t) left)) (spot_of o, row.id)) (sym set.here)
        ∙ sym (map-insert (spotted replaced) left (place_in_order spot_cmp new_place (map (spotted t) left)) row.id)

    new_here : child replaced row.parent row.name ≡ Some row.id
    new_here = child_is replaced replaced_formed row.id row set.here move.not_root

    old_free : (o : Option NodeId) → old_place ≢ new_place → child replaced was.parent was.name ≡ o → o ≡ None
    old_free None ne e = refl
    old_free (Some q) ne e =
        let s = child_stands replaced replaced_formed was.parent was.name q e in
        elim (node_cases q row.id) [
          | inl at ↦
              let row_is = set_row q s.row at s.found in
              absurd (ne (λ i. ((sym s.parent_is ∙ ap (λ (r : Row). r.parent) row_is) i, (sym s.name_is ∙ ap (λ (r : Row). r.name) row_is) i)))
          | inr off ↦ absurd (off (w.places q row.id s.row was (sym (set.others q off) ∙ s.found) fits.there s.not_root move.not_root s.parent_is s.name_is))
        ]

    other_same : (k : Spot) → old_place ≢ k → k ≢ new_place → child t k.0 k.1 ≡ child replaced k.0 k.1
    other_same k off_old off_new = same_options _ _
        (λ q e.
        let s = child_stands t w k.0 k.1 q e in
        elim (node_cases q row.id) [
          | inl at ↦
              let was_is = was_row q s.row at s.found in
              absurd (off_old (λ i. ((sym (ap (λ (r : Row). r.parent) was_is) ∙ s.parent_is) i, (sym (ap (λ (r : Row). r.name) was_is) ∙ s.name_is) i)))
          | inr ne ↦ child_by replaced replaced_formed k.0 k.1 q (record { row = s.row; found = set.others q ne ∙ s.found; not_root = s.not_root; parent_is = s.parent_is; name_is = s.name_is })
        ])
        (λ q e.
        let s = child_stands replaced replaced_formed k.0 k.1 q e in
        elim (node_cases q row.id) [
          | inl at ↦
              let row_is = set_row q s.row at s.found in
              absurd (off_new (λ i. ((sym s.parent_is ∙ ap (λ (r : Row). r.parent) row_is) i, (sym s.name_is ∙ ap (λ (r : Row). r.name) row_is) i)))
          | inr ne ↦ child_by t w k.0 k.1 q (record { row = s.row; found = sym (set.others q ne) ∙ s.found; not_root = s.not_root; parent_is = s.parent_is; name_is = s.name_is })
        ])

    answers_moved : (k : Spot) → cond (eq_by_cmp spot_cmp k new_place) (Some row.id) (cond (not (eq_by_cmp spot_cmp old_place k)) (child t k.0 k.1) None) ≡ child replaced k.0 k.1
    answers_moved k = elim (spot_cases k new_place) [
      | inl at ↦
          ap (λ b. cond b (Some row.id) (cond (not (eq_by_cmp spot_cmp old_place k)) (child t k.0 k.1) None)) at.0
          ∙ sym (ap (λ (s : Spot). child replaced s.0 s.1) at.1 ∙ new_here)
      | inr off ↦
          ap (λ b. cond b (Some row.id) (cond (not (eq_by_cmp spot_cmp old_place k)) (child t k.0 k.1) None)) off.0
          ∙ elim (spot_cases old_place k) [
            | inl at ↦
                ap (λ b. cond (not b) (child t k.0 k.1) None) at.0
                ∙ sym (ap (λ (s : Spot). child replaced s.0 s.1) (sym at.1) ∙ old_free (child replaced was.parent was.name) (λ e. off.1 (sym at.1 ∙ e)) refl)
            | inr far ↦ ap (λ b. cond (not b) (child t k.0 k.1) None) far.0 ∙ other_same k far.1 off.1
          ]
    ]

    pub index_move : IsIndex replaced moved
    index_move = record {
      there = there_with replaced left _ row.id (ap is_some set.here) (there_as_before t replaced row.id was fits.there set.others left left_elsewhere (there_without t ids _ x.there));
      rise = is_true _ (subst (λ es. T (entries.is_sorted spot_cmp es)) put_is (entries.is_sorted-put spot_cmp spots_total new_place row.id (map (spotted t) left) (subst T (sym left_rises) tt)));
      gives = λ k.
          ap (entries.find spot_cmp k) (sym put_is)
          ∙ entries.find-put spot_cmp spots_total k new_place row.id (map (spotted t) left)
          ∙ ap (cond (eq_by_cmp spot_cmp k new_place) (Some row.id)) (rest_gives t w ids x row.id was fits.there move.not_root k)
          ∙ answers_moved k;
    }
