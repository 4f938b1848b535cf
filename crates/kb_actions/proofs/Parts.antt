-- Sides, places, what is kept and what is joined are those of the whole trees, for the rows of a part.
use Rattle.std.proofs.Common.{◌≡◌, ℕ, zero, suc, Bool, true, false, not, List, [], ◌∷◌, length, filter, inl, inr, ◌&&◌, ◌||◌, cond, if◌then◌else◌, Option, Some, None, is_some, refl, sym, ap, ◌∙◌, arith}
use Rattle.std.specs.Prelude.{find}
use Rattle.std.specs.Option.{option_map, option_map_or, option_and_then, unwrap_or}
use Rattle.std.specs.Str.{bytes_eq}
use Rattle.kb_name.specs.declared.ids.NodeId.{NodeId}
use Rattle.kb_ops.specs.declared.rows.Row.{Row}
use Rattle.kb_name.specs.Nodes.{root, same_node}
use Rattle.kb_ops.specs.Rows.{Look, is_dir_row, meets}
use Rattle.kb_ops.proofs.Nodes.{node_is, node_cases}
use Rattle.kb_ops.proofs.Walks.{IsAtMost, meets_from, meets_within, row_cases, onwards}
use Rattle.kb_ops.proofs.Kept.{some_and}
use Rattle.kb_rules.specs.Three.{Three, same_place, stays_by, stays}
use Rattle.kb_rules.specs.Places.{is_moved_by, is_moved, guess, is_lost, on_ours, seat, is_kept}
use Rattle.kb_rules.specs.Joins.{takes, joined, into, is_left, standing}
use Rattle.kb_rules.specs.Ready.{is_in, CanMerge}
use Rattle.kb_rules.proofs.Basics.{bool_cases, not_both, no_first, no_second, when, unless, listed_most}
use Rattle.kb_rules.proofs.Climbs.{same_bools}
use Rattle.kb_rules.proofs.Reaching.{seat_cases}
use Rattle.kb_rules.proofs.Keeps.{stays_there, kept_least, stays_kept, both_stay, kept_parent}
use Rattle.kb_rules.proofs.Joined.{joined_step, merged_stays, into_merged, standing_row}
use Rattle.kb_rules.proofs.Unchanged.{tree_parent}
use Rattle.kb_actions.specs.Parts.{IsPart}

-- ---- lists of ids, and those that pass a test

pub in_filter : (c : NodeId → Bool) (ids : List NodeId) (q : NodeId) → is_in q (filter c ids) ≡ true → (c q ≡ true) × (is_in q ids ≡ true)
in_filter c [] q h = not_both false h refl
in_filter c (x ∷ ids) q h = elim (bool_cases (c x)) [
  | inl e ↦ elim (bool_cases (same_node q x)) [
    | inl same ↦ (ap c (node_is q x same) ∙ e, ap (λ b. b || is_in q ids) same)
    | inr other ↦
        let w = in_filter c ids q (sym (ap (λ b. b || is_in q (filter c ids)) other) ∙ sym (ap (λ b. is_in q (cond b (x ∷ filter c ids) (filter c ids))) e) ∙ h) in
        (w.0, ap (λ b. b || is_in q ids) other ∙ w.1)
  ]
  | inr e ↦
      let w = in_filter c ids q (sym (ap (λ b. is_in q (cond b (x ∷ filter c ids) (filter c ids))) e) ∙ h) in
      (w.0, or_second (same_node q x) _ w.1)
]
  where
    or_second : (a b : Bool) → b ≡ true → (a || b) ≡ true
    or_second true b h = refl
    or_second false b h = h

-- what only ids that pass are found by is found among them
find_among : (c f g : NodeId → Bool) (ids : List NodeId) → ((x : NodeId) → c x ≡ true → g x ≡ f x) → ((x : NodeId) → c x ≡ false → f x ≡ false) → find f ids ≡ find g (filter c ids)
find_among c f g [] same none = refl
find_among c f g (x ∷ ids) same none = elim (bool_cases (c x)) [
  | inl e ↦ (λ i. cond ((sym (same x e)) i) (Some x) (find_among c f g ids same none i)) ∙ sym (ap (λ b. find g (cond b (x ∷ filter c ids) (filter c ids))) e)
  | inr e ↦ unless _ (Some x) (find f ids) (none x e) ∙ find_among c f g ids same none ∙ sym (ap (λ b. find g (cond b (x ∷ filter c ids) (filter c ids))) e)
]

opposite : (x : Bool) → (x && not x) ≡ false
opposite true = refl
opposite false = refl

-- walks stay inside
pub walk_within : (inside : NodeId → Bool) (f g : Look) → ((q : NodeId) → inside q ≡ true → f q ≡ g q) → ((q : NodeId) (r : Row) → inside q ≡ true → g q ≡ Some r → inside r.parent ≡ true)
    → (goal : NodeId) (i : ℕ) (q : NodeId) → inside q ≡ true → meets f goal i q ≡ meets g goal i q
walk_within inside f g same up goal zero q h = refl
walk_within inside f g same up goal (suc i) q h = ap (λ b. same_node q goal || b) (elim (row_cases g q) [
  | inl w ↦ ap (onwards f goal i) (same q h ∙ w.1) ∙ walk_within inside f g same up goal i w.0.parent (up q w.0 h w.1) ∙ sym (ap (onwards g goal i) w.1)
  | inr none ↦ ap (onwards f goal i) (same q h ∙ none) ∙ sym (ap (onwards g goal i) none)
])

-- ---- a node whose row is the same in merged and in ours

module _ (t : Three) (q : NodeId) (same : t.merged q ≡ t.ours q) where
  pub guess_still : guess t q ≡ t.merged q
  guess_still = elim (bool_cases (is_moved t q)) [ inl e ↦ when _ (t.ours q) (t.merged q) e ∙ sym same | inr e ↦ unless _ (t.ours q) (t.merged q) e ]

  pub seat_still : seat t q ≡ t.merged q
  seat_still = elim (bool_cases (on_ours t q)) [ inl e ↦ when _ (t.ours q) (t.merged q) e ∙ sym same | inr e ↦ unless _ (t.ours q) (t.merged q) e ]

  unmoved : (r : Row) (o : Option Row) → is_moved_by (Some r) (Some r) o ≡ false
  unmoved r None = refl
  unmoved r (Some o) = opposite (same_place r o)

  pub side_still : (r : Row) → t.merged q ≡ Some r → on_ours t q ≡ false
  side_still r m = no_first _ _ ((λ i. is_moved_by (m i) ((sym same ∙ m) i) (t.base q)) ∙ unmoved r (t.base q))

module _ (n m : ℕ) (t : Three) (can : CanMerge n m t) (q : NodeId) (same : t.merged q ≡ t.ours q) where
  emptied : (c : Bool) (f : Row → Row) → cond {A = Option Row} c (option_map f None) None ≡ None
  emptied true f = refl
  emptied false f = refl

  -- it stands where merged has it, whatever became of the rows above it
  pub standing_still : standing t q ≡ t.merged q
  standing_still = elim (row_cases t.merged q) [
    | inl w ↦
        let p = tree_parent n t.merged can.merged q w.0 w.1 in
        standing_row t q w.0 (stays_kept n m t can q (both_stay n m t can q w.0 w.0 w.1 (sym same ∙ w.1))) (merged_stays t (length t.ids) q w.0 w.1) (seat_still t q same ∙ w.1)
        ∙ (λ i. Some (record w.0 { parent = into_merged t w.0.parent p.0 p.1 i }))
        ∙ sym w.1
    | inr none ↦
        ap (λ o. cond (is_left t q) (option_map (λ (r : Row). record r { parent = into t r.parent }) o) None) (seat_still t q same ∙ none)
        ∙ emptied (is_left t q) (λ (r : Row). record r { parent = into t r.parent })
        ∙ sym none
  ]

module _ (n m k l : ℕ) (t s : Three) (inside : NodeId → Bool) (part : IsPart t s inside) (can : CanMerge n m t) (less : CanMerge k l s) where
  pub in_part : (q : NodeId) → is_in q s.ids ≡ true → inside q ≡ true
  in_part q h = (in_filter inside t.ids q (ap (is_in q) (sym part.ids) ∙ h)).0

  pub merged_in : (q : NodeId) (r : Row) → s.merged q ≡ Some r → inside q ≡ true
  merged_in q r h = in_part q (less.merged_in q r h)

  pub ours_in : (q : NodeId) (r : Row) → s.ours q ≡ Some r → inside q ≡ true
  ours_in q r h = in_part q (less.ours_in q r h)

  -- ---- the first guess

  moved_same : (q : NodeId) → inside q ≡ true → is_moved s q ≡ is_moved t q
  moved_same q h = λ i. is_moved_by (part.merged q h i) (part.ours q h i) (part.base q h i)

  guess_same : (q : NodeId) → inside q ≡ true → guess s q ≡ guess t q
  guess_same q h = λ i. cond (moved_same q h i) (part.ours q h i) (part.merged q h i)

  guess_up : (q : NodeId) (r : Row) → inside q ≡ true → guess t q ≡ Some r → inside r.parent ≡ true
  guess_up q r h g = elim (bool_cases (is_moved t q)) [
    | inl e ↦ part.ours_up q r h (sym (when _ (t.ours q) (t.merged q) e) ∙ g)
    | inr e ↦ part.merged_up q r h (sym (unless _ (t.ours q) (t.merged q) e) ∙ g)
  ]

  abbrev walk_same : (f g : Look) → ((q : NodeId) → inside q ≡ true → f q ≡ g q) → ((q : NodeId) (r : Row) → inside q ≡ true → g q ≡ Some r → inside r.parent ≡ true)
      → (goal : NodeId) (i : ℕ) (q : NodeId) → inside q ≡ true → meets f goal i q ≡ meets g goal i q
  walk_same = walk_within inside

  -- the steps that a walk may take are enough on both sides
  reach_same : (f g : Look) → ((q : NodeId) → inside q ≡ true → f q ≡ g q) → ((q : NodeId) (r : Row) → inside q ≡ true → g q ≡ Some r → inside r.parent ≡ true)
      → IsAtMost (length s.ids) f → IsAtMost (length t.ids) g → (goal q : NodeId) → inside q ≡ true → meets f goal (length s.ids) q ≡ meets g goal (length t.ids) q
  reach_same f g same up few most goal q h = same_bools _ _
      (λ on. meets_within (length t.ids) g most goal q (length s.ids) (sym (walk_same f g same up goal (length s.ids) q h) ∙ on))
      (λ on. meets_within (length s.ids) f few goal q (length t.ids) (walk_same f g same up goal (length t.ids) q h ∙ on))

  guess_most : (x y : ℕ) (z : Three) → CanMerge x y z → IsAtMost (length z.ids) (guess z)
  guess_most x y z c = listed_most (length z.ids) z.ids (guess z) (omega arith) (λ q r h. elim (bool_cases (is_moved z q)) [
    | inl e ↦ c.ours_in q r (sym (when _ (z.ours q) (z.merged q) e) ∙ h)
    | inr e ↦ c.merged_in q r (sym (unless _ (z.ours q) (z.merged q) e) ∙ h)
  ])

  lost_same : (q : NodeId) → inside q ≡ true → is_lost s q ≡ is_lost t q
  lost_same q h = λ i. option_map_or is_dir_row (part.merged q h i) false
      && (option_map_or is_dir_row (part.ours q h i) false
      && not (reach_same (guess s) (guess t) guess_same guess_up (guess_most k l s less) (guess_most n m t can) root q h i))

  -- ---- sides and places

  pub side_same : (q : NodeId) → inside q ≡ true → on_ours s q ≡ on_ours t q
  side_same q h = λ i. moved_same q h i && not (lost_same q h i)

  pub seat_same : (q : NodeId) → inside q ≡ true → seat s q ≡ seat t q
  seat_same q h = λ i. cond (side_same q h i) (part.ours q h i) (part.merged q h i)

  pub seat_up : (q : NodeId) (r : Row) → inside q ≡ true → seat t q ≡ Some r → inside r.parent ≡ true
  seat_up q r h e = elim (seat_cases t q r e) [ inl x ↦ part.ours_up q r h x.1 | inr x ↦ part.merged_up q r h x.1 ]

  -- ---- what is kept

  stays_same : (q : NodeId) → inside q ≡ true → stays s q ≡ stays t q
  stays_same q h = λ i. stays_by (part.merged q h i) (part.ours q h i) (part.base q h i)

  seat_in : (q : NodeId) (r : Row) → seat s q ≡ Some r → inside q ≡ true
  seat_in q r h = elim (seat_cases s q r h) [ inl x ↦ ours_in q r x.1 | inr x ↦ merged_in q r x.1 ]

  kept_more : (q : NodeId) → is_kept s q ≡ true → is_kept t q ≡ true
  kept_more = kept_least s (λ q. is_kept t q ≡ true)
      (λ q h.
      let at : inside q ≡ true = elim (stays_there s q h) [ inl w ↦ merged_in q w.0 w.1 | inr w ↦ ours_in q w.0 w.1 ] in
      stays_kept n m t can q (sym (stays_same q at) ∙ h))
      (λ q r e h. kept_parent n m t can q r (sym (seat_same q (seat_in q r e)) ∙ e) h)

  -- a row outside is one of merged and of ours, and so is its parent, which stays
  parent_kept : (q : NodeId) (r : Row) → inside q ≡ false → t.merged q ≡ Some r → inside r.parent ≡ true → is_kept s r.parent ≡ true
  parent_kept q r out at h =
      let a = tree_parent n t.merged can.merged q r at in
      let b = tree_parent m t.ours can.ours q r (sym (part.rest q out) ∙ at) in
      stays_kept k l s less r.parent (both_stay k l s less r.parent a.0 b.0 (part.merged r.parent h ∙ a.1) (part.ours r.parent h ∙ b.1))

  kept_less : (q : NodeId) → is_kept t q ≡ true → inside q ≡ true → is_kept s q ≡ true
  kept_less = kept_least t (λ q. inside q ≡ true → is_kept s q ≡ true)
      (λ q h at. stays_kept k l s less q (stays_same q at ∙ h))
      (λ q r e h up. elim (bool_cases (inside q)) [
        | inl at ↦ kept_parent k l s less q r (seat_same q at ∙ e) (h at)
        | inr out ↦ parent_kept q r out (sym (seat_still t q (part.rest q out)) ∙ e) up
      ])

  pub kept_same : (q : NodeId) → inside q ≡ true → is_kept s q ≡ is_kept t q
  kept_same q h = same_bools _ _ (kept_more q) (λ e. kept_less q e h)

  -- ---- what is joined

  -- whether a row is taken in by one of merged, as far as that one's row tells
  abbrev is_at : Row → NodeId → Row → Bool
  is_at b parent r = same_node r.parent parent && bytes_eq r.name b.name

  abbrev taken_by : (Row → Bool) → Bool → Bool → Option Row → Bool
  taken_by f is_there ours_has o = is_there && (not ours_has && option_map_or f o false)

  takes_same : (q : NodeId) (b : Row) → inside q ≡ true → t.ours q ≡ Some b → (parent a : NodeId) → inside a ≡ true → takes s b parent a ≡ takes t b parent a
  takes_same q b here at parent a h =
      let f : Row → Bool = λ r. s.may b r && is_at b parent r in
      let g : Row → Bool = λ r. t.may b r && is_at b parent r in
      elim (row_cases t.merged a) [
        | inl w ↦
            (λ i. taken_by f (kept_same a h i) (is_some (part.ours a h i)) ((part.merged a h ∙ w.1) i))
            ∙ (λ i. is_kept t a && (not (is_some (t.ours a)) && (part.may q a b w.0 here h at w.1 i && is_at b parent w.0)))
            ∙ sym (ap (taken_by g (is_kept t a) (is_some (t.ours a))) w.1)
        | inr none ↦
            (λ i. taken_by f (kept_same a h i) (is_some (part.ours a h i)) ((part.merged a h ∙ none) i))
            ∙ sym (ap (taken_by g (is_kept t a) (is_some (t.ours a))) none)
      ]

  -- a row outside is one of ours too, or none
  takes_none : (b : Row) (parent a : NodeId) → inside a ≡ false → takes t b parent a ≡ false
  takes_none b parent a out =
      let f : Option Row → Bool = λ o. option_map_or (λ (r : Row). t.may b r && (same_node r.parent parent && bytes_eq r.name b.name)) o false in
      let alone : (not (is_some (t.ours a)) && f (t.merged a)) ≡ false = elim (row_cases t.merged a) [
        | inl w ↦ no_first (not (is_some (t.ours a))) (f (t.merged a)) (ap (λ o. not (is_some o)) (sym (part.rest a out) ∙ w.1))
        | inr none ↦ no_second (not (is_some (t.ours a))) (f (t.merged a)) (ap f none)
      ] in
      no_second (is_kept t a) (not (is_some (t.ours a)) && f (t.merged a)) alone

  host_same : (q : NodeId) (b : Row) → inside q ≡ true → t.ours q ≡ Some b → (parent : NodeId) → find (takes t b parent) t.ids ≡ find (takes s b parent) s.ids
  host_same q b here at parent = find_among inside (takes t b parent) (takes s b parent) t.ids (takes_same q b here at parent) (takes_none b parent) ∙ ap (find (takes s b parent)) (sym part.ids)

  -- what its parent is or is joined to decides what a row is joined to
  next_same : (q : NodeId) (w : Row) → inside q ≡ true → t.ours q ≡ Some w → into s w.parent ≡ into t w.parent → joined s q ≡ joined t q
  next_same q w h at up =
      joined_step k l s less q
      ∙ (λ j. if kept_same q h j && not (is_some (part.merged q h j)) then option_and_then (λ (b : Row). find (takes s b (into s b.parent)) s.ids) ((part.ours q h ∙ at) j) else None)
      ∙ (λ j. if is_kept t q && not (is_some (t.merged q)) then find (takes s w (up j)) s.ids else None)
      ∙ (λ j. if is_kept t q && not (is_some (t.merged q)) then (sym (host_same q w h at (into t w.parent))) j else None)
      ∙ sym (ap (λ o. if is_kept t q && not (is_some (t.merged q)) then option_and_then (λ (b : Row). find (takes t b (into t b.parent)) t.ids) o else None) at)
      ∙ sym (joined_step n m t can q)

  lone_same : (q : NodeId) → inside q ≡ true → t.ours q ≡ None → joined s q ≡ joined t q
  lone_same q h none =
      joined_step k l s less q
      ∙ (λ j. if kept_same q h j && not (is_some (part.merged q h j)) then option_and_then (λ (b : Row). find (takes s b (into s b.parent)) s.ids) ((part.ours q h ∙ none) j) else None)
      ∙ sym (ap (λ o. if is_kept t q && not (is_some (t.merged q)) then option_and_then (λ (b : Row). find (takes t b (into t b.parent)) t.ids) o else None) none)
      ∙ sym (joined_step n m t can q)

  root_same : (q : NodeId) → inside q ≡ true → q ≡ root → joined s q ≡ joined t q
  root_same q h e =
      let a = some_and _ (t.merged root) can.merged.rooted in
      let at : t.merged q ≡ Some a.0 = ap t.merged e ∙ a.1 in
      merged_stays s (length s.ids) q a.0 (part.merged q h ∙ at) ∙ sym (merged_stays t (length t.ids) q a.0 at)

  joined_along : (i : ℕ) (q : NodeId) → inside q ≡ true → meets t.ours root i q ≡ true → joined s q ≡ joined t q
  joined_along zero q h on = root_same q h (node_is q root on)
  joined_along (suc i) q h on = elim (node_cases q root) [
    | inl e ↦ root_same q h e
    | inr off ↦
        let w = meets_from t.ours root q i off on in
        next_same q w.0 h w.1 (ap (λ o. unwrap_or o w.0.parent) (joined_along i w.0.parent (part.ours_up q w.0 h w.1) w.2))
  ]

  pub joined_same : (q : NodeId) → inside q ≡ true → joined s q ≡ joined t q
  joined_same q h = elim (row_cases t.ours q) [
    | inl w ↦ joined_along m q h (can.ours.reaches q w.0 w.1)
    | inr none ↦ lone_same q h none
  ]

  pub into_same : (q : NodeId) → inside q ≡ true → into s q ≡ into t q
  into_same q h = ap (λ o. unwrap_or o q) (joined_same q h)

  -- ---- the rows that are left

  pub left_same : (q : NodeId) → inside q ≡ true → is_left s q ≡ is_left t q
  left_same q h = λ i. kept_same q h i && not (is_some (joined_same q h i))

  pub standing_same : (q : NodeId) → inside q ≡ true → standing s q ≡ standing t q
  standing_same q h = elim (row_cases (seat t) q) [
    | inl w ↦
        (λ i. cond (left_same q h i) (option_map (λ (r : Row). record r { parent = into s r.parent }) ((seat_same q h ∙ w.1) i)) None)
        ∙ (λ i. cond (is_left t q) (Some (record w.0 { parent = into_same w.0.parent (seat_up q w.0 h w.1) i })) None)
        ∙ sym (ap (λ o. cond (is_left t q) (option_map (λ (r : Row). record r { parent = into t r.parent }) o) None) w.1)
    | inr none ↦
        (λ i. cond (left_same q h i) (option_map (λ (r : Row). record r { parent = into s r.parent }) ((seat_same q h ∙ none) i)) None)
        ∙ sym (ap (λ o. cond (is_left t q) (option_map (λ (r : Row). record r { parent = into t r.parent }) o) None) none)
  ]
