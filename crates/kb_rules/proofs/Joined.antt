-- Joined directories: where a row goes, and that the rows that are left make a tree but for names.
use Rattle.std.proofs.Common.{◌≡◌, ◌≢◌, ℕ, zero, suc, ◌≤◌, Bool, true, false, not, length, ◌⊎◌, inl, inr, ◌&&◌, cond, if◌then◌else◌, Option, Some, None, is_some, refl, sym, ap, subst, ◌∙◌, arith}
use Rattle.std.specs.Prelude.{find}
use Rattle.std.specs.Option.{option_map, option_map_or, option_and_then, unwrap_or}
use Rattle.std.specs.Str.{bytes_eq}
use Rattle.kb_name.specs.declared.ids.NodeId.{NodeId}
use Rattle.kb_ops.specs.declared.rows.Row.{Row}
use Rattle.kb_name.specs.Nodes.{root, same_node}
use Rattle.kb_ops.specs.Rows.{is_dir_row, meets}
use Rattle.kb_ops.proofs.Nodes.{node_is, node_cases}
use Rattle.kb_ops.proofs.Walks.{IsAtMost, meets_here, meets_step, meets_from, meets_within, row_cases}
use Rattle.kb_ops.proofs.Kept.{dir_at, some_and}
use Rattle.kb_rules.specs.Three.{Three}
use Rattle.kb_rules.specs.Places.{seat, on_ours, is_kept}
use Rattle.kb_rules.specs.Joins.{takes, joined_within, joined, into, is_left, standing}
use Rattle.kb_rules.specs.Ready.{CanMerge}
use Rattle.kb_rules.proofs.Basics.{not_both, both, first_of_both, second_of_both, no_second, not_was, when, unless, same_some, none_some, found_passes, listed_most, bytes_same}
use Rattle.kb_rules.proofs.Reaching.{seat_cases, seat_new, seat_theirs, seat_reaches}
use Rattle.kb_rules.proofs.Keeps.{kept_parent, parent_there}

-- a row b and the row a that it is joined to
pub record Joins (t : Three) (q a : NodeId) : Type 0 where
  pub kept : is_kept t q ≡ true
  pub new : t.merged q ≡ None
  pub row : Row
  pub found : t.ours q ≡ Some row
  pub host_kept : is_kept t a ≡ true
  pub host_new : t.ours a ≡ None
  pub host : Row
  pub host_found : t.merged a ≡ Some host
  pub may : t.may row host ≡ true
  pub parent : host.parent ≡ into t row.parent
  pub name : host.name ≡ row.name

pub no_row : (o : Option Row) → not (is_some o) ≡ true → o ≡ None
no_row None h = refl
no_row (Some r) h = not_both true refl (not_was true h)

pub passes_row : (f : Row → Bool) (o : Option Row) → option_map_or f o false ≡ true → (r : Row) × (o ≡ Some r) × (f r ≡ true)
passes_row f None h = not_both _ h refl
passes_row f (Some r) h = (r, refl, h)

pub chosen : (c : Bool) {A : Type 0} (o : Option A) (x : A) → cond c o None ≡ Some x → (c ≡ true) × (o ≡ Some x)
chosen true o x h = (refl, h)
chosen false o x h = none_some x None refl h

pub then_some : {A B : Type 0} (f : A → Option B) (o : Option A) (y : B) → option_and_then f o ≡ Some y → (x : A) × (o ≡ Some x) × (f x ≡ Some y)
then_some f None y h = none_some y None refl h
then_some f (Some x) y h = (x, refl, h)

module _ (t : Three) where
  abbrev pub next : (NodeId → NodeId) → NodeId → Option NodeId
  next up q = if is_kept t q && not (is_some (t.merged q)) then option_and_then (λ (b : Row). find (takes t b (up b.parent)) t.ids) (t.ours q) else None

  -- nothing of merged is joined
  pub merged_stays : (k : ℕ) (q : NodeId) (r : Row) → t.merged q ≡ Some r → joined_within t k q ≡ None
  merged_stays zero q r h = refl
  merged_stays (suc k) q r h = unless _ _ None (no_second _ _ (ap (λ o. not (is_some o)) h))

  pub into_merged : (q : NodeId) (r : Row) → t.merged q ≡ Some r → into t q ≡ q
  into_merged q r h = ap (λ o. unwrap_or o q) (merged_stays (length t.ids) q r h)

  -- the fuel does not matter once the walk in ours ends within it
  settled : (a : Row) → t.merged root ≡ Some a → (k : ℕ) (q : NodeId) → meets t.ours root k q ≡ true → (i : ℕ) → k ≤ i → joined_within t (suc i) q ≡ joined_within t i q
  settled a at zero q h i le =
      let is : t.merged q ≡ Some a = ap t.merged (node_is q root h) ∙ at in
      merged_stays (suc i) q a is ∙ sym (merged_stays i q a is)
  settled a at (suc k) q h zero le = absurd (omega arith)
  settled a at (suc k) q h (suc i) le = elim (node_cases q root) [
    | inl e ↦ let is : t.merged q ≡ Some a = ap t.merged e ∙ at in merged_stays (suc (suc i)) q a is ∙ sym (merged_stays (suc i) q a is)
    | inr off ↦
        let w = meets_from t.ours root q k off h in
        let up = settled a at k w.0.parent w.2 i (omega arith) in
        let F : (NodeId → Option NodeId) → Option NodeId = λ f. if is_kept t q && not (is_some (t.merged q)) then option_and_then (λ (b : Row). find (takes t b (unwrap_or (f b.parent) b.parent)) t.ids) (Some w.0) else None in
        let G : Option Row → ℕ → Option NodeId = λ o k. if is_kept t q && not (is_some (t.merged q)) then option_and_then (λ (b : Row). find (takes t b (unwrap_or (joined_within t k b.parent) b.parent)) t.ids) o else None in
        ap (λ o. G o (suc i)) w.1
        ∙ ap (λ o. if is_kept t q && not (is_some (t.merged q)) then find (takes t w.0 (unwrap_or o w.0.parent)) t.ids else None) up
        ∙ sym (ap (λ o. G o i) w.1)
  ]

  lone : (k : ℕ) (q : NodeId) → t.ours q ≡ None → joined_within t k q ≡ None
  lone zero q h = refl
  lone (suc k) q h = ap (λ o. if is_kept t q && not (is_some (t.merged q)) then option_and_then (λ (b : Row). find (takes t b (unwrap_or (joined_within t k b.parent) b.parent)) t.ids) o else None) h ∙ empty (is_kept t q && not (is_some (t.merged q)))
    where
      empty : (c : Bool) → cond {A = Option NodeId} c None None ≡ None
      empty true = refl
      empty false = refl

  pub into_cases : (q : NodeId) → ((a : NodeId) × (joined t q ≡ Some a) × (into t q ≡ a)) ⊎ ((joined t q ≡ None) × (into t q ≡ q))
  into_cases q = elim (joined t q) as (λ o. joined t q ≡ o → ((a : NodeId) × (joined t q ≡ Some a) × (into t q ≡ a)) ⊎ ((joined t q ≡ None) × (into t q ≡ q))) [
    | Some a ↦ λ e. inl (a, e, ap (λ o. unwrap_or o q) e)
    | None ↦ λ e. inr (e, ap (λ o. unwrap_or o q) e)
  ] refl

  -- a row that is left, with its new parent
  pub standing_row : (q : NodeId) (x : Row) → is_kept t q ≡ true → joined t q ≡ None → seat t q ≡ Some x → standing t q ≡ Some (record x { parent = into t x.parent })
  standing_row q x k j s = when _ _ None (both _ _ k (ap (λ o. not (is_some o)) j)) ∙ ap (λ o. option_map (λ (r : Row). record r { parent = into t r.parent }) o) s

  pub standing_was : (q : NodeId) (r : Row) → standing t q ≡ Some r → (x : Row) × (seat t q ≡ Some x) × (r ≡ record x { parent = into t x.parent }) × (is_kept t q ≡ true) × (joined t q ≡ None)
  standing_was q r h =
      let c = chosen (is_left t q) _ r h in
      let w = mapped (seat t q) c.1 in
      (w.0, w.1, w.2, first_of_both _ _ c.0, none_of (joined t q) (second_of_both _ _ c.0))
    where
      mapped : (o : Option Row) → option_map (λ (x : Row). record x { parent = into t x.parent }) o ≡ Some r → (x : Row) × (o ≡ Some x) × (r ≡ record x { parent = into t x.parent })
      mapped None e = none_some r None refl e
      mapped (Some x) e = (x, refl, same_some r (record x { parent = into t x.parent }) (Some r) refl (sym e))

      none_of : (o : Option NodeId) → not (is_some o) ≡ true → o ≡ None
      none_of None e = refl
      none_of (Some a) e = not_both true refl (not_was true e)

module _ (n m : ℕ) (t : Three) (can : CanMerge n m t) where
  pub joined_step : (q : NodeId) → joined t q ≡ next t (into t) q
  joined_step q = elim (row_cases t.ours q) [
    | inl w ↦
        let most : IsAtMost (length t.ids) t.ours = listed_most (length t.ids) t.ids t.ours (omega arith) can.ours_in in
        let a = some_and _ (t.merged root) can.merged.rooted in
        sym (settled t a.0 a.1 (length t.ids) q (meets_within (length t.ids) t.ours most root q m (can.ours.reaches q w.0 w.1)) (length t.ids) (omega arith))
    | inr none ↦ lone t (length t.ids) q none ∙ sym (lone t (suc (length t.ids)) q none)
  ]

  pub joins : (q a : NodeId) → joined t q ≡ Some a → Joins t q a
  joins q a h =
      let c = chosen _ _ a (sym (joined_step q) ∙ h) in
      let w = then_some _ (t.ours q) a c.1 in
      let f = found_passes (takes t w.0 (into t w.0.parent)) t.ids a w.2 in
      let rest = second_of_both _ _ f in
      let x = passes_row (λ (r : Row). t.may w.0 r && (same_node r.parent (into t w.0.parent) && bytes_eq r.name w.0.name)) (t.merged a) (second_of_both _ _ rest) in
      let place = second_of_both _ _ x.2 in
      record {
        kept = first_of_both _ _ c.0;
        new = no_row (t.merged q) (second_of_both _ _ c.0);
        row = w.0;
        found = w.1;
        host_kept = first_of_both _ _ f;
        host_new = no_row (t.ours a) (first_of_both _ _ rest);
        host = x.0;
        host_found = x.1;
        may = first_of_both _ _ x.2;
        parent = node_is _ _ (first_of_both _ _ place);
        name = bytes_same _ _ (second_of_both _ _ place);
      }

  not_joined_root : (q a : NodeId) → joined t q ≡ Some a → q ≢ root
  not_joined_root q a h e = let r = some_and _ (t.merged root) can.merged.rooted in none_some r.0 (t.merged q) (joins q a h).new (ap t.merged e ∙ r.1)

  by_cases : (p q : NodeId) (r s : Row) → t.ours p ≡ Some r → t.ours q ≡ Some s → into t p ≡ into t q → ((a : NodeId) → joined t p ≡ Some a → joined t q ≡ Some a → p ≡ q) → p ≡ q
  by_cases p q r s hp hq h joint = elim (into_cases t p) [
    | inl x ↦ elim (into_cases t q) [
      | inl y ↦ joint x.0 x.1 (y.1 ∙ ap Some (sym y.2 ∙ sym h ∙ x.2))
      | inr y ↦ none_some s (t.ours q) (ap t.ours (sym y.1 ∙ sym h ∙ x.2) ∙ (joins p x.0 x.1).host_new) hq
    ]
    | inr x ↦ elim (into_cases t q) [
      | inl y ↦ none_some r (t.ours p) (ap t.ours (sym x.1 ∙ h ∙ y.2) ∙ (joins q y.0 y.1).host_new) hp
      | inr y ↦ sym x.1 ∙ h ∙ y.1
    ]
  ]

  our_parent : (q : NodeId) (r : Row) → q ≢ root → t.ours q ≡ Some r → (p : Row) × (t.ours r.parent ≡ Some p)
  our_parent q r off h = let w = dir_at t.ours r.parent (can.ours.parents q r h off) in (w.0, w.1)

  -- rows of ours go to different rows
  into_differs : (k : ℕ) (p q : NodeId) (r s : Row) → meets t.ours root k p ≡ true → t.ours p ≡ Some r → t.ours q ≡ Some s → into t p ≡ into t q → p ≡ q
  into_differs zero p q r s walk hp hq h = by_cases p q r s hp hq h (λ a jp jq. absurd (not_joined_root p a jp (node_is p root walk)))
  into_differs (suc k) p q r s walk hp hq h = by_cases p q r s hp hq h (λ a jp jq.
      let x = joins p a jp in
      let y = joins q a jq in
      let op = not_joined_root p a jp in
      let oq = not_joined_root q a jq in
      let w = meets_from t.ours root p k op walk in
      let same_host : x.host ≡ y.host = same_some x.host y.host (t.merged a) x.host_found y.host_found in
      let same_r : w.0 ≡ x.row = same_some w.0 x.row (t.ours p) w.1 x.found in
      let up : into t w.0.parent ≡ into t y.row.parent = ap (λ (z : Row). into t z.parent) same_r ∙ sym x.parent ∙ ap (λ (z : Row). z.parent) same_host ∙ y.parent in
      let pp = our_parent p w.0 op w.1 in
      let pq = our_parent q y.row oq y.found in
      let parents = into_differs k w.0.parent y.row.parent pp.0 pq.0 w.2 pp.1 pq.1 up in
      can.ours.places p q w.0 y.row w.1 y.found op oq parents (ap (λ (z : Row). z.name) same_r ∙ sym x.name ∙ ap (λ (z : Row). z.name) same_host ∙ y.name))

  pub into_once : (p q : NodeId) (r s : Row) → t.ours p ≡ Some r → t.ours q ≡ Some s → into t p ≡ into t q → p ≡ q
  into_once p q r s hp = into_differs m p q r s (can.ours.reaches p r hp) hp

  -- what a row is joined to has its place in merged, and is left
  pub host_seat : (q a : NodeId) (j : Joins t q a) → seat t a ≡ Some j.host
  host_seat q a j = seat_theirs t a j.host j.host_found j.host_new

  pub host_stands : (q a : NodeId) (j : Joins t q a) → standing t a ≡ Some (record j.host { parent = into t j.host.parent })
  host_stands q a j = standing_row t a j.host j.host_kept (merged_stays t (length t.ids) a j.host j.host_found) (host_seat q a j)

  -- and the walk from there is no longer
  level : (k : ℕ) (q a : NodeId) → joined t q ≡ Some a → meets (seat t) root k q ≡ true → meets (seat t) root k a ≡ true
  level zero q a h walk = absurd (not_joined_root q a h (node_is q root walk))
  level (suc k) q a h walk =
      let j = joins q a h in
      let w = meets_from (seat t) root q k (not_joined_root q a h) walk in
      let same : w.0 ≡ j.row = same_some w.0 j.row (seat t q) w.1 (seat_new t q j.row j.new j.found) in
      let up : into t w.0.parent ≡ j.host.parent = ap (λ (z : Row). into t z.parent) same ∙ sym j.parent in
      meets_step (seat t) root a k j.host (host_seat q a j) (elim (into_cases t w.0.parent) [
        | inl x ↦ subst (λ z. meets (seat t) root k z ≡ true) (sym x.2 ∙ up) (level k w.0.parent x.0 x.1 w.2)
        | inr x ↦ subst (λ z. meets (seat t) root k z ≡ true) (sym x.1 ∙ up) w.2
      ])

  -- a row that is left, or what it is joined to, reaches the root in no more steps
  left_goes : (k : ℕ) (q : NodeId) → is_kept t q ≡ true → joined t q ≡ None → meets (seat t) root k q ≡ true → meets (standing t) root k q ≡ true
  left_goes zero q kept none walk = walk
  left_goes (suc k) q kept none walk = elim (node_cases q root) [
    | inl e ↦ subst (λ x. meets (standing t) root (suc k) x ≡ true) (sym e) (meets_here (standing t) root (suc k))
    | inr off ↦
        let w = meets_from (seat t) root q k off walk in
        let up = kept_parent n m t can q w.0 w.1 kept in
        meets_step (standing t) root q k (record w.0 { parent = into t w.0.parent }) (standing_row t q w.0 kept none w.1) (elim (into_cases t w.0.parent) [
          | inl x ↦
              let j = joins w.0.parent x.0 x.1 in
              subst (λ z. meets (standing t) root k z ≡ true) (sym x.2)
              (left_goes k x.0 j.host_kept (merged_stays t (length t.ids) x.0 j.host j.host_found) (level k w.0.parent x.0 x.1 w.2))
          | inr x ↦ subst (λ z. meets (standing t) root k z ≡ true) (sym x.1) (left_goes k w.0.parent up x.0 w.2)
        ])
  ]

  pub standing_reaches : (q : NodeId) (r : Row) → standing t q ≡ Some r → meets (standing t) root (length t.ids) q ≡ true
  standing_reaches q r h =
      let w = standing_was t q r h in
      left_goes (length t.ids) q w.3 w.4 (seat_reaches n m t can q w.0 w.1)

  -- the parent of a row that is left is left, and a Dir
  pub standing_parent : (q : NodeId) (r : Row) → standing t q ≡ Some r → q ≢ root → (p : Row) × (standing t r.parent ≡ Some p) × (is_dir_row p ≡ true)
  standing_parent q r h off =
      let w = standing_was t q r h in
      let up = kept_parent n m t can q w.0 w.1 w.3 in
      let p = parent_there n m t can q w.0 off w.1 in
      let is : r.parent ≡ into t w.0.parent = ap (λ (z : Row). z.parent) w.2 in
      elim (into_cases t w.0.parent) [
        | inl x ↦
            let j = joins w.0.parent x.0 x.1 in
            let same : p.0 ≡ j.row = same_some p.0 j.row (seat t w.0.parent) p.1 (seat_new t w.0.parent j.row j.new j.found) in
            (record j.host { parent = into t j.host.parent }, ap (standing t) (is ∙ x.2) ∙ host_stands w.0.parent x.0 j, sym (ap is_dir_row same ∙ can.joined_kinds j.row j.host j.may) ∙ p.2)
        | inr x ↦ (record p.0 { parent = into t p.0.parent }, ap (standing t) (is ∙ x.1) ∙ standing_row t w.0.parent p.0 up x.0 p.1, p.2)
      ]

  -- two rows of one side do not share a place
  pub standing_places : (p q : NodeId) (r s : Row) → standing t p ≡ Some r → standing t q ≡ Some s → on_ours t p ≡ on_ours t q → p ≢ root → q ≢ root → r.parent ≡ s.parent → r.name ≡ s.name → p ≡ q
  standing_places p q r s hp hq side op oq same_parent same_name =
      let x = standing_was t p r hp in
      let y = standing_was t q s hq in
      let parents : into t x.0.parent ≡ into t y.0.parent = sym (ap (λ (z : Row). z.parent) x.2) ∙ same_parent ∙ ap (λ (z : Row). z.parent) y.2 in
      let names : x.0.name ≡ y.0.name = sym (ap (λ (z : Row). z.name) x.2) ∙ same_name ∙ ap (λ (z : Row). z.name) y.2 in
      elim (seat_cases t p x.0 x.1) [
        | inl a ↦ elim (seat_cases t q y.0 y.1) [
          | inl b ↦
              let pp = our_parent p x.0 op a.1 in
              let pq = our_parent q y.0 oq b.1 in
              can.ours.places p q x.0 y.0 a.1 b.1 op oq (into_once x.0.parent y.0.parent pp.0 pq.0 pp.1 pq.1 parents) names
          | inr b ↦ not_both _ a.0 (side ∙ b.0)
        ]
        | inr a ↦ elim (seat_cases t q y.0 y.1) [
          | inl b ↦ not_both _ b.0 (sym side ∙ a.0)
          | inr b ↦
              let pp = dir_at t.merged x.0.parent (can.merged.parents p x.0 a.1 op) in
              let pq = dir_at t.merged y.0.parent (can.merged.parents q y.0 b.1 oq) in
              can.merged.places p q x.0 y.0 a.1 b.1 op oq (sym (into_merged t x.0.parent pp.0 pp.1) ∙ parents ∙ into_merged t y.0.parent pq.0 pq.1) names
        ]
      ]
