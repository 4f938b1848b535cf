-- The result is a well formed tree.
use Rattle.std.proofs.Common.{◌≡◌, ◌≢◌, ℕ, zero, suc, Bool, true, false, not, List, [], length, inl, inr, ◌&&◌, if◌then◌else◌, Option, Some, None, is_some, refl, sym, ap, subst, ◌∙◌}
use mathlib.Core.Bool.{beq}
use Rattle.std.specs.List.{list_any}
use Rattle.std.specs.Option.{option_map, option_map_or, option_and_then}
use Rattle.std.specs.Str.{bytes_eq}
use Rattle.kb_name.specs.declared.ids.NodeId.{NodeId}
use Rattle.kb_ops.specs.declared.values.Kind.{Kind}
use Rattle.kb_ops.specs.declared.values.Kind.TheVariants.{Dir}
use Rattle.kb_ops.specs.declared.rows.Row.{Row}
use Rattle.kb_name.specs.Names.{is_name}
use Rattle.kb_name.specs.Nodes.{root, same_node}
use Rattle.kb_ops.specs.Rows.{is_dir, is_dir_kind, meets, IsTree, IsPlain}
use Rattle.kb_ops.proofs.Nodes.{node_self, node_cases}
use Rattle.kb_ops.proofs.Walks.{IsAtMost, meets_here, meets_step, meets_from, meets_within, row_cases}
use Rattle.kb_ops.proofs.Kept.{at_dir, some_and, and_some}
use Rattle.kb_rules.specs.Names.{Given}
use Rattle.kb_rules.specs.Three.{Three, same_place, fields_by, fields, mixed}
use Rattle.kb_rules.specs.Places.{seat, on_ours}
use Rattle.kb_rules.specs.Joins.{into, standing}
use Rattle.kb_rules.specs.Names.{clashes, given, given_name, result}
use Rattle.kb_rules.specs.Ready.{is_in, CanMerge}
use Rattle.kb_rules.proofs.Ready.{CanName}
use Rattle.kb_rules.proofs.Basics.{bool_cases, not_both, both, first_of_both, not_is, same_some, none_some, in_any, bytes_self}
use Rattle.kb_rules.proofs.Reaching.{seat_cases, root_row_seat, root_side}
use Rattle.kb_rules.proofs.Keeps.{root_kept}
use Rattle.kb_rules.proofs.Joined.{then_some, into_merged, merged_stays, standing_row, standing_was, standing_reaches, standing_parent, standing_places}
use Rattle.kb_rules.proofs.Named.{find_given, given_at, given_id, given_apart, given_new, all_given, clash_given, name_cases}

-- the fields of a row keep id and kind and are plain
pub record IsOf (q : NodeId) (x f : Row) : Type 0 where
  pub id : f.id ≡ q
  pub kind : f.kind ≡ x.kind
  pub plain : IsPlain f.kind f.bytes f.exec

plain_mix : (k : Kind) (a b : Bool) (xs ys : List ℕ) (x y : Bool) → IsPlain k xs x → IsPlain k ys y → IsPlain k (if a then ys else xs) (if b then y else x)
plain_mix k true true xs ys x y p q = q
plain_mix k true false xs ys x y p q = record { small = q.small; no_bytes = q.no_bytes; no_exec = p.no_exec }
plain_mix k false true xs ys x y p q = record { small = p.small; no_bytes = p.no_bytes; no_exec = q.no_exec }
plain_mix k false false xs ys x y p q = p

module _ (n m : ℕ) (t : Three) (ready : CanName n m t) where
  abbrev can : CanMerge n m t
  can = ready.can

  mixed_of : (q : NodeId) (r s : Row) (o : Option Row) → t.merged q ≡ Some r → t.ours q ≡ Some s → (f : Row) × (fields_by (Some r) (Some s) o ≡ Some f) × IsOf q r f
  mixed_of q r s None e f = (r, refl, record { id = can.merged.keyed q r e; kind = refl; plain = can.merged.plain q r e })
  mixed_of q r s (Some o) e f = (
    mixed r s o,
    refl,
    record {
      id = can.merged.keyed q r e;
      kind = refl;
      plain = plain_mix r.kind (bytes_eq r.bytes o.bytes) (beq r.exec o.exec) r.bytes s.bytes r.exec s.exec (can.merged.plain q r e)
          (subst (λ k. IsPlain k s.bytes s.exec) (sym (can.kinds q r s e f)) (can.ours.plain q s f));
    },
  )

  pub fields_of : (q : NodeId) (x : Row) → seat t q ≡ Some x → (f : Row) × (fields t q ≡ Some f) × IsOf q x f
  fields_of q x h = elim (row_cases t.merged q) [
    | inl a ↦ elim (row_cases t.ours q) [
      | inl b ↦
          let w = mixed_of q a.0 b.0 (t.base q) a.1 b.1 in
          let kind : a.0.kind ≡ x.kind = elim (seat_cases t q x h) [
            | inl s ↦ can.kinds q a.0 x a.1 s.1
            | inr s ↦ ap (λ (z : Row). z.kind) (same_some a.0 x (t.merged q) a.1 s.1)
          ] in
          (w.0, (λ i. fields_by (a.1 i) (b.1 i) (t.base q)) ∙ w.1, record { id = w.2.id; kind = w.2.kind ∙ kind; plain = w.2.plain })
      | inr none ↦
          let same : a.0 ≡ x = elim (seat_cases t q x h) [ inl s ↦ none_some x (t.ours q) none s.1 | inr s ↦ same_some a.0 x (t.merged q) a.1 s.1 ] in
          (a.0, (λ i. fields_by (a.1 i) (none i) (t.base q)), record { id = can.merged.keyed q a.0 a.1; kind = ap (λ (z : Row). z.kind) same; plain = can.merged.plain q a.0 a.1 })
    ]
    | inr none ↦
        let is : t.ours q ≡ Some x = elim (seat_cases t q x h) [ inl s ↦ s.1 | inr s ↦ none_some x (t.merged q) none s.1 ] in
        (x, (λ i. fields_by (none i) (is i) (t.base q)), record { id = can.ours.keyed q x is; kind = refl; plain = can.ours.plain q x is })
  ]

  -- a row of the result
  abbrev named_as : NodeId → Row → Row → Row
  named_as q s f = record f { parent = s.parent; name = given_name (given t) q s.name }

  pub result_row : (q : NodeId) (s : Row) → standing t q ≡ Some s → (f : Row) × (result t q ≡ Some (named_as q s f)) × IsOf q s f
  result_row q s h =
      let x = standing_was t q s h in
      let f = fields_of q x.0 x.1 in (
        f.0,
        ap (option_and_then (λ (s : Row). option_map (named_as q s) (fields t q))) h ∙ ap (option_map (named_as q s)) f.1,
        record { id = f.2.id; kind = f.2.kind ∙ sym (ap (λ (z : Row). z.kind) x.2); plain = f.2.plain },
      )

  pub result_was : (q : NodeId) (w : Row) → result t q ≡ Some w → (s : Row) × (standing t q ≡ Some s) × (f : Row) × (w ≡ named_as q s f) × IsOf q s f
  result_was q w h =
      let s = then_some (λ (s : Row). option_map (named_as q s) (fields t q)) (standing t q) w h in
      let f = result_row q s.0 s.1 in
      (s.0, s.1, f.0, same_some w (named_as q s.0 f.0) (result t q) h f.1, f.2)

  pub standing_in : (q : NodeId) (s : Row) → standing t q ≡ Some s → is_in q t.ids ≡ true
  standing_in q s h = let x = standing_was t q s h in elim (seat_cases t q x.0 x.1) [ inl a ↦ can.ours_in q x.0 a.1 | inr a ↦ can.merged_in q x.0 a.1 ]

  -- the root's row
  root_stands : (a : Row) × (standing t root ≡ Some a) × (a.kind ≡ Dir) × (a.parent ≡ root) × (a.name ≡ [])
  root_stands =
      let a = some_and _ (t.merged root) can.merged.rooted in
      let at : seat t root ≡ Some a.0 = root_row_seat n m t can ∙ a.1 in
      (record a.0 { parent = into t a.0.parent }, standing_row t root a.0 (root_kept n m t can) (merged_stays t (length t.ids) root a.0 a.1) at, a.2.0, ap (into t) a.2.1 ∙ into_merged t root a.0 a.1, a.2.2)

  root_on_merged : on_ours t root ≡ false
  root_on_merged = root_side n m t can

  pub name_kept : (q : NodeId) (name : List ℕ) → on_ours t q ≡ false → given_name (given t) q name ≡ name
  name_kept q name h = elim (name_cases t (given t) q name) [
    | inl g ↦ let w = given_at t (given t) (all_given t ready.differ) q g.0 g.1 in not_both _ (first_of_both _ _ (subst (λ z. clashes t z ≡ true) (given_id t (given t) q g.0 g.1) w.1.clash)) h
    | inr none ↦ none.1
  ]

  -- where two rows of different sides share a place, the one of ours is given a name
  clash_at : (p q : NodeId) (r s : Row) → standing t p ≡ Some r → standing t q ≡ Some s → on_ours t p ≡ true → on_ours t q ≡ false → r.parent ≡ s.parent → r.name ≡ s.name → clashes t p ≡ true
  clash_at p q r s hp hq op oq same_parent same_name =
      let here : (not (on_ours t q) && option_map_or (same_place r) (standing t q) false) ≡ true =
      both _ _ (not_is _ oq) (ap (λ o. option_map_or (same_place r) o false) hq
      ∙ both _ _ (ap (λ z. same_node z s.parent) same_parent ∙ node_self s.parent) (ap (λ z. bytes_eq z s.name) same_name ∙ bytes_self s.name)) in
      both _ _ op (ap (λ o. option_map_or (λ (r : Row). list_any (λ p. not (on_ours t p) && option_map_or (same_place r) (standing t p) false) t.ids) o false) hp
      ∙ in_any (λ p. not (on_ours t p) && option_map_or (same_place r) (standing t p) false) t.ids q (standing_in q s hq) here)

  -- and rows that are given none differ
  no_names : (p q : NodeId) (r s : Row) → standing t p ≡ Some r → standing t q ≡ Some s → find_given (given t) p ≡ None → find_given (given t) q ≡ None → p ≢ root → q ≢ root → r.parent ≡ s.parent → r.name ≡ s.name → p ≡ q
  no_names p q r s hp hq np nq op oq same_parent same_name = elim (bool_cases (on_ours t p)) [
    | inl a ↦ elim (bool_cases (on_ours t q)) [
      | inl b ↦ standing_places n m t can p q r s hp hq (a ∙ sym b) op oq same_parent same_name
      | inr b ↦ not_both _ (clash_given t p (clash_at p q r s hp hq a b same_parent same_name) (standing_in p r hp)) (ap is_some np)
    ]
    | inr a ↦ elim (bool_cases (on_ours t q)) [
      | inl b ↦ not_both _ (clash_given t q (clash_at q p s r hq hp b a (sym same_parent) (sym same_name)) (standing_in q s hq)) (ap is_some nq)
      | inr b ↦ standing_places n m t can p q r s hp hq (a ∙ sym b) op oq same_parent same_name
    ]
  ]

  -- the directory of a name that was given is that of its row
  given_parent : (q : NodeId) (s : Row) (g : Given) → find_given (given t) q ≡ Some g → standing t q ≡ Some s → g.parent ≡ s.parent
  given_parent q s g fg h =
      let w = given_at t (given t) (all_given t ready.differ) q g fg in
      w.1.parent ∙ ap (λ (z : Row). z.parent) (same_some w.1.row s (standing t q) (ap (standing t) (sym (given_id t (given t) q g fg)) ∙ w.1.found) h)

  names_differ : (p q : NodeId) (r s : Row) → standing t p ≡ Some r → standing t q ≡ Some s → p ≢ root → q ≢ root → r.parent ≡ s.parent → given_name (given t) p r.name ≡ given_name (given t) q s.name → p ≡ q
  names_differ p q r s hp hq op oq same_parent same_name = elim (name_cases t (given t) p r.name) [
    | inl g ↦ elim (name_cases t (given t) q s.name) [
      | inl h ↦ elim (node_cases p q) [
        | inl e ↦ e
        | inr ne ↦ absurd (given_apart t (given t) (all_given t ready.differ) p q g.0 h.0 ne g.1 h.1 (given_parent p r g.0 g.1 hp ∙ same_parent ∙ sym (given_parent q s h.0 h.1 hq)) (sym g.2 ∙ same_name ∙ h.2))
      ]
      | inr b ↦ absurd (given_new t (given t) (all_given t ready.differ) p q g.0 s g.1 hq (standing_in q s hq) (given_parent p r g.0 g.1 hp ∙ same_parent) (sym g.2 ∙ same_name ∙ b.1))
    ]
    | inr a ↦ elim (name_cases t (given t) q s.name) [
      | inl h ↦ absurd (given_new t (given t) (all_given t ready.differ) q p h.0 r h.1 hp (standing_in p r hp) (given_parent q s h.0 h.1 hq ∙ sym same_parent) (sym h.2 ∙ sym same_name ∙ a.1))
      | inr b ↦ no_names p q r s hp hq a.0 b.0 op oq same_parent (sym a.1 ∙ same_name ∙ b.1)
    ]
  ]

  -- names of rows are names
  seat_named : (q : NodeId) (s : Row) → standing t q ≡ Some s → q ≢ root → is_name s.name ≡ true
  seat_named q s h off =
      let x = standing_was t q s h in
      ap (λ (z : Row). is_name z.name) x.2 ∙ elim (seat_cases t q x.0 x.1) [ inl a ↦ can.ours.named q x.0 a.1 off | inr a ↦ can.merged.named q x.0 a.1 off ]

  result_named : (q : NodeId) (s : Row) → standing t q ≡ Some s → q ≢ root → is_name (given_name (given t) q s.name) ≡ true
  result_named q s h off = elim (name_cases t (given t) q s.name) [
    | inl g ↦
        let w = given_at t (given t) (all_given t ready.differ) q g.0 g.1 in
        let same : w.1.row ≡ s = same_some w.1.row s (standing t q) (ap (standing t) (sym (given_id t (given t) q g.0 g.1)) ∙ w.1.found) h in
        ap is_name (g.2 ∙ w.1.name ∙ ap (λ (z : Row). t.conflicted z.name w.1.k) same) ∙ ready.named s.name w.1.k w.1.from_one w.1.small (seat_named q s h off)
    | inr none ↦ ap is_name none.1 ∙ seat_named q s h off
  ]

  result_meets : (k : ℕ) (q : NodeId) → meets (standing t) root k q ≡ true → meets (result t) root k q ≡ true
  result_meets zero q h = h
  result_meets (suc k) q h = elim (node_cases q root) [
    | inl e ↦ subst (λ x. meets (result t) root (suc k) x ≡ true) (sym e) (meets_here (result t) root (suc k))
    | inr off ↦
        let w = meets_from (standing t) root q k off h in
        let r = result_row q w.0 w.1 in
        meets_step (result t) root q k (named_as q w.0 r.0) r.1 (result_meets k w.0.parent w.2)
  ]

  pub result_formed : (rows : ℕ) → IsAtMost rows (result t) → IsTree rows (result t)
  result_formed rows most = record {
    keyed = λ q r h. let w = result_was q r h in ap (λ (z : Row). z.id) w.3 ∙ w.4.id;
    rooted =
        let a = root_stands in
        let w = result_row root a.0 a.1 in
        and_some _ (result t root) (named_as root a.0 w.0) w.1 (w.2.kind ∙ a.2, a.3, name_kept root a.0.name root_on_merged ∙ a.4);
    parents = λ q r h off.
        let w = result_was q r h in
        let p = standing_parent n m t can q w.0 w.1 off in
        let x = result_row w.0.parent p.0 p.1 in
        subst (λ z. is_dir (result t) z ≡ true) (sym (ap (λ (z : Row). z.parent) w.3)) (at_dir (result t) w.0.parent (named_as w.0.parent p.0 x.0) x.1 (ap is_dir_kind x.2.kind ∙ p.2));
    named = λ q r h off. let w = result_was q r h in ap (λ (z : Row). is_name z.name) w.3 ∙ result_named q w.0 w.1 off;
    places = λ p q r s hp hq op oq same_parent same_name.
        let x = result_was p r hp in
        let y = result_was q s hq in
        names_differ p q x.0 y.0 x.1 y.1 op oq
        (sym (ap (λ (z : Row). z.parent) x.3) ∙ same_parent ∙ ap (λ (z : Row). z.parent) y.3)
        (sym (ap (λ (z : Row). z.name) x.3) ∙ same_name ∙ ap (λ (z : Row). z.name) y.3);
    reaches = λ q r h.
        let w = result_was q r h in
        meets_within rows (result t) most root q (length t.ids) (result_meets (length t.ids) q (standing_reaches n m t can q w.0 w.1));
    plain = λ q r h. let w = result_was q r h in subst (λ (z : Row). IsPlain z.kind z.bytes z.exec) (sym w.3) w.4.plain;
  }
