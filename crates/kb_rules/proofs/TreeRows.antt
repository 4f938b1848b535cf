-- A list of rows that a look has at ascending ids, and its tree.
use Rattle.std.proofs.Common.{◌≡◌, ◌≢◌, Bool, true, false, List, [], ◌∷◌, map, inl, inr, ◌||◌, cond, Option, Some, None, refl, sym, ap, ◌∙◌}
use Rattle.std.specs.List.{filter_map, cons_option}
use Rattle.std.specs.Ordering.{is_lt}
use Rattle.std.specs.FinMap.Entries as entries
use Rattle.kb_name.specs.declared.ids.NodeId.{NodeId}
use Rattle.kb_name.specs.Nodes.{same_node, node_cmp}
use Rattle.kb_ops.specs.declared.rows.Row.{Row}
use Rattle.kb_ops.specs.Rows.{Look}
use Rattle.kb_ops.specs.Lists.{keyed, tree_of, rises}
use Rattle.kb_ops.proofs.Nodes.{node_self, node_other, node_cases}
use Rattle.kb_ops.proofs.Walks.{row_cases}
use Rattle.kb_ops.proofs.Looks.{same_tree}
use Rattle.kb_ops.proofs.Lists.{look_of, row_of}
use Rattle.kb_rules.specs.Merge.{tree_at}
use Rattle.kb_rules.specs.Code.{above, ascend}
use Rattle.kb_rules.specs.Ready.{is_in}
use Rattle.kb_rules.proofs.Basics.{both, first_of_both, second_of_both, when, unless}
use Rattle.kb_rules.proofs.Ids.{look_at}

-- the row under an id has that id
abbrev pub IsKeyed : Look → Type 0
IsKeyed f = (q : NodeId) (r : Row) → f q ≡ Some r → r.id ≡ q

below_rows : (f : Look) → IsKeyed f → (k : NodeId) (ids : List NodeId) → above k ids ≡ true → entries.below_all node_cmp k (map keyed (filter_map f ids)) ≡ true
below_rows f is k [] h = refl
below_rows f is k (q ∷ ids) h = elim (row_cases f q) [
  | inl w ↦ ap (λ o. entries.below_all node_cmp k (map keyed (cons_option o (filter_map f ids)))) w.1 ∙ both _ _ (ap (λ z. is_lt (node_cmp k z)) (is q w.0 w.1) ∙ first_of_both _ _ h) (below_rows f is k ids (second_of_both _ _ h))
  | inr none ↦ ap (λ o. entries.below_all node_cmp k (map keyed (cons_option o (filter_map f ids)))) none ∙ below_rows f is k ids (second_of_both _ _ h)
]

pub rows_rise : (f : Look) → IsKeyed f → (ids : List NodeId) → ascend ids ≡ true → rises (filter_map f ids) ≡ true
rows_rise f is [] h = refl
rows_rise f is (q ∷ ids) h = elim (row_cases f q) [
  | inl w ↦ ap (λ o. rises (cons_option o (filter_map f ids))) w.1 ∙ both _ _ (below_rows f is w.0.id ids (ap (λ z. above z ids) (is q w.0 w.1) ∙ first_of_both _ _ h)) (rows_rise f is ids (second_of_both _ _ h))
  | inr none ↦ ap (λ o. rises (cons_option o (filter_map f ids))) none ∙ rows_rise f is ids (second_of_both _ _ h)
]

found_row : (f : Look) → IsKeyed f → (ids : List NodeId) (q : NodeId) → row_of (filter_map f ids) q ≡ cond (is_in q ids) (f q) None
found_row f is [] q = refl
found_row f is (x ∷ ids) q = elim (node_cases q x) [
  | inl e ↦ elim (row_cases f x) [
    | inl w ↦ ap (λ o. row_of (cons_option o (filter_map f ids)) q) w.1
        ∙ when _ (Some w.0) (row_of (filter_map f ids) q) (ap (λ z. same_node z q) (is x w.0 w.1 ∙ sym e) ∙ node_self q)
        ∙ sym w.1 ∙ ap f (sym e) ∙ sym (ap (λ b. cond (b || is_in q ids) (f q) None) (ap (same_node q) (sym e) ∙ node_self q))
    | inr none ↦ ap (λ o. row_of (cons_option o (filter_map f ids)) q) none ∙ found_row f is ids q
        ∙ either (is_in q ids) (f q) (ap f e ∙ none) ∙ sym (ap (λ b. cond (b || is_in q ids) (f q) None) (ap (same_node q) (sym e) ∙ node_self q) ∙ ap f e ∙ none)
  ]
  | inr ne ↦ skip (λ e. ne (sym e)) (f x) refl ∙ found_row f is ids q ∙ sym (ap (λ b. cond (b || is_in q ids) (f q) None) (node_other q x ne))
]
  where
    either : (b : Bool) (o : Option Row) → o ≡ None → cond b o None ≡ None
    either true o e = e
    either false o e = refl

    skip : x ≢ q → (o : Option Row) → f x ≡ o → row_of (cons_option (f x) (filter_map f ids)) q ≡ row_of (filter_map f ids) q
    skip ne (Some r) h = ap (λ o. row_of (cons_option o (filter_map f ids)) q) h ∙ unless _ (Some r) (row_of (filter_map f ids) q) (ap (λ z. same_node z q) (is x r h) ∙ node_other x q ne)
    skip ne None h = ap (λ o. row_of (cons_option o (filter_map f ids)) q) h

pub tree_rows : (f : Look) → IsKeyed f → (ids : List NodeId) → ascend ids ≡ true → tree_of (filter_map f ids) ≡ tree_at ids f
tree_rows f is ids h = same_tree _ _ (λ q. look_of (filter_map f ids) (rows_rise f is ids h) q ∙ found_row f is ids q ∙ sym (look_at f ids q))
