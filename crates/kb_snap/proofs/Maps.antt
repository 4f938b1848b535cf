-- The map that a `BTreeMap`'s entries make, by the ids of rows.
use Rattle.std.proofs.Common.{◌≡◌, List, [], ◌∷◌, cond, refl, ap, sym, ◌∙◌, Some, None}
use Rattle.std.specs.FinMap.{find, get, insert, remove, from_entries, get-from_entries, get-insert, get-remove, same_map}
use Rattle.std.specs.Cmp.{eq_by_cmp_equiv}
use Rattle.std.specs.BTreeMap.{is_at}
use Rattle.std.specs.Map.{lookup}
use Rattle.kb_name.specs.declared.ids.NodeId.{NodeId}
use Rattle.kb_name.specs.Nodes.{node_cmp}
use Rattle.kb_ops.proofs.Looks.{nodes_total, exact_nodes}

module _ {X : Type 0} where
  pub find-lookup : (es : List (NodeId × X)) (q : NodeId) → find node_cmp q es ≡ lookup (is_at (node_cmp q)) es
  find-lookup [] q = refl
  find-lookup (e ∷ es) q = ap (cond (is_at (node_cmp q) e.0) (Some e.1)) (find-lookup es q)

  pub get-lookup : (es : List (NodeId × X)) (q : NodeId) → get (from_entries {R = node_cmp} es) q ≡ lookup (is_at (node_cmp q)) es
  get-lookup es q = get-from_entries nodes_total es q ∙ find-lookup es q

  -- entries that differ at one id make maps that differ there
  pub inserted : (es fs : List (NodeId × X)) (k : NodeId) (a : X) → ((q : NodeId) → lookup (is_at (node_cmp q)) fs ≡ cond (is_at (node_cmp k) q) (Some a) (lookup (is_at (node_cmp q)) es)) → from_entries {R = node_cmp} fs ≡ insert (from_entries es) k a
  inserted es fs k a h = same_map nodes_total exact_nodes _ _ (λ q.
      get-lookup fs q ∙ h q ∙ ap (λ b. cond b (Some a) (lookup (is_at (node_cmp q)) es)) ((eq_by_cmp_equiv nodes_total).symm k q)
      ∙ sym (get-insert nodes_total (from_entries es) k a q ∙ ap (cond (is_at (node_cmp q) k) (Some a)) (get-lookup es q)))

  pub removed : (es fs : List (NodeId × X)) (k : NodeId) → ((q : NodeId) → lookup (is_at (node_cmp q)) fs ≡ cond (is_at (node_cmp k) q) None (lookup (is_at (node_cmp q)) es)) → from_entries {R = node_cmp} fs ≡ remove (from_entries es) k
  removed es fs k h = same_map nodes_total exact_nodes _ _ (λ q.
      get-lookup fs q ∙ h q ∙ ap (λ b. cond b None (lookup (is_at (node_cmp q)) es)) ((eq_by_cmp_equiv nodes_total).symm k q)
      ∙ sym (get-remove nodes_total (from_entries es) k q ∙ ap (cond (is_at (node_cmp q) k) None) (get-lookup es q)))
