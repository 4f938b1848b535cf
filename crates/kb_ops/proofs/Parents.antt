-- In a well formed tree only a Dir has children, and all that is above a Dir is one.
use Rattle.std.proofs.Common.{◌≡◌, ◌≢◌, ℕ, zero, suc, Bool, true, false, not, ◌&&◌, ◌||◌, List, [], ◌∷◌, cond, Some, inl, inr, refl, sym, ap, subst, ◌∙◌}
use mathlib.Core.Bool.{true≢false}
use Rattle.std.specs.Prelude.{find}
use Rattle.std.specs.Option.{unwrap_or}
use Rattle.std.specs.List.{list_any}
use Rattle.std.specs.FinMap as map
use Rattle.kb_name.specs.declared.ids.NodeId.{NodeId}
use Rattle.kb_name.specs.Nodes.{root, same_node}
use Rattle.kb_ops.specs.declared.rows.Row.{Row}
use Rattle.kb_ops.specs.Rows.{is_dir, is_dir_kind, meets}
use Rattle.kb_ops.specs.Trees.{Tree, look, IsWellFormed}
use Rattle.kb_ops.specs.Plan.{has_child}
use Rattle.kb_ops.proofs.Nodes.{node_is, node_cases, apart, and_first, and_second}
use Rattle.kb_ops.proofs.Walks.{meets_from}
use Rattle.kb_ops.proofs.Kept.{some_and, at_dir}
use Rattle.kb_ops.proofs.Children.{passes_some, is_true, not_true}

some_passes : (p : Row → Bool) (rows : List Row) → list_any p rows ≡ true → (r : Row) × (find p rows ≡ Some r)
some_passes p [] h = absurd (true≢false (sym h))
some_passes p (x ∷ rows) h = elim (p x) as (λ b. (b || list_any p rows) ≡ true → (r : Row) × (cond b (Some x) (find p rows) ≡ Some r)) [ true ↦ λ g. (x, refl) | false ↦ λ g. some_passes p rows g ] h

pub root_is_dir : (t : Tree) → IsWellFormed t → is_dir (look t) root ≡ true
root_is_dir t w = let r = some_and _ (look t root) w.rooted in at_dir (look t) root r.0 r.1 (ap is_dir_kind r.2.0)

parent_dir : (t : Tree) → IsWellFormed t → (q : NodeId) (r : Row) → look t q ≡ Some r → is_dir (look t) r.parent ≡ true
parent_dir t w q r h = elim (node_cases q root) [
  | inl e ↦
      let x = some_and _ (look t root) w.rooted in
      let same : r ≡ x.0 = ap (λ o. unwrap_or o r) (sym h ∙ ap (look t) e ∙ x.1) in
      subst (λ k. is_dir (look t) k ≡ true) (sym (ap (λ (y : Row). y.parent) same ∙ x.2.1)) (root_is_dir t w)
  | inr ne ↦ w.parents q r h ne
]

-- what a walk of parents from a Dir meets is a Dir
pub dir_above : (t : Tree) → IsWellFormed t → (n : ℕ) (node q : NodeId) → is_dir (look t) q ≡ true → meets (look t) node n q ≡ true → is_dir (look t) node ≡ true
dir_above t w zero node q dir h = subst (λ k. is_dir (look t) k ≡ true) (node_is q node h) dir
dir_above t w (suc n) node q dir h = elim (node_cases q node) [
  | inl e ↦ subst (λ k. is_dir (look t) k ≡ true) e dir
  | inr ne ↦ let r = meets_from (look t) node q n ne h in dir_above t w n node r.0.parent (parent_dir t w q r.0 r.1) r.2
]

pub childless_file : (t : Tree) → IsWellFormed t → (q : NodeId) → is_dir (look t) q ≡ false → has_child t q ≡ false
childless_file t w q none = elim (has_child t q) as (λ b. has_child t q ≡ b → b ≡ false) [
  | true ↦ λ e.
      let p : Row → Bool = λ r. not (same_node r.id root) && same_node r.parent q in
      let s = some_passes p (map.values t) e in
      let x = passes_some p s.0 (map.entries t) (is_true _ (map.entries_sorted t)) s.1 in
      let found : look t x.0 ≡ Some s.0 = map.get-entries t x.0 ∙ x.1 in
      let off : x.0 ≢ root = apart x.0 root (ap (λ k. same_node k root) (sym (w.keyed x.0 s.0 found)) ∙ not_true _ (and_first _ _ x.2)) in
      let dir : is_dir (look t) q ≡ true = subst (λ k. is_dir (look t) k ≡ true) (node_is s.0.parent q (and_second _ _ x.2)) (w.parents x.0 s.0 found off) in
      absurd (true≢false (sym dir ∙ none))
  | false ↦ λ e. refl
] refl
