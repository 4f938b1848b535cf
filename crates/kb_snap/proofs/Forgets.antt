-- Forgetting pointers: once the root is reached nothing more changes, and what is left of the rest.
use Rattle.std.proofs.Common.{◌≡◌, ◌≢◌, ℕ, zero, suc, Bool, true, false, ◌||◌, cond, Option, Some, None, refl, ap, sym, subst, ◌∙◌, inl, inr}
use Rattle.std.specs.Option.{option_map_or}
use Rattle.std.specs.FinMap.{get, remove, get-remove, same_map}
use Rattle.kb_name.specs.declared.ids.NodeId.{NodeId}
use Rattle.kb_name.specs.Nodes.{root, same_node}
use Rattle.kb_ops.specs.declared.rows.Row.{Row}
use Rattle.kb_ops.specs.Rows.{Look, meets}
use Rattle.kb_ops.specs.Trees.{Tree, look, IsWellFormed}
use Rattle.kb_ops.proofs.Kept.{some_and}
use Rattle.kb_ops.proofs.Nodes.{node_cases, node_self, node_other}
use Rattle.kb_ops.proofs.Looks.{nodes_total, exact_nodes, tested}
use Rattle.kb_blocks.specs.declared.pointer.Ptr.{Ptr}
use Rattle.kb_snap.specs.Pointers.{Kept}

-- no pointer of the row, nor of those on its walk of parents, so many steps far
abbrev pub forgotten : Look → ℕ → NodeId → Kept → Kept
forgotten look zero q kept = remove kept q
forgotten look (suc n) q kept = option_map_or (λ (r : Row). forgotten look n r.parent (remove kept q)) (look q) (remove kept q)

gone : (m : Kept) (k : NodeId) → get (remove m k) k ≡ None
gone m k = get-remove nodes_total m k k ∙ ap (λ b. cond b None (get m k)) (tested k k ∙ node_self k)

others : (m : Kept) (k q : NodeId) → q ≢ k → get (remove m k) q ≡ get m q
others m k q ne = get-remove nodes_total m k q ∙ ap (λ b. cond b None (get m q)) (tested q k ∙ node_other q k ne)

again : (m : Kept) (k : NodeId) → remove (remove m k) k ≡ remove m k
again m k = same_map nodes_total exact_nodes _ _ (λ q. elim (node_cases q k) [
  | inl e ↦ subst (λ x. get (remove (remove m k) k) x ≡ get (remove m k) x) (sym e) (gone (remove m k) k ∙ sym (gone m k))
  | inr ne ↦ others (remove m k) k q ne
])

onwards : Look → ℕ → Kept → Option Row → Kept → Kept
onwards look n kept o m = option_map_or (λ (r : Row). forgotten look n r.parent m) o m

-- the step from a row to its parent
pub forgotten_next : (look : Look) (n : ℕ) (q : NodeId) (r : Row) (m : Kept) → look q ≡ Some r → forgotten look (suc n) q m ≡ forgotten look n r.parent (remove m q)
forgotten_next look n q r m is = ap (λ o. option_map_or (λ (s : Row). forgotten look n s.parent (remove m q)) o (remove m q)) is

pub forgotten_last : (look : Look) (n : ℕ) (q : NodeId) (m : Kept) → look q ≡ None → forgotten look (suc n) q m ≡ remove m q
forgotten_last look n q m is = ap (λ o. option_map_or (λ (s : Row). forgotten look n s.parent (remove m q)) o (remove m q)) is

-- the root is its own parent
pub forgotten_root : (t : Tree) → IsWellFormed t → (n : ℕ) (m : Kept) → forgotten (look t) n root m ≡ remove m root
forgotten_root t w zero m = refl
forgotten_root t w (suc n) m =
    let r = some_and _ (look t root) w.rooted in
    forgotten_next (look t) n root r.0 m r.1 ∙ ap (λ q. forgotten (look t) n q (remove m root)) r.2.1 ∙ forgotten_root t w n (remove m root) ∙ again m root

no_both : (b : Bool) → ◌≡◌ {A = Option Ptr} (cond b None None) None
no_both true = refl
no_both false = refl

here_or : (m : Kept) (from q : NodeId) (b : Bool) → cond b None (get (remove m from) q) ≡ cond (same_node from q || b) None (get m q)
here_or m from q b = elim (node_cases q from) [
  | inl e ↦ subst (λ x. cond b None (get (remove m from) x) ≡ cond (same_node from x || b) None (get m x)) (sym e) (ap (cond b None) (gone m from) ∙ no_both b ∙ sym (ap (λ c. cond (c || b) None (get m from)) (node_self from)))
  | inr ne ↦ ap (cond b None) (others m from q ne) ∙ sym (ap (λ c. cond (c || b) None (get m q)) (node_other from q (λ p. ne (sym p))))
]

-- what is left: a row that the walk meets has no pointer, any other keeps its own
pub left_after : (l : Look) (n : ℕ) (from : NodeId) (m : Kept) (q : NodeId) → get (forgotten l n from m) q ≡ cond (meets l q n from) None (get m q)
left_after l zero from m q = elim (node_cases q from) [
  | inl e ↦ subst (λ x. get (remove m from) x ≡ cond (same_node from x) None (get m x)) (sym e) (gone m from ∙ sym (ap (λ b. cond b None (get m from)) (node_self from)))
  | inr ne ↦ others m from q ne ∙ sym (ap (λ b. cond b None (get m q)) (node_other from q (λ p. ne (sym p))))
]
left_after l (suc n) from m q = elim (l from) as (λ (o : Option Row). get (option_map_or (λ (r : Row). forgotten l n r.parent (remove m from)) o (remove m from)) q ≡ cond (same_node from q || option_map_or (λ r. meets l q n r.parent) o false) None (get m q)) [
  | Some r ↦ left_after l n r.parent (remove m from) q ∙ here_or m from q (meets l q n r.parent)
  | None ↦ here_or m from q false
]
