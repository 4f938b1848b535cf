-- What a finite map answers after a change, and that it has as many rows as its length says.
use Rattle.std.proofs.Common.{◌≡◌, ℕ, zero, suc, ◌-◌, inl, inr, cond, Some, None, is_some, nat_eq, ◌&&◌, refl, sym, ap, subst, ◌∙◌, arith}
use Rattle.std.specs.Cmp.{IsTotalOrder, nat_cmp_total}
use Rattle.std.specs.declared.cmp.Ordering.{Ordering}
use Rattle.std.specs.declared.cmp.Ordering.TheVariants.{Less, Equal, Greater}
use Rattle.std.proofs.lemmas.Bool.Decides.{nat_tests}
use Rattle.std.specs.Ordering.{nat_cmp, ordering_then, eq_by_cmp, is_eq}
use Rattle.std.specs.FinMap.{get, insert, remove, len, get-insert, get-remove, len-remove, same_map, empty_of_len, get-empty}
use Rattle.std.proofs.lemmas.Cmp.{on_total, then_total}
use Rattle.std.proofs.lemmas.Map.Lookups.{CmpEqualImpliesEq, exact_pairs, exact_unsigned}
use Rattle.kb_name.specs.declared.ids.NodeId.{NodeId}
use Rattle.kb_ops.specs.declared.rows.Row.{Row}
use Rattle.kb_name.specs.Nodes.{same_node, node_cmp}
use Rattle.kb_ops.specs.Trees.{Tree, look}
use Rattle.kb_ops.proofs.Nodes.{node_self, node_other, node_cases}
use Rattle.kb_ops.proofs.Walks.{IsAtMost, without, without_here, without_other}
use Rattle.kb_ops.proofs.Kept.{Sets}

pub nodes_total : IsTotalOrder node_cmp
nodes_total = then_total (on_total (λ (s : NodeId). s.device) nat_cmp_total) (then_total (on_total (λ (s : NodeId). s.seq) nat_cmp_total) (on_total (λ (s : NodeId). s.part) nat_cmp_total))

-- ids that compare alike are one
pub exact_nodes : CmpEqualImpliesEq node_cmp
exact_nodes a b h =
    ap (λ (p : ℕ × (ℕ × ℕ)). record { device = p.0; seq = p.1.0; part = p.1.1 })
    (exact_pairs nat_cmp (λ (x y : ℕ × ℕ). ordering_then (nat_cmp x.0 y.0) (nat_cmp x.1 y.1)) exact_unsigned (exact_pairs nat_cmp nat_cmp exact_unsigned exact_unsigned) (a.device, (a.seq, a.part)) (b.device, (b.seq, b.part)) h)

-- the test of the order is that of the fields
tied : (x y : ℕ) → is_eq (nat_cmp x y) ≡ nat_eq x y
tied x y = grind (arith, nat_tests)

tied_then : (r s : Ordering) → is_eq (ordering_then r s) ≡ (is_eq r && is_eq s)
tied_then Less s = refl
tied_then Equal s = refl
tied_then Greater s = refl

pub tested : (a b : NodeId) → eq_by_cmp node_cmp a b ≡ same_node a b
tested a b =
    let d = tied a.device b.device in
    let s = tied a.seq b.seq in
    let p = tied a.part b.part in
    tied_then (nat_cmp a.device b.device) (ordering_then (nat_cmp a.seq b.seq) (nat_cmp a.part b.part))
    ∙ (λ i. d i && (tied_then (nat_cmp a.seq b.seq) (nat_cmp a.part b.part) ∙ (λ j. s j && p j)) i)

pub look-insert : (t : Tree) (k : NodeId) (r : Row) → Sets (look t) (look (insert t k r)) k (Some r)
look-insert t k r = record {
  here = get-insert nodes_total t k r k ∙ ap (λ b. cond b (Some r) (get t k)) (tested k k ∙ node_self k);
  others = λ q ne. get-insert nodes_total t k r q ∙ ap (λ b. cond b (Some r) (get t q)) (tested q k ∙ node_other q k ne);
}

pub look-remove : (t : Tree) (k : NodeId) → Sets (look t) (look (remove t k)) k None
look-remove t k = record {
  here = get-remove nodes_total t k k ∙ ap (λ b. cond b None (get t k)) (tested k k ∙ node_self k);
  others = λ q ne. get-remove nodes_total t k q ∙ ap (λ b. cond b None (get t q)) (tested q k ∙ node_other q k ne);
}

-- maps that answer alike are equal
pub same_tree : (s t : Tree) → ((q : NodeId) → look s q ≡ look t q) → s ≡ t
same_tree s t h = same_map nodes_total exact_nodes s t h

left_out : (t : Tree) (k q : NodeId) → look (remove t k) q ≡ without (look t) k q
left_out t k q = elim (node_cases q k) [
  | inl e ↦ subst (λ x. look (remove t k) x ≡ without (look t) k x) (sym e) ((look-remove t k).here ∙ sym (without_here (look t) k))
  | inr ne ↦ (look-remove t k).others q ne ∙ sym (without_other (look t) k q ne)
]

pub map_most : (n : ℕ) (t : Tree) → len t ≡ n → IsAtMost n (look t)
map_most zero t e = λ q. ap (λ m. get m q) (empty_of_len t e) ∙ get-empty node_cmp q
map_most (suc n) t e = λ k r h.
    let pred : len t - 1 ≡ n = omega (arith, e) in
    let less : len (remove t k) ≡ n = len-remove nodes_total t k ∙ ap (λ o. cond (is_some o) (len t - 1) (len t)) h ∙ pred in
    subst (IsAtMost n) (λ i q. left_out t k q i) (map_most n (remove t k) less)
