-- Listing rows from the root down.
use Rattle.std.proofs.Common.{◌≡◌, ◌≢◌, ℕ, zero, suc, ◌+◌, ◌<◌, ◌≤◌, true, List, [], ◌∷◌, ◌++◌, length, take, get_or, Some, IsSome, is_some, refl, ap, sym, subst, ◌∙◌, arith, add-one, inl, inr}
use Rattle.std.specs.List.{AllByRecursion}
use Rattle.std.specs.FinMap.{len}
use Rattle.kb_name.specs.declared.ids.NodeId.{NodeId}
use Rattle.kb_name.specs.Nodes.{root}
use Rattle.kb_ops.specs.declared.rows.Row.{Row}
use Rattle.kb_ops.specs.Rows.{Look, meets}
use Rattle.kb_ops.specs.Trees.{Tree, look, IsWellFormed}
use Rattle.kb_ops.proofs.Kept.{some_and, dir_at}
use Rattle.kb_ops.proofs.Nodes.{node_is, node_cases}
use Rattle.kb_ops.proofs.Walks.{meets_from}
use Rattle.kb_snap.specs.Holds.{IsOneOf}
use Rattle.kb_snap.specs.Orders.{HasChildren, AreAbove, AreApart, IsTopDown, AddsChildren}
use Rattle.kb_snap.proofs.HeldRows.{some_is}
use Rattle.kb_snap.proofs.Among.{one_front, one_back, one_split, one_all, all_append, one_taken, one_next, apart_append, apart_at}
use Rattle.kb_snap.proofs.Listed.{child_there, children_all, children_apart, children_are}

-- behind each of the first ids stand its children
abbrev pub FirstAbove : Look → ℕ → List NodeId → Type 0
FirstAbove l zero ids = Unit {0}
FirstAbove l (suc i) [] = Unit {0}
FirstAbove l (suc i) (q ∷ ids) = HasChildren l q ids × FirstAbove l i ids

first_more : (l : Look) (i : ℕ) (ids more : List NodeId) (d : NodeId) → i < length ids → HasChildren l (get_or ids i d) more → FirstAbove l i ids → FirstAbove l (suc i) (ids ++ more)
first_more l i [] more d lt has f = absurd (omega arith)
first_more l zero (q ∷ ids) more d lt has f = (λ k r is off up. one_back k ids more (has k r is off up), tt)
first_more l (suc i) (q ∷ ids) more d lt has f = (λ k r is off up. one_front k ids more (f.0 k r is off up), first_more l i ids more d (omega (arith, lt)) has f.1)

all_above : (l : Look) (i : ℕ) (ids : List NodeId) → length ids ≤ i → FirstAbove l i ids → AreAbove l ids
all_above l zero [] le f = tt
all_above l (suc i) [] le f = tt
all_above l zero (q ∷ ids) le f = absurd (omega arith)
all_above l (suc i) (q ∷ ids) le f = (f.0, all_above l i ids (omega (arith, le)) f.1)

-- the children of the first ids are listed, and no others but the root
pub record AreListed (l : Look) (i : ℕ) (ids : List NodeId) : Type 0 where
  pub first : (rest : List NodeId) × (ids ≡ root ∷ rest)
  pub there : AllByRecursion (λ q. IsSome (l q)) ids
  pub above : FirstAbove l i ids
  pub apart : AreApart ids
  pub come : (k : NodeId) (r : Row) → IsOneOf k ids → k ≢ root → l k ≡ Some r → IsOneOf r.parent (take i ids)

pub listed_first : (t : Tree) → IsWellFormed t → (ids : List NodeId) → ids ≡ [] ++ root ∷ [] → AreListed (look t) 0 ids
listed_first t w ids e = subst (AreListed (look t) 0) (sym e) (record {
  first = ([], refl);
  there = (let r = some_and _ (look t root) w.rooted in ap is_some r.1, tt);
  above = tt;
  apart = (λ h. h, tt);
  come = λ k r h off is. elim h [ inl top ↦ absurd (off top) | inr none ↦ absurd none ];
})

pub listed_more : (t : Tree) → IsWellFormed t → (i : ℕ) (ids new : List NodeId) (d : NodeId) → i < length ids → AddsChildren t (get_or ids i d) ids new → AreListed (look t) i ids → AreListed (look t) (i + 1) new
listed_more t w i ids new d lt adds a =
    let q = get_or ids i d in
    let more = adds.0 in
    let are = adds.1.1 in
    subst (λ xs. AreListed (look t) (i + 1) xs) (sym adds.1.0) (subst (λ n. AreListed (look t) n (ids ++ more)) (sym (add-one i)) (record {
      first = (a.first.0 ++ more, ap (λ xs. xs ++ more) a.first.1);
      there = all_append (λ q. IsSome (look t q)) ids more a.there (one_all (λ q. IsSome (look t q)) more (children_are t w q more are));
      above = first_more (look t) i ids more d lt (children_all t w q more are) a.above;
      apart = apart_append ids more a.apart (children_apart t w q more are) (λ k l r.
          let s = child_there t w q more are k r in
          apart_at ids i d a.apart lt (subst (λ p. IsOneOf p (take i ids)) s.parent_is (a.come k s.row l s.not_root s.found)));
      come = λ k r h off is. elim (one_split k ids more h) [
        | inl l ↦ one_taken ids more i r.parent (a.come k r l off is)
        | inr m ↦
            let s = child_there t w q more are k m in
            let up : r.parent ≡ q = ap (λ (x : Row). x.parent) (some_is r s.row (sym is ∙ s.found)) ∙ s.parent_is in
            subst (λ p. IsOneOf p (take (suc i) (ids ++ more))) (sym up) (one_next ids more i d lt)
      ];
    }))

pub listed_all : (l : Look) (i : ℕ) (ids : List NodeId) → length ids ≤ i → AreListed l i ids → IsTopDown l ids
listed_all l i ids le a = record { first = a.first; there = a.there; above = all_above l i ids le a.above; apart = a.apart }

-- ---- all rows are listed

child_in : (l : Look) (ids : List NodeId) → AreAbove l ids → (q : NodeId) → IsOneOf q ids → (k : NodeId) (r : Row) → l k ≡ Some r → k ≢ root → r.parent ≡ q → IsOneOf k ids
child_in l [] a q h k r is off up = absurd h
child_in l (x ∷ ids) a q h k r is off up = elim h [
  | inl here ↦ inr (a.0 k r is off (up ∙ here))
  | inr there ↦ inr (child_in l ids a.1 q there k r is off up)
]

pub all_listed : (t : Tree) → IsWellFormed t → (ids : List NodeId) → IsTopDown (look t) ids → (q : NodeId) (r : Row) → look t q ≡ Some r → IsOneOf q ids
all_listed t w ids top q r is = from (len t) q r is (w.reaches q r is)
  where
    at_root : (q : NodeId) → q ≡ root → IsOneOf q ids
    at_root q e = subst (IsOneOf q) (sym top.first.1) (inl e)

    from : (n : ℕ) (q : NodeId) (r : Row) → look t q ≡ Some r → meets (look t) root n q ≡ true → IsOneOf q ids
    from zero q r is h = at_root q (node_is q root h)
    from (suc n) q r is h = elim (node_cases q root) [
      | inl e ↦ at_root q e
      | inr off ↦
          let step = meets_from (look t) root q n off h in
          let own : step.0 ≡ r = some_is step.0 r (sym step.1 ∙ is) in
          let above = dir_at (look t) r.parent (w.parents q r is off) in
          child_in (look t) ids top.above r.parent (from n r.parent above.0 above.1 (ap (λ (x : Row). meets (look t) root n x.parent) (sym own) ∙ step.2)) q r is off refl
    ]

-- the children of one in the middle are behind it
pub children_behind : (l : Look) (xs : List NodeId) (q : NodeId) (ys : List NodeId) → AreAbove l (xs ++ q ∷ ys) → HasChildren l q ys
children_behind l [] q ys a = a.0
children_behind l (x ∷ xs) q ys a = children_behind l xs q ys a.1

pub listed_by : (t : Tree) → IsWellFormed t → (i : ℕ) (ids new : List NodeId) (q : NodeId) → i < length ids → q ≡ get_or ids i q → AddsChildren t q ids new → AreListed (look t) i ids → AreListed (look t) (i + 1) new
listed_by t w i ids new q lt e adds a = listed_more t w i ids new q lt (subst (λ x. AddsChildren t x ids new) e adds) a
