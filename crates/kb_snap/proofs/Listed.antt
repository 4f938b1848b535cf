-- The children that a table lists.
use Rattle.std.proofs.Common.{◌≡◌, ℕ, true, false, List, [], ◌∷◌, map, cond, Some, None, IsSome, is_some, refl, ap, sym, ◌∙◌, inl, inr}
use Rattle.std.specs.Ordering.{nat_cmp, is_eq, ordering_reverse}
use Rattle.std.specs.Cmp.{IsTotalOrder, tied_itself}
use Rattle.std.specs.Cmp.Lexicographic.{slice_cmp, nat_list_cmp_total}
use Rattle.std.specs.declared.cmp.Ordering.{Ordering}
use Rattle.std.specs.declared.cmp.Ordering.TheVariants.{Less, Equal}
use Rattle.std.specs.FinMap.Entries as entries
use Rattle.kb_name.specs.declared.ids.NodeId.{NodeId}
use Rattle.kb_ops.specs.Trees.{Tree, look, IsWellFormed}
use Rattle.kb_ops.specs.Find.{child}
use Rattle.kb_ops.proofs.Nodes.{and_first, and_second}
use Rattle.kb_ops.proofs.Lists.{less_is}
use Rattle.kb_ops.proofs.Children.{Stands, child_stands, child_is}
use Rattle.kb_tree.specs.Children.{IsChildren, named}
use Rattle.kb_snap.specs.Holds.{IsOneOf}
use Rattle.kb_snap.specs.Orders.{HasChildren, AreApart}
use Rattle.kb_snap.proofs.HeldRows.{some_is}

module _ {K X A : Type 0} (R : K → K → Ordering) (o : IsTotalOrder R) (f : A → K × X) where
  -- what stands behind a key is greater
  below_one : (k : K) (xs : List A) → entries.below_all R k (map f xs) ≡ true → (x : A) → IsOneOf x xs → R k (f x).0 ≡ Less
  below_one k [] up x h = absurd h
  below_one k (y ∷ xs) up x h = elim h [
    | inl here ↦ ap (λ z. R k (f z).0) here ∙ less_is _ (and_first _ _ up)
    | inr there ↦ below_one k xs (and_second _ _ up) x there
  ]

  pub find_here : (xs : List A) → entries.is_sorted R (map f xs) ≡ true → (x : A) → IsOneOf x xs → entries.find R (f x).0 (map f xs) ≡ Some (f x).1
  find_here [] up x h = absurd h
  find_here (y ∷ xs) up x h = elim h [
    | inl here ↦ ap (λ z. cond (is_eq (R (f x).0 (f z).0)) (Some (f z).1) (entries.find R (f x).0 (map f xs))) (sym here) ∙ ap (λ r. cond (is_eq r) (Some (f x).1) (entries.find R (f x).0 (map f xs))) (tied_itself o (f x).0)
    | inr there ↦
        let less = below_one (f y).0 xs (and_first _ _ up) x there in
        ap (λ r. cond (is_eq r) (Some (f y).1) (entries.find R (f x).0 (map f xs))) (o.antisymm (f x).0 (f y).0 ∙ ap ordering_reverse less) ∙ find_here xs (and_second _ _ up) x there
  ]

module _ {K X : Type 0} (R : K → K → Ordering) (f : X → K × X) where
  pub find_one : ((x : X) → (f x).1 ≡ x) → (xs : List X) (k : K) (x : X) → entries.find R k (map f xs) ≡ Some x → IsOneOf x xs
  find_one is [] k x h = let n : None ≡ Some x = h in cc
  find_one is (y ∷ xs) k x h = elim (is_eq (R k (f y).0)) as (λ b. cond b (Some (f y).1) (entries.find R k (map f xs)) ≡ Some x → IsOneOf x (y ∷ xs)) [
    | true ↦ λ g. inl (sym (some_is _ x g) ∙ is y)
    | false ↦ λ g. inr (find_one is xs k x g)
  ] h

abbrev by_name : List ℕ → List ℕ → Ordering
by_name = slice_cmp nat_cmp

module _ (t : Tree) (w : IsWellFormed t) (q : NodeId) where
  pub child_there : (ids : List NodeId) → IsChildren t q ids → (k : NodeId) → IsOneOf k ids → Stands t q (named t k).0 k
  child_there ids are k h = child_stands t w q (named t k).0 k (sym (are.gives (named t k).0) ∙ find_here by_name nat_list_cmp_total (named t) ids are.rise k h)

  pub children_all : (ids : List NodeId) → IsChildren t q ids → HasChildren (look t) q ids
  children_all ids are k r is off up =
      find_one by_name (named t) (λ x. refl) ids r.name k (are.gives r.name ∙ ap (λ p. child t p r.name) (sym up) ∙ child_is t w k r is off)

  names_apart : (ids : List NodeId) → entries.is_sorted by_name (map (named t) ids) ≡ true → AreApart ids
  names_apart [] up = tt
  names_apart (k ∷ ids) up = (
    (λ h.
        let less = below_one by_name nat_list_cmp_total (named t) (named t k).0 ids (and_first _ _ up) k h in
        let tie = tied_itself nat_list_cmp_total (named t k).0 in
        let bad : Less ≡ Equal = sym less ∙ tie in cc),
    names_apart ids (and_second _ _ up),
  )

  pub children_apart : (ids : List NodeId) → IsChildren t q ids → AreApart ids
  children_apart ids are = names_apart ids are.rise

  pub children_are : (ids : List NodeId) → IsChildren t q ids → (k : NodeId) → IsOneOf k ids → IsSome (look t k)
  children_are ids are k h = ap is_some (child_there ids are k h).found
