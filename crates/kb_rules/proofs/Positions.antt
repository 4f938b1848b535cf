-- Where an id stands among ids in ascending order.
use Rattle.std.proofs.Common.{◌≡◌, ◌≢◌, ℕ, suc, ◌+◌, true, false, List, [], ◌∷◌, map, cond, Option, Some, None, is_some, inl, inr, ◌&&◌, ◌||◌, slice_get, refl, sym, ap, ◌∙◌, arith}
use mathlib.Core.Bool.{true≢false}
use Rattle.std.specs.Option.{option_map}
use Rattle.std.specs.Ordering.{is_lt, ordering_reverse}
use Rattle.std.specs.declared.cmp.Ordering.TheVariants.{Less, Equal, Greater}
use Rattle.std.specs.FinMap.Entries as entries
use Rattle.kb_name.specs.declared.ids.NodeId.{NodeId}
use Rattle.kb_name.specs.Nodes.{same_node, node_cmp}
use Rattle.kb_ops.specs.Sorted.{place_in_order}
use Rattle.kb_ops.proofs.Nodes.{node_is, node_self, node_other, node_cases}
use Rattle.kb_ops.proofs.Looks.{nodes_total, exact_nodes}
use Rattle.kb_ops.proofs.Lists.{less_is}
use Rattle.kb_rules.specs.Code.{above, ascend, before, place_in}
use Rattle.kb_rules.specs.Ready.{is_in}
use Rattle.kb_rules.proofs.Basics.{bool_cases, both, first_of_both, second_of_both, when, unless, none_some}

-- ids as the keys of entries
abbrev pub twice : NodeId → NodeId × NodeId
twice q = (q, q)

pub above_sorted : (k : NodeId) (ids : List NodeId) → entries.below_all node_cmp k (map twice ids) ≡ above k ids
above_sorted k [] = refl
above_sorted k (q ∷ ids) = ap (λ b. is_lt (node_cmp k q) && b) (above_sorted k ids)

pub ascend_sorted : (ids : List NodeId) → entries.is_sorted node_cmp (map twice ids) ≡ ascend ids
ascend_sorted [] = refl
ascend_sorted (q ∷ ids) = λ i. above_sorted q ids i && ascend_sorted ids i

pub before_place : (k : NodeId) (ids : List NodeId) → place_in_order node_cmp k (map twice ids) ≡ before k ids
before_place k [] = refl
before_place k (q ∷ ids) = ap (λ n. cond (is_lt (node_cmp q k)) (suc n) 0) (before_place k ids)

-- an id is not among greater ones
pub above_not : (k : NodeId) (ids : List NodeId) → above k ids ≡ true → place_in ids k ≡ None
above_not k [] h = refl
above_not k (q ∷ ids) h =
    let off : same_node q k ≡ false = node_other q k (λ e. less_off k q (less_is _ (first_of_both _ _ h)) (sym e)) in
    unless _ (Some 0) _ off ∙ ap (option_map (λ i. i + 1)) (above_not k ids (second_of_both _ _ h))
  where
    less_off : (a b : NodeId) → node_cmp a b ≡ Less → a ≢ b
    less_off a b l e = let self : node_cmp a a ≡ Less = ap (node_cmp a) e ∙ l in let twist : node_cmp a a ≡ Greater = nodes_total.antisymm a a ∙ ap ordering_reverse self in let no : Less ≡ Greater = sym self ∙ twist in cc

-- at the number of smaller ids an id stands, or nowhere
abbrev pub place_at : NodeId → ℕ → Option NodeId → Option ℕ
place_at k i None = None
place_at k i (Some q) = cond (same_node q k) (Some i) None

place_later : (k : NodeId) (i : ℕ) (o : Option NodeId) → place_at k (suc i) o ≡ option_map (λ j. j + 1) (place_at k i o)
place_later k i None = refl
place_later k i (Some q) = elim (same_node q k) as (λ b. cond {A = Option ℕ} b (Some (suc i)) None ≡ option_map (λ j. j + 1) (cond b (Some i) None)) [ true ↦ ap (λ j. Some j) (add i) | false ↦ refl ]
  where
    add : (i : ℕ) → suc i ≡ i + 1
    add i = omega arith

pub place_is : (k : NodeId) (ids : List NodeId) → ascend ids ≡ true → place_at k (before k ids) (slice_get ids (before k ids)) ≡ place_in ids k
place_is k [] h = refl
place_is k (q ∷ ids) h = elim (bool_cases (is_lt (node_cmp q k))) [
  | inl l ↦
      let off : same_node q k ≡ false = node_other q k (λ e. let self : node_cmp k k ≡ Less = ap (λ z. node_cmp z k) (sym e) ∙ less_is _ l in let twist : node_cmp k k ≡ Greater = nodes_total.antisymm k k ∙ ap ordering_reverse self in let no : Less ≡ Greater = sym self ∙ twist in cc) in
      let at : before k (q ∷ ids) ≡ suc (before k ids) = when _ (suc (before k ids)) 0 l in
      ap (λ i. place_at k i (slice_get (q ∷ ids) i)) at ∙ place_later k (before k ids) (slice_get ids (before k ids)) ∙ ap (option_map (λ i. i + 1)) (place_is k ids (second_of_both _ _ h)) ∙ sym (unless _ (Some 0) _ off)
  | inr g ↦
      let at : before k (q ∷ ids) ≡ 0 = unless _ (suc (before k ids)) 0 g in
      ap (λ i. place_at k i (slice_get (q ∷ ids) i)) at ∙ elim (node_cases q k) [
        | inl e ↦ let same : same_node q k ≡ true = ap (λ z. same_node z k) e ∙ node_self k in when _ (Some 0) None same ∙ sym (when _ (Some 0) _ same)
        | inr ne ↦
            let off = node_other q k ne in
            unless _ (Some 0) None off ∙ sym (unless _ (Some 0) _ off ∙ ap (option_map (λ i. i + 1)) (above_not k ids (beyond q k ids ne g (first_of_both _ _ h))))
      ]
]
  where
    later : (a b d : NodeId) → node_cmp a b ≡ Less → node_cmp b d ≡ Less → node_cmp a d ≡ Less
    later a b d x y = nodes_total.trans a b d x y

    above_from : (k q : NodeId) (ids : List NodeId) → node_cmp k q ≡ Less → above q ids ≡ true → above k ids ≡ true
    above_from k q [] l h = refl
    above_from k q (y ∷ ids) l h = both _ _ (ap is_lt (later k q y l (less_is _ (first_of_both _ _ h)))) (above_from k q ids l (second_of_both _ _ h))

    beyond : (q k : NodeId) (ids : List NodeId) → q ≢ k → is_lt (node_cmp q k) ≡ false → above q ids ≡ true → above k ids ≡ true
    beyond q k ids ne g h = elim (node_cmp q k) as (λ o. node_cmp q k ≡ o → above k ids ≡ true) [
      | Less ↦ λ e. absurd (true≢false (sym (ap is_lt e) ∙ g))
      | Equal ↦ λ e. absurd (ne (exact_nodes q k e))
      | Greater ↦ λ e. above_from k q ids (nodes_total.antisymm k q ∙ ap ordering_reverse e) h
    ] refl

-- an id has a place where it is among the ids
pub place_there : (k : NodeId) (ids : List NodeId) → is_some (place_in ids k) ≡ is_in k ids
place_there k [] = refl
place_there k (q ∷ ids) = elim (node_cases q k) [
  | inl e ↦ ap is_some (when _ (Some 0) _ (ap (λ z. same_node z k) e ∙ node_self k)) ∙ sym (ap (λ b. b || is_in k ids) (ap (same_node k) e ∙ node_self k))
  | inr ne ↦ ap is_some (unless _ (Some 0) _ (node_other q k ne)) ∙ mapped (place_in ids k) ∙ place_there k ids ∙ sym (ap (λ b. b || is_in k ids) (node_other k q (λ e. ne (sym e))))
]
  where
    mapped : (o : Option ℕ) → is_some (option_map (λ i. i + 1) o) ≡ is_some o
    mapped None = refl
    mapped (Some i) = refl

-- and stands there
pub place_got : (k : NodeId) (ids : List NodeId) (i : ℕ) → place_in ids k ≡ Some i → slice_get ids i ≡ Some k
place_got k [] i h = none_some i None refl h
place_got k (q ∷ ids) i h = elim (bool_cases (same_node q k)) [
  | inl e ↦ let z : Some 0 ≡ Some i = sym (when _ (Some 0) _ e) ∙ h in let at : 0 ≡ i = cc in sym (ap (slice_get (q ∷ ids)) at) ∙ ap (λ x. Some x) (node_is q k e)
  | inr e ↦ behind (place_in ids k) (λ j g. place_got k ids j g) refl (sym (unless _ (Some 0) _ e) ∙ h)
]
  where
    behind : (o : Option ℕ) → ((j : ℕ) → place_in ids k ≡ Some j → slice_get ids j ≡ Some k) → place_in ids k ≡ o → option_map (λ i. i + 1) (place_in ids k) ≡ Some i → slice_get (q ∷ ids) i ≡ Some k
    behind None rest e g = none_some i None refl (sym (ap (option_map (λ i. i + 1)) e) ∙ g)
    behind (Some j) rest e g =
        let z : Some (j + 1) ≡ Some i = sym (ap (option_map (λ i. i + 1)) e) ∙ g in
        let at : j + 1 ≡ i = cc in
        let next : suc j ≡ i = omega (arith, at) in
        sym (ap (slice_get (q ∷ ids)) next) ∙ rest j e
