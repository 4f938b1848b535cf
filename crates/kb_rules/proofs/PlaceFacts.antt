-- Sets of places.
use Rattle.std.proofs.Common.{◌≡◌, ℕ, Bool, true, false, ◌&&◌, ◌||◌, List, [], ◌∷◌, refl, sym, ap, ◌∙◌}
use Rattle.std.specs.List.{list_any}
use Rattle.std.specs.Str.{bytes_eq}
use Rattle.std.specs.declared.cmp.Ordering.{Ordering}
use Rattle.std.specs.declared.cmp.Ordering.TheVariants.{Less, Equal, Greater}
use Rattle.std.specs.Ordering.{is_eq, ordering_then, nat_cmp, match_ordering}
use Rattle.std.specs.Cmp.Lexicographic.{slice_cmp}
use Rattle.std.specs.BTreeSet.{insert_key}
use Rattle.std.proofs.lemmas.Map.Text.{is_eq-slice_cmp}
use Rattle.std.proofs.lemmas.Map.Lookups.{exact_bytes}
use Rattle.kb_name.specs.declared.ids.NodeId.{NodeId}
use Rattle.kb_name.specs.Nodes.{same_node, node_cmp}
use Rattle.kb_ops.proofs.Looks.{tested, exact_nodes}
use Rattle.kb_rules.specs.declared.places.Place.{Place}
use Rattle.kb_rules.specs.declared.places.Places.{Places}
use Rattle.kb_rules.specs.PlaceSets.{is_place, has_place}

abbrev pub place_cmp : Place → Place → Ordering
place_cmp a b = ordering_then (node_cmp a.parent b.parent) (slice_cmp nat_cmp a.name.items b.name.items)

then_eq : (a b : Ordering) → is_eq (ordering_then a b) ≡ (is_eq a && is_eq b)
then_eq Less b = refl
then_eq Equal b = refl
then_eq Greater b = refl

pub place_equal : (a b : Place) → is_eq (place_cmp a b) ≡ is_place b a.parent a.name.items
place_equal a b =
    then_eq (node_cmp a.parent b.parent) (slice_cmp nat_cmp a.name.items b.name.items)
    ∙ (λ i. tested a.parent b.parent i && is_eq-slice_cmp a.name.items b.name.items i)

any_same : {A : Type 0} (f g : A → Bool) → ((x : A) → f x ≡ g x) → (xs : List A) → list_any f xs ≡ list_any g xs
any_same f g h [] = refl
any_same f g h (x ∷ xs) = λ i. h x i || any_same f g h xs i

pub found_place : (s : Places) (a : Place) → list_any (λ b. is_eq (place_cmp a b)) s.set.keys ≡ has_place s a.parent a.name.items
unfolding has_place
found_place s a = any_same _ _ (place_equal a) s.set.keys

then_equal : (a b : Ordering) → ordering_then a b ≡ Equal → (a ≡ Equal) × (b ≡ Equal)
then_equal Less b e = cc
then_equal Equal b e = (refl, e)
then_equal Greater b e = cc

-- equal places are one place to each question
pub same_question : (p : NodeId) (n : List ℕ) (a b : Place) → place_cmp a b ≡ Equal → is_place b p n ≡ is_place a p n
same_question p n a b e =
    let parts = then_equal (node_cmp a.parent b.parent) (slice_cmp nat_cmp a.name.items b.name.items) e in
    let parent : a.parent ≡ b.parent = exact_nodes _ _ parts.0 in
    let name : a.name.items ≡ b.name.items = exact_bytes _ _ parts.1 in
    λ i. same_node p (sym parent i) && bytes_eq n (sym name i)

or_last : (a b : Bool) → (a || b) ≡ (b || a)
or_last true true = refl
or_last true false = refl
or_last false true = refl
or_last false false = refl

or_over : (x a k : Bool) → (x || (a || k)) ≡ ((x || a) || k)
or_over true a k = refl
or_over false a k = refl

or_held : (x a k : Bool) → x ≡ k → (x || a) ≡ ((x || a) || k)
or_held true a k e = refl
or_held false true k e = refl
or_held false false k e = e

inserted : (test : Place → Bool) → ((a b : Place) → place_cmp a b ≡ Equal → test b ≡ test a) → (k : Place) (xs : List Place) → list_any test (insert_key place_cmp xs k) ≡ (list_any test xs || test k)
inserted test same k [] = or_last (test k) false
inserted test same k (x ∷ xs) =
    elim (place_cmp k x) as (λ o. place_cmp k x ≡ o → list_any test (match_ordering o (k ∷ x ∷ xs) (x ∷ xs) (x ∷ insert_key place_cmp xs k)) ≡ ((test x || list_any test xs) || test k)) [
      | Less ↦ λ e. or_last (test k) (test x || list_any test xs)
      | Equal ↦ λ e. or_held (test x) (list_any test xs) (test k) (same k x e)
      | Greater ↦ λ e. ap (λ b. test x || b) (inserted test same k xs) ∙ or_over (test x) (list_any test xs) (test k)
    ] refl

pub added_place : (old new : Places) (k : Place) → new.set.keys ≡ insert_key place_cmp old.set.keys k → (p : NodeId) (n : List ℕ) → has_place new p n ≡ (has_place old p n || is_place k p n)
unfolding has_place
added_place old new k e p n = ap (list_any (λ (x : Place). is_place x p n)) e ∙ inserted (λ (x : Place). is_place x p n) (same_question p n) k old.set.keys
