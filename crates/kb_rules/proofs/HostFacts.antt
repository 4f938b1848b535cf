-- What stands at a place among hosts.
use Rattle.std.proofs.Common.{◌≡◌, ℕ, ◌+◌, ◌<◌, Bool, true, false, List, [], ◌∷◌, length, drop, get_or, cond, if◌then◌else◌, Option, Some, refl, sym, ap, ◌∙◌, add-one, drop-cons}
use Rattle.std.specs.Prelude.{find}
use Rattle.std.specs.Map.{lookup}
use Rattle.std.specs.BTreeMap.{insert_entry}
use Rattle.std.specs.Str.{bytes_eq}
use Rattle.std.specs.declared.cmp.Ordering.TheVariants.{Less, Equal, Greater}
use Rattle.std.specs.Ordering.{is_eq, match_ordering}
use Rattle.kb_name.specs.declared.ids.NodeId.{NodeId}
use Rattle.kb_name.specs.Nodes.{same_node}
use Rattle.kb_ops.proofs.Nodes.{node_is, node_self}
use Rattle.kb_rules.specs.declared.places.Place.{Place}
use Rattle.kb_rules.specs.declared.hosts.Hosts.{Hosts}
use Rattle.kb_rules.specs.declared.sides.Sides.{Sides}
use Rattle.kb_rules.specs.PlaceSets.{is_place}
use Rattle.kb_rules.specs.Hosting.{host_at, host_in, IsAdded}
use Rattle.kb_rules.proofs.Basics.{not_both, both, first_of_both, second_of_both, bytes_same, bytes_self}
use Rattle.kb_rules.proofs.PlaceFacts.{place_cmp, place_equal, same_question}

same_lookup : {X : Type 0} (f g : Place → Bool) → ((k : Place) → f k ≡ g k) → (es : List (Place × X)) → lookup f es ≡ lookup g es
same_lookup f g h [] = refl
same_lookup f g h (e ∷ es) = λ i. cond (h e.0 i) (Some e.1) (same_lookup f g h es i)

pub found_host : (h : Hosts) (a : Place) → lookup (λ (k : Place). is_eq (place_cmp a k)) h.map.entries ≡ host_at h a.parent a.name.items
unfolding host_at
found_host h a = same_lookup _ _ (place_equal a) h.map.entries

-- two places that answer one question are equal
one_place : (p : NodeId) (n : List ℕ) (a b : Place) → is_place a p n ≡ true → is_place b p n ≡ true → is_eq (place_cmp a b) ≡ true
one_place p n a b ha hb =
    let pa = node_is p a.parent (first_of_both _ _ ha) in
    let pb = node_is p b.parent (first_of_both _ _ hb) in
    let na = bytes_same n a.name.items (second_of_both _ _ ha) in
    let nb = bytes_same n b.name.items (second_of_both _ _ hb) in
    place_equal a b ∙ both _ _ (ap (λ z. same_node z b.parent) (sym pa ∙ pb) ∙ node_self b.parent) (ap (λ z. bytes_eq z b.name.items) (sym na ∙ nb) ∙ bytes_self b.name.items)

swapped : {X : Type 0} (a b : Bool) (x y : X) (o : Option X) → (a ≡ true → b ≡ true → ⊥) → cond a (Some x) (cond b (Some y) o) ≡ cond b (Some y) (cond a (Some x) o)
swapped true true x y o h = absurd (h refl refl)
swapped true false x y o h = refl
swapped false true x y o h = refl
swapped false false x y o h = refl

put_over : {X : Type 0} (a b : Bool) (x y : X) (o : Option X) → a ≡ b → cond a (Some x) o ≡ cond b (Some x) (cond a (Some y) o)
put_over true true x y o e = refl
put_over true false x y o e = not_both true refl e
put_over false true x y o e = not_both true refl (sym e)
put_over false false x y o e = refl

inserted : (p : NodeId) (n : List ℕ) (k : Place) (v : NodeId) (es : List (Place × NodeId)) → lookup (λ (x : Place). is_place x p n) (insert_entry place_cmp es k v) ≡ cond (is_place k p n) (Some v) (lookup (λ (x : Place). is_place x p n) es)
inserted p n k v [] = refl
inserted p n k v (e ∷ es) =
    elim (place_cmp k e.0) as (λ o. place_cmp k e.0 ≡ o → lookup (λ (x : Place). is_place x p n) (match_ordering o ((k, v) ∷ e ∷ es) ((e.0, v) ∷ es) (e ∷ insert_entry place_cmp es k v)) ≡ cond (is_place k p n) (Some v) (lookup (λ (x : Place). is_place x p n) (e ∷ es))) [
      | Less ↦ λ c. refl
      | Equal ↦ λ c. put_over (is_place e.0 p n) (is_place k p n) v e.1 (lookup (λ (x : Place). is_place x p n) es) (same_question p n k e.0 c)
      | Greater ↦ λ c. ap (λ o. cond (is_place e.0 p n) (Some e.1) o) (inserted p n k v es) ∙ swapped (is_place e.0 p n) (is_place k p n) e.1 v (lookup (λ (x : Place). is_place x p n) es) (λ x y. not_both _ (one_place p n k e.0 y x) (ap is_eq c))
    ] refl

pub added_host : (old new : Hosts) (k : Place) (v : NodeId) → new.map.entries ≡ insert_entry place_cmp old.map.entries k v → (p : NodeId) (n : List ℕ) → host_at new p n ≡ (if is_place k p n then Some v else host_at old p n)
unfolding host_at
added_host old new k v e p n = ap (lookup (λ (x : Place). is_place x p n)) e ∙ inserted p n k v old.map.entries

-- the hosts from a place on, with the one before it
pub hosts_step : (s : Sides) (old new : Hosts) (i : ℕ) (d : NodeId) → i < length s.ids.now → ((p : NodeId) (n : List ℕ) → host_at old p n ≡ find (host_in s p n) (drop (i + 1) s.ids.now)) → IsAdded s (get_or s.ids.now i d) old new
    → (p : NodeId) (n : List ℕ) → host_at new p n ≡ find (host_in s p n) (drop i s.ids.now)
hosts_step s old new i d lt before added p n =
    added p n
    ∙ ap (λ o. cond (host_in s p n (get_or s.ids.now i d)) (Some (get_or s.ids.now i d)) o) (before p n)
    ∙ ap (find (host_in s p n)) (sym (drop_next s.ids.now i d lt))
  where
    drop_next : (xs : List NodeId) (i : ℕ) (d : NodeId) → i < length xs → drop i xs ≡ get_or xs i d ∷ drop (i + 1) xs
    drop_next xs i d lt = rw (add-one, drop-cons xs i d)
