-- The words of the rules are as they are meant.
use Rattle.std.proofs.Common.{◌≡◌, ◌≢◌, ℕ, zero, suc, ◌+◌, ◌*◌, ◌^◌, ◌≤◌, ◌<◌, Bool, true, false, not, List, [], ◌∷◌, length, Some, None, is_some, inl, inr, ◌&&◌, ◌||◌, refl, sym, ap, ◌∙◌, arith}
use Rattle.std.specs.Prelude.{find}
use Rattle.std.specs.List.{list_any}
use Rattle.std.specs.Option.{option_and_then, option_map_or}
use Rattle.std.specs.Str.{bytes_eq}
use Rattle.std.specs.FinMap as map
use Rattle.kb_name.specs.declared.ids.NodeId.{NodeId}
use Rattle.kb_name.specs.Nodes.{root, same_node}
use Rattle.kb_ops.specs.declared.rows.Row.{Row}
use Rattle.kb_ops.specs.Trees.{Tree}
use Rattle.kb_ops.proofs.Nodes.{node_is, node_self}
use Rattle.kb_ops.proofs.Kept.{some_and}
use Rattle.kb_rules.specs.declared.stamp.Stamp.{Stamp}
use Rattle.kb_rules.specs.Three.{Three}
use Rattle.kb_rules.specs.Joins.{takes, joined, into}
use Rattle.kb_rules.specs.Names.{taken, first_free}
use Rattle.kb_rules.specs.Merge.{conflicted, three}
use Rattle.kb_rules.specs.Meet.{Meet}
use Rattle.kb_rules.specs.Meanings.{AreOne, NamesAreLeast, Meanings}
use Rattle.kb_rules.specs.Ready.{CanMerge}
use Rattle.kb_rules.proofs.Ready.{CanName}
use Rattle.kb_rules.proofs.Basics.{bool_cases, not_both, both, when, unless, same_some, none_some, bytes_self}
use Rattle.kb_rules.proofs.Reaching.{seat_reaches}
use Rattle.kb_rules.proofs.Keeps.{kept_least, stays_kept, kept_parent}
use Rattle.kb_rules.proofs.Joined.{joined_step, joins}
use Rattle.kb_rules.proofs.Named.{is_free, taken_le}
use Rattle.kb_rules.proofs.Copies.{IsNaming, can_name}
use Rattle.kb_rules.proofs.Marks.{place_cases}

-- a test that one of a list passes finds one
find_some : (f : NodeId → Bool) (xs : List NodeId) (x : NodeId) → list_any (same_node x) xs ≡ true → f x ≡ true → (y : NodeId) × (find f xs ≡ Some y)
find_some f [] x in' h = not_both false in' refl
find_some f (y ∷ xs) x in' h = elim (bool_cases (f y)) [
  | inl e ↦ (y, when _ (Some y) (find f xs) e)
  | inr e ↦ elim (bool_cases (same_node x y)) [
    | inl s ↦ not_both _ (sym (ap f (node_is x y s)) ∙ h) e
    | inr s ↦ let w = find_some f xs x (sym (ap (λ b. b || list_any (same_node x) xs) s) ∙ in') h in (w.0, unless _ (Some y) (find f xs) e ∙ w.1)
  ]
]

-- the first free name's number is the least
first_least : (f : ℕ → List ℕ) (xs : List (List ℕ)) (n k : ℕ) → (i : ℕ) × (k ≤ i) × (first_free f xs n k ≡ f i) × ((j : ℕ) → k ≤ j → j < i → list_any (bytes_eq (f j)) xs ≡ true)
first_least f xs zero k = (k, omega arith, refl, λ j le lt. absurd (omega (arith, le, lt)))
first_least f xs (suc n) k = elim (bool_cases (list_any (bytes_eq (f k)) xs)) [
  | inr e ↦ (k, omega arith, unless _ (first_free f xs n (k + 1)) (f k) e, λ j le lt. absurd (omega (arith, le, lt)))
  | inl e ↦
      let w = first_least f xs n (k + 1) in
      let le = w.1 in (
        w.0,
        omega (arith, le),
        when _ (first_free f xs n (k + 1)) (f k) e ∙ w.2,
        λ j from lt. elim (place_cases j k) [
          | inl z ↦ ap (λ i. list_any (bytes_eq (f i)) xs) z ∙ e
          | inr ne ↦ w.3 j (omega (arith, from, ne)) lt
        ],
      )
]

module _ (n m : ℕ) (t : Three) (ready : CanName n m t) where
  abbrev can : CanMerge n m t
  can = ready.can

  -- where a row may be joined to another, it is
  one_joined : (b a : NodeId) → AreOne t b a → joined t b ≡ Some a
  one_joined b a one =
      let place : (same_node one.host.parent (into t one.row.parent) && bytes_eq one.host.name one.row.name) ≡ true = both _ _ (ap (λ z. same_node z (into t one.row.parent)) one.parent ∙ node_self (into t one.row.parent)) (ap (λ z. bytes_eq z one.row.name) one.name ∙ bytes_self one.row.name) in
      let passes : takes t one.row (into t one.row.parent) a ≡ true = both _ _ one.host_kept (both _ _ (ap (λ o. not (is_some o)) one.host_new) (ap (λ o. option_map_or (λ (r : Row). t.may one.row r && (same_node r.parent (into t one.row.parent) && bytes_eq r.name one.row.name)) o false) one.host_found ∙ both _ _ one.may place)) in
      let w = find_some (takes t one.row (into t one.row.parent)) t.ids a (can.merged_in a one.host one.host_found) passes in
      let is : joined t b ≡ Some w.0 = joined_step n m t can b
      ∙ when _ _ None (both _ _ one.kept (ap (λ o. not (is_some o)) one.new))
      ∙ ap (option_and_then (λ (r : Row). find (takes t r (into t r.parent)) t.ids)) one.found
      ∙ w.1 in
      let j = joins n m t can b w.0 is in
      let same : j.row ≡ one.row = same_some j.row one.row (t.ours b) j.found one.found in
      let top = some_and _ (t.ours root) can.ours.rooted in
      let off : (q : NodeId) → t.ours q ≡ None → q ≢ root = λ q none z. none_some top.0 (t.ours q) none (ap t.ours z ∙ top.1) in
      let it : w.0 ≡ a = can.merged.places w.0 a j.host one.host j.host_found one.host_found (off w.0 j.host_new) (off a one.host_new)
      (j.parent ∙ ap (λ (z : Row). into t z.parent) same ∙ sym one.parent) (j.name ∙ ap (λ (z : Row). z.name) same ∙ sym one.name) in
      is ∙ ap (λ z. Some z) it

  names_least : NamesAreLeast t
  names_least gs r few =
      let names = taken t gs r.parent in
      let le = taken_le t gs r.parent in
      let w = first_least (t.conflicted r.name) names (length t.ids + length gs) 1 in
      record {
        k = w.0;
        from_one = w.1;
        is = w.2;
        free = is_free (t.conflicted r.name) (2 * length t.ids + 1) (ready.differ r.name) names (length t.ids + length gs) 1 (omega arith) le (omega (arith, few));
        least = w.3;
      }

  pub meant : Meanings t
  meant = record {
    places = seat_reaches n m t can;
    kept = record {
      has = stays_kept n m t can;
      parents = kept_parent n m t can;
      least = λ p has up. kept_least t (λ q. p q ≡ true) has up;
    };
    joined = record {
      only = λ b a h.
          let j = joins n m t can b a h in
          record { kept = j.kept; new = j.new; row = j.row; found = j.found; host_kept = j.host_kept; host_new = j.host_new; host = j.host; host_found = j.host_found; may = j.may; parent = j.parent; name = j.name };
      all = one_joined;
    };
    names = names_least;
  }

pub trees_meant : (b m u : Tree) (stamp : Stamp) → Meet b m u stamp → IsNaming (conflicted stamp) → 4 * (map.len m + map.len u) < 2 ^ 63 → Meanings (three b m u stamp)
trees_meant b m u stamp meet naming few = meant (map.len m) (map.len u) (three b m u stamp) (can_name b m u stamp meet naming few)
