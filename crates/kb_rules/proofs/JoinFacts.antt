-- What a row is joined to, found by places, and the joins of walks.
use Rattle.std.proofs.Common.{◌≡◌, ℕ, Bool, true, false, not, List, [], ◌∷◌, cond, Option, Some, None, is_some, ◌&&◌, refl, sym, ap, ◌∙◌}
use Rattle.std.specs.Prelude.{find}
use Rattle.std.specs.Option.{option_map_or}
use Rattle.std.specs.Str.{bytes_eq}
use Rattle.kb_name.specs.declared.ids.NodeId.{NodeId}
use Rattle.kb_name.specs.Nodes.{same_node}
use Rattle.kb_ops.specs.declared.rows.Row.{Row}
use Rattle.kb_ops.specs.Rows.{is_dir_row}
use Rattle.kb_ops.proofs.Nodes.{node_is, node_self}
use Rattle.kb_rules.specs.declared.sides.Sides.{Sides}
use Rattle.kb_rules.specs.declared.hosts.Hosts.{Hosts}
use Rattle.kb_rules.specs.Code.{three_in, kept_in, merged_in, ours_in}
use Rattle.kb_rules.specs.Hosting.{host_at, is_at, host_in, AreHosts, takes_in}
use Rattle.kb_rules.proofs.Basics.{both, first_of_both, second_of_both, no_second, unless, bytes_same, bytes_self}
use Rattle.kb_rules.proofs.Climbs.{same_bools}

same_find : {A : Type 0} (f g : A → Bool) → ((x : A) → f x ≡ g x) → (xs : List A) → find f xs ≡ find g xs
same_find f g h [] = refl
same_find f g h (x ∷ xs) = λ i. cond (h x i) (Some x) (same_find f g h xs i)

find_none : {A : Type 0} (f : A → Bool) → ((x : A) → f x ≡ false) → (xs : List A) → find f xs ≡ None
find_none f h [] = refl
find_none f h (x ∷ xs) = unless _ (Some x) (find f xs) (h x) ∙ find_none f h xs

flip : (a b : NodeId) (m n : List ℕ) → (same_node a b && bytes_eq m n) ≡ true → (same_node b a && bytes_eq n m) ≡ true
flip a b m n h =
    let p = node_is a b (first_of_both (same_node a b) (bytes_eq m n) h) in
    let e = bytes_same m n (second_of_both (same_node a b) (bytes_eq m n) h) in
    both _ _ (ap (same_node b) p ∙ node_self b) (ap (bytes_eq n) e ∙ bytes_self n)

turned : (a b : NodeId) (m n : List ℕ) → (same_node a b && bytes_eq m n) ≡ (same_node b a && bytes_eq n m)
turned a b m n = same_bools _ _ (flip a b m n) (flip b a n m)

same_or : (f g : Row → Bool) → ((r : Row) → f r ≡ g r) → (o : Option Row) → option_map_or f o false ≡ option_map_or g o false
same_or f g h None = refl
same_or f g h (Some r) = h r

never : (f : Row → Bool) → ((r : Row) → f r ≡ false) → (o : Option Row) → option_map_or f o false ≡ false
never f h None = refl
never f h (Some r) = h r

-- what takes a Dir stands at its place among the hosts
takes_is : (s : Sides) (b : Row) (parent a : NodeId) → is_dir_row b ≡ true → host_in s parent b.name a ≡ takes_in s b parent a
unfolding takes_in kept_in ours_in merged_in
takes_is s b parent a dir =
    ap (λ x. kept_in s a && (not (is_some (ours_in s a)) && x))
    (same_or (is_at parent b.name) (λ (r : Row). (is_dir_row b && is_dir_row r) && (same_node r.parent parent && bytes_eq r.name b.name))
    (λ r. (λ i. is_dir_row r && turned parent r.parent b.name r.name i) ∙ ap (λ d. (d && is_dir_row r) && (same_node r.parent parent && bytes_eq r.name b.name)) (sym dir)) (merged_in s a))

pub host_is : (s : Sides) (hosts : Hosts) (b : Row) (parent : NodeId) → AreHosts s hosts → is_dir_row b ≡ true → host_at hosts parent b.name ≡ find (takes_in s b parent) s.ids.now
host_is s hosts b parent are dir = are parent b.name ∙ same_find (host_in s parent b.name) (takes_in s b parent) (λ a. takes_is s b parent a dir) s.ids.now

-- and nothing takes what is no Dir
pub no_host : (s : Sides) (b : Row) (parent : NodeId) → is_dir_row b ≡ false → None ≡ find (takes_in s b parent) s.ids.now
unfolding takes_in
no_host s b parent other = sym (find_none (takes_in s b parent) (λ a. no_second _ _ (no_second _ _ (never _ (λ (r : Row). ap (λ d. (d && is_dir_row r) && (same_node r.parent parent && bytes_eq r.name b.name)) other) ((three_in s).merged a)))) s.ids.now)
