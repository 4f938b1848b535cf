-- The names that are given, as the code keeps them.
use Rattle.std.proofs.Common.{◌≡◌, ℕ, zero, suc, ◌+◌, ◌<◌, ◌≤◌, Bool, true, false, not, cond, ◌&&◌, ◌||◌, List, [], ◌∷◌, ◌++◌, length, take, get_or, find, Option, Some, None, refl, sym, ap, subst, ◌∙◌, arith}
use Rattle.std.specs.BTreeMap.{BTreeMap, get, Updates, IsEmpty, is_at}
use Rattle.std.specs.Map.{lookup}
use Rattle.std.specs.List.{list_any, filter_map, cons_option}
use Rattle.std.specs.Option.{option_map, option_map_or, option_and_then}
use Rattle.std.specs.Str.{bytes_eq}
use Rattle.std.proofs.lemmas.List.{take_more}
use Rattle.std.proofs.lemmas.List.Folds.{list_any-append}
use Rattle.kb_name.specs.declared.ids.NodeId.{NodeId}
use Rattle.kb_name.specs.Nodes.{same_node, node_cmp}
use Rattle.kb_ops.specs.declared.rows.Row.{Row}
use Rattle.kb_ops.proofs.Looks.{tested}
use Rattle.kb_ops.proofs.Lists.{flip_same}
use Rattle.kb_rules.specs.declared.sides.Sides.{Sides}
use Rattle.kb_rules.specs.declared.places.Places.{Places}
use Rattle.kb_rules.specs.Three.{Three, same_place}
use Rattle.kb_rules.specs.Places.{on_ours, seat}
use Rattle.kb_rules.specs.Joins.{standing, is_left, into}
use Rattle.kb_rules.specs.Names.{Given, name_in, given_in, taken, first_free, free_name, give, give_all}
use Rattle.kb_rules.specs.Merge.{conflicted}
use Rattle.kb_rules.specs.Code.{side_in, into_in, left_in, three_in}
use Rattle.kb_rules.specs.PlaceSets.{has_place}
use Rattle.kb_rules.specs.Naming.{named_three, stands_in, merged_stands_in, free_by, clash_by, name_by, name_of, given_to, is_given, name_after, count_of}

pub name_put : (old new : BTreeMap NodeId (List ℕ)) (q : NodeId) (name : List ℕ) → Updates node_cmp old new q (Some name) → (k : NodeId) → name_of new k ≡ cond (same_node q k) (Some name) (name_of old k)
unfolding name_of
name_put old new q name h k = h.0 k ∙ ap (λ b. cond b (Some name) (get node_cmp old k)) (tested q k)

any_same : {A : Type 0} (f g : A → Bool) → ((x : A) → f x ≡ g x) → (xs : List A) → list_any f xs ≡ list_any g xs
any_same f g h [] = refl
any_same f g h (x ∷ xs) = λ i. h x i || any_same f g h xs i

any_mapped : {A : Type 0} (f : List ℕ → Bool) (h : A → Option (List ℕ)) (xs : List A) → list_any f (filter_map h xs) ≡ list_any (λ x. option_map_or f (h x) false) xs
any_mapped f h [] = refl
any_mapped f h (x ∷ xs) = elim (h x) as (λ o. list_any f (cons_option o (filter_map h xs)) ≡ (option_map_or f o false || list_any (λ x. option_map_or f (h x) false) xs)) [ None ↦ any_mapped f h xs | Some y ↦ ap (λ b. f y || b) (any_mapped f h xs) ]

-- the words of the lists' three trees, with and without names
same_side : (s : Sides) (q : NodeId) → on_ours (named_three s) q ≡ side_in s q
unfolding side_in
same_side s q = refl

abbrev pub placed : Sides → Row → Row
placed s r = record r { parent = into_in s r.parent }

map_left : (b : Bool) (o : Option Row) (f : Row → Row) → cond b (option_map f o) None ≡ option_map f (cond b o None)
map_left true o f = refl
map_left false o f = refl

pub stands_placed : (s : Sides) (q : NodeId) → standing (named_three s) q ≡ option_map (placed s) (left_in s q)
unfolding left_in into_in
stands_placed s q = map_left (is_left (three_in s) q) (seat (three_in s) q) (λ (r : Row). record r { parent = into (three_in s) r.parent })

at_place : (s : Sides) (r : Row) (o : Option Row) → option_map_or (same_place r) (option_map (placed s) o) false ≡ option_map_or (λ (x : Row). same_node r.parent (into_in s x.parent) && bytes_eq r.name x.name) o false
at_place s r None = refl
at_place s r (Some x) = refl

same_stands : (s : Sides) (r : Row) (p : NodeId) → option_map_or (same_place r) (standing (named_three s) p) false ≡ stands_in s r.parent r.name p
unfolding stands_in
same_stands s r p = ap (λ o. option_map_or (same_place r) o false) (stands_placed s p) ∙ at_place s r (left_in s p)

-- whether a row of merged's side stands in the place of a row
pub is_shared : (s : Sides) (r : Row) → list_any (λ p. not (on_ours (named_three s) p) && option_map_or (same_place r) (standing (named_three s) p) false) s.ids.now ≡ list_any (merged_stands_in s r.parent r.name) s.ids.now
unfolding merged_stands_in
is_shared s r = any_same _ _ (λ p i. not (same_side s p i) && same_stands s r p i) s.ids.now

node_flip : (a b : NodeId) → same_node a b ≡ same_node b a
node_flip a b = sym (tested a b) ∙ flip_same a b

abbrev has_given : NodeId → List ℕ → Given → Bool
has_given p n g = same_node p g.parent && bytes_eq n g.name

if_named : (b : Bool) (n m : List ℕ) → option_map_or (bytes_eq n) (cond b (Some m) None) false ≡ (b && bytes_eq n m)
if_named true n m = refl
if_named false n m = refl

in_given : (p : NodeId) (n : List ℕ) (g : Given) → option_map_or (bytes_eq n) (given_in p g) false ≡ has_given p n g
in_given p n g = if_named (same_node g.parent p) n g.name ∙ ap (λ b. b && bytes_eq n g.name) (node_flip g.parent p)

in_standing : (s : Sides) (p : NodeId) (n : List ℕ) (o : Option Row) → option_map_or (bytes_eq n) (name_in p (option_map (placed s) o)) false ≡ option_map_or (λ (x : Row). same_node p (into_in s x.parent) && bytes_eq n x.name) o false
in_standing s p n None = refl
in_standing s p n (Some x) = if_named (same_node (into_in s x.parent) p) n x.name ∙ ap (λ b. b && bytes_eq n x.name) (node_flip (into_in s x.parent) p)

named_stands : (s : Sides) (p : NodeId) (n : List ℕ) (q : NodeId) → option_map_or (bytes_eq n) (name_in p (standing (named_three s) q)) false ≡ stands_in s p n q
unfolding stands_in
named_stands s p n q = ap (λ o. option_map_or (bytes_eq n) (name_in p o) false) (stands_placed s q) ∙ in_standing s p n (left_in s q)

-- a name is taken in a directory where a row has it or was given it there
pub is_taken : (s : Sides) (gs : List Given) (p : NodeId) (n : List ℕ) → list_any (bytes_eq n) (taken (named_three s) gs p) ≡ (list_any (stands_in s p n) s.ids.now || list_any (has_given p n) gs)
is_taken s gs p n =
    list_any-append (bytes_eq n) (filter_map (λ q. name_in p (standing (named_three s) q)) s.ids.now) (filter_map (given_in p) gs)
    ∙ (λ i. any_mapped (bytes_eq n) (λ q. name_in p (standing (named_three s) q)) s.ids.now i || any_mapped (bytes_eq n) (given_in p) gs i)
    ∙ (λ i. any_same _ _ (named_stands s p n) s.ids.now i || any_same _ _ (in_given p n) gs i)

free_same : (f : ℕ → List ℕ) (names : List (List ℕ)) (is : List ℕ → Bool) → ((n : List ℕ) → is n ≡ list_any (bytes_eq n) names) → (n k : ℕ) → first_free f names n k ≡ free_by is f n k
free_same f names is same zero k = refl
free_same f names is same (suc n) k = λ i. cond (sym (same (f k)) i) (free_same f names is same n (k + 1) i) (f k)

-- ---- one row's turn

abbrev pub more_given : Option (NodeId × List ℕ) → NodeId → List Given → List Given
more_given None q gs = gs
more_given (Some g) q gs = record { id = q; parent = g.0; name = g.1 } ∷ gs

module _ (s : Sides) (gs : List Given) (merged taken' : NodeId → List ℕ → Bool) (all : ℕ)
    (is_merged : (p : NodeId) (n : List ℕ) → merged p n ≡ list_any (merged_stands_in s p n) s.ids.now)
    (are_taken : (p : NodeId) (n : List ℕ) → taken' p n ≡ list_any (bytes_eq n) (taken (named_three s) gs p))
    (count : all ≡ length s.ids.now + length gs) (q : NodeId) where
  abbrev t : Three
  t = named_three s

  abbrev shares : Row → Bool
  shares r = list_any (λ p. not (on_ours t p) && option_map_or (same_place r) (standing t p) false) t.ids

  abbrev gives : Row → List Given
  gives r = record { id = q; parent = r.parent; name = free_name t gs r } ∷ gs

  name_is : (r : Row) → free_name t gs (placed s r) ≡ free_by (taken' (into_in s r.parent)) (conflicted s.stamp.now r.name) all 1
  name_is r =
      free_same (conflicted s.stamp.now r.name) (taken t gs (into_in s r.parent)) (taken' (into_in s r.parent)) (are_taken (into_in s r.parent)) (length s.ids.now + length gs) 1
      ∙ ap (λ a. free_by (taken' (into_in s r.parent)) (conflicted s.stamp.now r.name) a 1) (sym count)

  of_row : (r : Row) → cond (shares (placed s r)) (gives (placed s r)) gs ≡ more_given (clash_by merged taken' s all r) q gs
  unfolding clash_by
  of_row r =
      let same : shares (placed s r) ≡ merged (into_in s r.parent) r.name = is_shared s (placed s r) ∙ sym (is_merged (into_in s r.parent) r.name) in
      (λ i. cond (same i) (record { id = q; parent = into_in s r.parent; name = name_is r i } ∷ gs) gs)
      ∙ chosen (merged (into_in s r.parent) r.name) (into_in s r.parent) (free_by (taken' (into_in s r.parent)) (conflicted s.stamp.now r.name) all 1)
    where
      chosen : (b : Bool) (p : NodeId) (n : List ℕ) → cond b (record { id = q; parent = p; name = n } ∷ gs) gs ≡ more_given (cond b (Some (p, n)) None) q gs
      chosen true p n = refl
      chosen false p n = refl

  by_parts : (b : Bool) (o : Option Row) → cond (b && option_map_or shares (option_map (placed s) o) false) (option_map_or gives (option_map (placed s) o) gs) gs
      ≡ more_given (cond b (option_and_then (clash_by merged taken' s all) o) None) q gs
  by_parts false o = refl
  by_parts true None = refl
  by_parts true (Some r) = of_row r

  pub give_is : give t q gs ≡ more_given (name_by merged taken' s all q) q gs
  unfolding name_by
  give_is =
      (λ i. cond (same_side s q i && option_map_or shares (stands_placed s q i) false) (option_map_or gives (stands_placed s q i) gs) gs)
      ∙ by_parts (side_in s q) (left_in s q)

-- ---- all rows

give_all-push : (t : Three) (ids : List NodeId) (q : NodeId) (gs : List Given) → give_all t (ids ++ q ∷ []) gs ≡ give t q (give_all t ids gs)
give_all-push t [] q gs = refl
give_all-push t (x ∷ ids) q gs = give_all-push t ids q (give t x gs)

pub give_all-more : (t : Three) (ids : List NodeId) (i : ℕ) (d : NodeId) → i < length ids → give_all t (take (i + 1) ids) [] ≡ give t (get_or ids i d) (give_all t (take i ids) [])
give_all-more t ids i d h = ap (λ xs. give_all t xs []) (take_more ids i d h) ∙ give_all-push t (take i ids) (get_or ids i d) []

-- what the code keeps once these names were given
pub record AreGiven (s : Sides) (gs : List Given) (places : Places) (names : BTreeMap NodeId (List ℕ)) (count : ℕ) : Type 0 where
  pub are_taken : (p : NodeId) (n : List ℕ) → has_place places p n ≡ list_any (bytes_eq n) (taken (named_three s) gs p)
  pub are_named : (k : NodeId) → name_of names k ≡ given_to gs k
  pub counted : count ≡ length gs

or_false : (a : Bool) → (a || false) ≡ a
or_false true = refl
or_false false = refl

none_named : (names : BTreeMap NodeId (List ℕ)) → IsEmpty names → (k : NodeId) → name_of names k ≡ None
unfolding name_of
none_named names e k = ap (lookup (is_at (node_cmp k))) e

pub none_given : (s : Sides) (places : Places) (names : BTreeMap NodeId (List ℕ)) (count : ℕ) → ((p : NodeId) (n : List ℕ) → has_place places p n ≡ list_any (stands_in s p n) s.ids.now) → IsEmpty names → count ≡ 0 → AreGiven s [] places names count
none_given s places names count h e z = record {
  are_taken = λ p n. h p n ∙ sym (is_taken s [] p n ∙ or_false (list_any (stands_in s p n) s.ids.now));
  are_named = none_named names e;
  counted = z;
}

or_turn : (a b c : Bool) → ((a || b) || c) ≡ (a || (c || b))
or_turn true b c = refl
or_turn false true true = refl
or_turn false true false = refl
or_turn false false true = refl
or_turn false false false = refl

found_first : (b : Bool) (m : List ℕ) (g : Given) (o : Option Given) → cond b (Some g.name) (option_map (λ (x : Given). x.name) o) ≡ option_map (λ (x : Given). x.name) (cond b (Some g) o)
found_first true m g o = refl
found_first false m g o = refl

pub after_turn : (s : Sides) (gs : List Given) (old : Places) (names : BTreeMap NodeId (List ℕ)) (count : ℕ) (g : Option (NodeId × List ℕ)) (q : NodeId) (new : Places) (names' : BTreeMap NodeId (List ℕ)) (count' : ℕ)
    → AreGiven s gs old names count
    → ((p : NodeId) (n : List ℕ) → has_place new p n ≡ (has_place old p n || is_given g p n))
    → ((k : NodeId) → name_of names' k ≡ name_after g q (name_of names k) k)
    → count' ≡ count + count_of g
    → AreGiven s (more_given g q gs) new names' count'
after_turn s gs old names count None q new names' count' was taken' named counted = record {
  are_taken = λ p n. taken' p n ∙ (or_false (has_place old p n) ∙ was.are_taken p n);
  are_named = λ k. named k ∙ was.are_named k;
  counted = omega (arith, was.counted, counted);
}
after_turn s gs old names count (Some g) q new names' count' was taken' named counted = record {
  are_taken = λ p n.
      taken' p n
      ∙ (ap (λ b. b || (same_node p g.0 && bytes_eq n g.1)) (was.are_taken p n ∙ is_taken s gs p n)
      ∙ (or_turn (list_any (stands_in s p n) s.ids.now) (list_any (has_given p n) gs) (same_node p g.0 && bytes_eq n g.1)
      ∙ sym (is_taken s (record { id = q; parent = g.0; name = g.1 } ∷ gs) p n)));
  are_named = λ k. named k ∙ (ap (λ o. cond (same_node q k) (Some g.1) o) (was.are_named k) ∙ found_first (same_node q k) g.1 (record { id = q; parent = g.0; name = g.1 }) (find (λ (x : Given). same_node x.id k) gs));
  counted = omega (arith, was.counted, counted);
}

count_few : (g : Option (NodeId × List ℕ)) → count_of g ≤ 1
count_few None = omega arith
count_few (Some g) = omega arith

pub count_more : (g : Option (NodeId × List ℕ)) (old new i : ℕ) → new ≡ old + count_of g → old ≤ i → new ≤ i + 1
count_more g old new i e h = omega (arith, count_few g)

pub one_turn : (s : Sides) (i : ℕ) (d : NodeId) (merged old new : Places) (names names' : BTreeMap NodeId (List ℕ)) (count count' : ℕ) → i < length s.ids.now
    → ((p : NodeId) (n : List ℕ) → has_place merged p n ≡ list_any (merged_stands_in s p n) s.ids.now)
    → AreGiven s (give_all (named_three s) (take i s.ids.now) []) old names count
    → ((p : NodeId) (n : List ℕ) → has_place new p n ≡ (has_place old p n || is_given (name_by (has_place merged) (has_place old) s (length s.ids.now + count) (get_or s.ids.now i d)) p n))
    → ((k : NodeId) → name_of names' k ≡ name_after (name_by (has_place merged) (has_place old) s (length s.ids.now + count) (get_or s.ids.now i d)) (get_or s.ids.now i d) (name_of names k) k)
    → count' ≡ count + count_of (name_by (has_place merged) (has_place old) s (length s.ids.now + count) (get_or s.ids.now i d))
    → AreGiven s (give_all (named_three s) (take (i + 1) s.ids.now) []) new names' count'
one_turn s i d merged old new names names' count count' h is_merged was taken' named counted =
    let q = get_or s.ids.now i d in
    let gs = give_all (named_three s) (take i s.ids.now) [] in
    let g = name_by (has_place merged) (has_place old) s (length s.ids.now + count) q in
    let after = after_turn s gs old names count g q new names' count' was taken' named counted in
    let e : give_all (named_three s) (take (i + 1) s.ids.now) [] ≡ more_given g q gs =
    give_all-more (named_three s) s.ids.now i d h
    ∙ give_is s gs (has_place merged) (has_place old) (length s.ids.now + count) is_merged was.are_taken (ap (λ n. length s.ids.now + n) was.counted) q in
    subst (λ xs. AreGiven s xs new names' count') (sym e) after
