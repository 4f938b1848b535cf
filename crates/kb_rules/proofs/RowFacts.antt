-- The rows that the code makes are those of the merge.
use Rattle.std.proofs.Common.{◌≡◌, ℕ, Bool, map, cond, is_some, count_by, ◌+◌, ◌<◌, List, [], ◌∷◌, ◌++◌, length, take, get_or, find, Option, Some, None, refl, sym, ap, ◌∙◌}
use Rattle.std.specs.List.{filter_map, cons_option}
use Rattle.std.specs.Option.{option_map, option_map_or, option_and_then, option_to_list, unwrap_or}
use Rattle.std.proofs.lemmas.List.{take_more}
use Rattle.std.proofs.lemmas.List.Folds.{fold-map}
use Rattle.std.proofs.lemmas.List.Elements.{filter_map-append}
use Rattle.kb_name.specs.declared.ids.NodeId.{NodeId}
use Rattle.kb_name.specs.Nodes.{same_node}
use Rattle.kb_ops.specs.declared.rows.Row.{Row}
use Rattle.kb_ops.specs.Rows.{Look}
use Rattle.kb_rules.specs.declared.sides.Sides.{Sides}
use Rattle.kb_rules.specs.Three.{fields, fields_by}
use Rattle.kb_rules.specs.Joins.{joined}
use Rattle.kb_rules.specs.Merge.{joins}
use Rattle.kb_rules.specs.Names.{Given, given, given_name, result, result_with}
use Rattle.kb_rules.specs.Code.{base_in, merged_in, ours_in, into_in, left_in, joined_in}
use Rattle.kb_rules.specs.Naming.{named_three, given_to, row_by}
use Rattle.kb_rules.proofs.NamingFacts.{stands_placed}

one_row : (o : Option Row) → cons_option o [] ≡ option_to_list o
one_row None = refl
one_row (Some r) = refl

pub rows_more : (f : Look) (ids : List NodeId) (i : ℕ) (d : NodeId) → i < length ids → filter_map f (take (i + 1) ids) ≡ filter_map f (take i ids) ++ option_to_list (f (get_or ids i d))
rows_more f ids i d h = ap (filter_map f) (take_more ids i d h) ∙ (filter_map-append f (take i ids) (get_or ids i d ∷ []) ∙ ap (λ rows. filter_map f (take i ids) ++ rows) (one_row (f (get_or ids i d))))

name_or : (o : Option Given) (name : List ℕ) → unwrap_or (option_map (λ (g : Given). g.name) o) name ≡ option_map_or (λ (g : Given). g.name) o name
name_or None name = refl
name_or (Some g) name = refl

same_fields : (s : Sides) (q : NodeId) → fields_by (merged_in s q) (ours_in s q) (base_in s q) ≡ fields (named_three s) q
unfolding merged_in ours_in base_in
same_fields s q = refl

abbrev with_place : NodeId → List ℕ → Option Row → Option Row
with_place parent name o = option_map (λ (f : Row). record f { parent = parent; name = name }) o

left_row : (s : Sides) (gs : List Given) (q : NodeId) (o : Option Row) →
    option_and_then (λ (r : Row). with_place (into_in s r.parent) (unwrap_or (given_to gs q) r.name) (fields_by (merged_in s q) (ours_in s q) (base_in s q))) o
    ≡ option_and_then (λ (r : Row). with_place r.parent (given_name gs q r.name) (fields (named_three s) q)) (option_map (λ (r : Row). record r { parent = into_in s r.parent }) o)
left_row s gs q None = refl
left_row s gs q (Some r) = λ i. with_place (into_in s r.parent) (name_or (find (λ (g : Given). same_node g.id q) gs) r.name i) (same_fields s q i)

-- whatever names were given
pub row_with : (s : Sides) (gs : List Given) (q : NodeId) → row_by s (given_to gs q) q ≡ result_with (named_three s) gs q
unfolding row_by
row_with s gs q =
    left_row s gs q (left_in s q)
    ∙ ap (λ o. option_and_then (λ (r : Row). with_place r.parent (given_name gs q r.name) (fields (named_three s) q)) o) (sym (stands_placed s q))

row_is : (s : Sides) (q : NodeId) → row_by s (given_to (given (named_three s)) q) q ≡ result (named_three s) q
row_is s q = row_with s (given (named_three s)) q

pub rows_are : (s : Sides) (name : NodeId → Option (List ℕ)) → ((q : NodeId) → name q ≡ given_to (given (named_three s)) q) → (ids : List NodeId) → filter_map (λ q. row_by s (name q) q) ids ≡ filter_map (result (named_three s)) ids
rows_are s name e [] = refl
rows_are s name e (q ∷ ids) = λ i. cons_option ((ap (λ n. row_by s n q) (e q) ∙ row_is s q) i) (rows_are s name e ids i)

count_mapped : {A B : Type 0} (p : B → Bool) (f : A → B) (xs : List A) → count_by p (map f xs) ≡ count_by (λ x. p (f x)) xs
count_mapped p f xs = fold-map (λ (a : ℕ) x. a + cond (p x) 1 0) f 0 xs

joins_named : (s : Sides) (ids : List NodeId) → count_by (λ q. is_some (joined_in s q)) ids ≡ count_by (λ q. is_some (joined (named_three s) q)) ids
unfolding joined_in
joins_named s ids = refl

-- as many rows are joined as the table has somes
pub joins_are : (s : Sides) (table : List (Option NodeId)) → table ≡ map (joined_in s) s.ids.now → count_by is_some table ≡ joins (named_three s)
joins_are s table e = ap (count_by is_some) e ∙ (count_mapped is_some (joined_in s) s.ids.now ∙ joins_named s s.ids.now)
