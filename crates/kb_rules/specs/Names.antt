-- The names of rows of ours that stand where a row of merged does.
use Rattle.std.specs.Prelude.{ℕ, zero, suc, ◌+◌, Bool, false, not, ◌&&◌, List, [], ◌∷◌, ◌++◌, length, find, if◌then◌else◌, Option, Some, None}
use Rattle.std.specs.List.{list_any, filter_map}
use Rattle.std.specs.Option.{option_map, option_map_or, option_and_then}
use Rattle.std.specs.Str.{bytes_eq}
use Rattle.kb_name.specs.declared.ids.NodeId.{NodeId}
use Rattle.kb_ops.specs.declared.rows.Row.{Row}
use Rattle.kb_name.specs.Nodes.{same_node}
use Rattle.kb_ops.specs.Rows.{Look}
use Rattle.kb_rules.specs.Three.{Three, same_place, fields}
use Rattle.kb_rules.specs.Places.{on_ours}
use Rattle.kb_rules.specs.Joins.{standing}

-- a name that was given to the row of an id, in a directory
pub record Given : Type 0 where
  pub id : NodeId
  pub parent : NodeId
  pub name : List ℕ

-- a row of our side has the place of one of merged's side
abbrev pub clashes : Three → NodeId → Bool
clashes t q = on_ours t q && option_map_or (λ (r : Row). list_any (λ p. not (on_ours t p) && option_map_or (same_place r) (standing t p) false) t.ids) (standing t q) false

-- the name that a row has in the directory
abbrev pub name_in : NodeId → Option Row → Option (List ℕ)
name_in parent row = option_and_then (λ (r : Row). if same_node r.parent parent then Some r.name else None) row

abbrev pub given_in : NodeId → Given → Option (List ℕ)
given_in parent g = if same_node g.parent parent then Some g.name else None

-- the names that rows have in a directory, and those given there
abbrev pub taken : Three → List Given → NodeId → List (List ℕ)
taken t gs parent = filter_map (λ p. name_in parent (standing t p)) t.ids ++ filter_map (given_in parent) gs

-- the first of the names from k on that is not taken, where one of the next n is not
abbrev pub first_free : (ℕ → List ℕ) → List (List ℕ) → ℕ → ℕ → List ℕ
first_free f names zero k = f k
first_free f names (suc n) k = if list_any (bytes_eq (f k)) names then first_free f names n (k + 1) else f k

abbrev pub free_name : Three → List Given → Row → List ℕ
free_name t gs r = first_free (t.conflicted r.name) (taken t gs r.parent) (length t.ids + length gs) 1

-- what is given once a row had its turn, the last first
abbrev pub give : Three → NodeId → List Given → List Given
give t q gs = if clashes t q then option_map_or (λ (r : Row). record { id = q; parent = r.parent; name = free_name t gs r } ∷ gs) (standing t q) gs else gs

abbrev pub give_all : Three → List NodeId → List Given → List Given
give_all t [] gs = gs
give_all t (q ∷ ids) gs = give_all t ids (give t q gs)

abbrev pub given : Three → List Given
given t = give_all t t.ids []

abbrev pub given_name : List Given → NodeId → List ℕ → List ℕ
given_name gs q name = option_map_or (λ (g : Given). g.name) (find (λ (g : Given). same_node g.id q) gs) name

-- the rows of the merge, where ours has each copy as a row of its own
abbrev pub result_with : Three → List Given → Look
result_with t gs q = option_and_then (λ (s : Row). option_map (λ (f : Row). record f { parent = s.parent; name = given_name gs q s.name }) (fields t q)) (standing t q)

abbrev pub result : Three → Look
result t = result_with t (given t)
