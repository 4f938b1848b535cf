-- The children of a directory are rows of the tree, and a table's list of them is theirs.
use Rattle.std.proofs.Common.{◌≡◌, ◌≢◌, ℕ, zero, suc, ◌+◌, ◌<◌, Bool, true, false, not, cond, ◌&&◌, List, [], ◌∷◌, ◌++◌, length, get_or, take, map, Some, None, refl, sym, ap, subst, ◌∙◌, arith, add-one}
use mathlib.Core.Bool.{true≢false}
use Rattle.std.specs.Prelude.{filter, find, T}
use Rattle.std.specs.List.{AllByRecursion}
use Rattle.std.specs.Option.{option_map}
use Rattle.std.specs.Ordering.{nat_cmp, is_eq, is_lt, eq_by_cmp, ordering_reverse}
use Rattle.std.specs.Cmp.{IsTotalOrder, tied_itself}
use Rattle.std.specs.Cmp.Lexicographic.{slice_cmp, nat_list_cmp_total}
use Rattle.std.specs.Str.{bytes_eq}
use Rattle.std.specs.declared.cmp.Ordering.{Ordering}
use Rattle.std.specs.declared.cmp.Ordering.TheVariants.{Less}
use Rattle.std.proofs.lemmas.Map.Text.{is_eq-slice_cmp}
use Rattle.std.proofs.lemmas.Map.Lookups.{exact_bytes}
use Rattle.std.proofs.lemmas.Bool.Decides.{same_from_decides, Decides-like}
use Rattle.std.proofs.Math.Seq.{take-length}
use Rattle.std.proofs.lemmas.List.{length-map}
use Rattle.std.proofs.lemmas.Slice.Eq.{bytes_eq-Decides}
use Rattle.std.specs.FinMap as finite
use Rattle.std.specs.FinMap.Entries as entries
use Rattle.kb_name.specs.declared.ids.NodeId.{NodeId}
use Rattle.kb_name.specs.Nodes.{root, same_node, node_cmp}
use Rattle.kb_ops.specs.declared.rows.Row.{Row}
use Rattle.kb_ops.specs.Find.{stands_at}
use Rattle.kb_ops.specs.Trees.{Tree, look, IsWellFormed}
use Rattle.kb_ops.proofs.Nodes.{node_is, apart, and_first, and_second}
use Rattle.kb_ops.proofs.Looks.{nodes_total}
use Rattle.kb_ops.proofs.Lists.{less_is}
use Rattle.kb_tree.specs.Children.{IsChildren, named}
use Rattle.kb_apply.specs.Children.{is_child_of, by_name, children}

is_true : (b : Bool) → T b → b ≡ true
is_true true h = refl
is_true false h = absurd h

truth : (b : Bool) → b ≡ true → T b
truth true h = tt
truth false h = absurd (true≢false (sym h))

not_true : (b : Bool) → not b ≡ true → b ≡ false
not_true true h = absurd (true≢false (sym h))
not_true false h = refl

and_assoc : (a b c : Bool) → (a && (b && c)) ≡ ((a && b) && c)
and_assoc true b c = refl
and_assoc false b c = refl

-- ---- finite maps

module _ {K X : Type 0} (R : K → K → Ordering) (o : IsTotalOrder R) where
  -- what is found behind a first entry of smaller key
  behind : (e : K × X) (es xs : List (K × X)) → entries.below_all R e.0 xs ≡ true → AllByRecursion (λ (x : K × X). entries.find R x.0 es ≡ Some x.1) xs → AllByRecursion (λ (x : K × X). entries.find R x.0 (e ∷ es) ≡ Some x.1) xs
  behind e es [] up all = tt
  behind e es (x ∷ xs) up all =
      let less : R e.0 x.0 ≡ Less = less_is _ (and_first _ _ up) in
      let other : eq_by_cmp R x.0 e.0 ≡ false = ap is_eq (o.antisymm x.0 e.0 ∙ ap ordering_reverse less) in
      (ap (λ b. cond b (Some e.1) (entries.find R x.0 es)) other ∙ all.0, behind e es xs (and_second _ _ up) all.1)

  -- each entry is found by its key
  found : (es : List (K × X)) → entries.is_sorted R es ≡ true → AllByRecursion (λ (x : K × X). entries.find R x.0 es ≡ Some x.1) es
  found [] up = tt
  found (e ∷ es) up = (ap (λ r. cond (is_eq r) (Some e.1) (entries.find R e.0 es)) (tied_itself o e.0), behind e es es (and_first _ _ up) (found es (and_second _ _ up)))

  entries_found : (m : finite.FinMap R X) → AllByRecursion (λ (x : K × X). finite.get m x.0 ≡ Some x.1) (finite.entries m)
  entries_found m = lift (finite.entries m) (found (finite.entries m) (is_true _ (finite.entries_sorted m))) where
    lift : (es : List (K × X)) → AllByRecursion (λ (x : K × X). entries.find R x.0 (finite.entries m) ≡ Some x.1) es → AllByRecursion (λ (x : K × X). finite.get m x.0 ≡ Some x.1) es
    lift [] all = tt
    lift (e ∷ es) all = (finite.get-entries m e.0 ∙ all.0, lift es all.1)

  -- what holds of each value holds of one that is found
  found_holds : (P : X → Type 0) (k : K) (v : X) (es : List (K × X)) → AllByRecursion (λ (x : K × X). P x.1) es → entries.find R k es ≡ Some v → P v
  found_holds P k v [] all h = let n : None ≡ Some v = h in cc
  found_holds P k v (e ∷ es) all h =
      elim (eq_by_cmp R k e.0) as (λ b. cond b (Some e.1) (entries.find R k es) ≡ Some v → P v) [
        | true ↦ λ g. subst P (let is : e.1 ≡ v = cc in is) all.0
        | false ↦ λ g. found_holds P k v es all.1 g
      ] h

  -- other values at the same keys
  below-map : {Y : Type 0} (g : X → Y) (k : K) (es : List (K × X)) → entries.below_all R k (map (λ (e : K × X). (e.0, g e.1)) es) ≡ entries.below_all R k es
  below-map g k [] = refl
  below-map g k (e ∷ es) = ap (λ b. is_lt (R k e.0) && b) (below-map g k es)

  sorted-map : {Y : Type 0} (g : X → Y) (es : List (K × X)) → entries.is_sorted R (map (λ (e : K × X). (e.0, g e.1)) es) ≡ entries.is_sorted R es
  sorted-map g [] = refl
  sorted-map g (e ∷ es) = λ i. below-map g e.0 es i && sorted-map g es i

  find-map : {Y : Type 0} (g : X → Y) (k : K) (es : List (K × X)) → entries.find R k (map (λ (e : K × X). (e.0, g e.1)) es) ≡ option_map g (entries.find R k es)
  find-map g k [] = refl
  find-map g k (e ∷ es) =
      elim (eq_by_cmp R k e.0) as (λ b. cond b (Some (g e.1)) (entries.find R k (map (λ (e : K × X). (e.0, g e.1)) es)) ≡ option_map g (cond b (Some e.1) (entries.find R k es))) [ true ↦ refl | false ↦ find-map g k es ]

-- ---- the children

-- a row of the tree
abbrev IsRow : Tree → Row → Type 0
IsRow t r = look t r.id ≡ Some r

rows_there : (t : Tree) → IsWellFormed t → (es : List (NodeId × Row)) → AllByRecursion (λ (x : NodeId × Row). finite.get t x.0 ≡ Some x.1) es → AllByRecursion (IsRow t) (map (λ (e : NodeId × Row). e.1) es)
rows_there t w [] all = tt
rows_there t w (e ∷ es) all = (ap (look t) (w.keyed e.0 e.1 all.0) ∙ all.0, rows_there t w es all.1)

-- a row that stands below the parent
pub record IsChild (t : Tree) (parent : NodeId) (r : Row) : Type 0 where
  pub found : look t r.id ≡ Some r
  pub not_root : r.id ≢ root
  pub parent_is : r.parent ≡ parent

abbrev pub named_rows : List Row → List (List ℕ × Row)
named_rows rows = map (λ (r : Row). (r.name, r)) rows

filtered : (t : Tree) (parent : NodeId) (rows : List Row) → AllByRecursion (IsRow t) rows → AllByRecursion (λ (e : List ℕ × Row). IsChild t parent e.1) (named_rows (filter (is_child_of parent) rows))
filtered t parent [] all = tt
filtered t parent (r ∷ rows) all =
    let rest = filtered t parent rows all.1 in
    elim (is_child_of parent r) as (λ b. is_child_of parent r ≡ b → AllByRecursion (λ (e : List ℕ × Row). IsChild t parent e.1) (named_rows (cond b (r ∷ filter (is_child_of parent) rows) (filter (is_child_of parent) rows)))) [
      | true ↦ λ e. (record { found = all.0; not_root = apart r.id root (not_true _ (and_first _ _ e)); parent_is = node_is r.parent parent (and_second _ _ e) }, rest)
      | false ↦ λ e. rest
    ] refl

pub children_stand : (t : Tree) → IsWellFormed t → (parent : NodeId) → AllByRecursion (IsChild t parent) (children t parent)
children_stand t w parent = values_stand (finite.entries m) (entries_found (slice_cmp nat_cmp) nat_list_cmp_total m) where
  m : finite.FinMap (slice_cmp nat_cmp) Row
  m = by_name t parent

  values_stand : (es : List (List ℕ × Row)) → AllByRecursion (λ (x : List ℕ × Row). finite.get m x.0 ≡ Some x.1) es → AllByRecursion (IsChild t parent) (map (λ (e : List ℕ × Row). e.1) es)
  values_stand [] all = tt
  values_stand (e ∷ es) all = (
    found_holds (slice_cmp nat_cmp) nat_list_cmp_total (IsChild t parent) e.0 e.1 (named_rows (filter (is_child_of parent) (finite.values t)))
        (filtered t parent (finite.values t) (rows_there t w (finite.entries t) (entries_found node_cmp nodes_total t)))
        (sym (finite.get-from_entries nat_list_cmp_total (named_rows (filter (is_child_of parent) (finite.values t))) e.0) ∙ all.0),
    values_stand es all.1,
  )

-- ---- a table's list of their ids

-- the child of a name among the rows with the parent
pub stands-named : (parent : NodeId) (name : List ℕ) (rows : List Row) → entries.find (slice_cmp nat_cmp) name (named_rows (filter (is_child_of parent) rows)) ≡ find (stands_at parent name) rows
stands-named parent name [] = refl
stands-named parent name (r ∷ rows) =
    let tie : eq_by_cmp (slice_cmp nat_cmp) name r.name ≡ bytes_eq r.name name = is_eq-slice_cmp name r.name ∙ same_from_decides (bytes_eq name r.name) (bytes_eq r.name name) (bytes_eq-Decides name r.name) (Decides-like (bytes_eq r.name name) (λ e. sym e) (λ e. sym e) (bytes_eq-Decides r.name name)) in
    let both : stands_at parent name r ≡ (is_child_of parent r && bytes_eq r.name name) = and_assoc (not (same_node r.id root)) (same_node r.parent parent) (bytes_eq r.name name) in
    elim (is_child_of parent r) as (λ b. entries.find (slice_cmp nat_cmp) name (named_rows (cond b (r ∷ filter (is_child_of parent) rows) (filter (is_child_of parent) rows))) ≡ cond (b && bytes_eq r.name name) (Some r) (find (stands_at parent name) rows)) [
      | true ↦ ap (λ b. cond b (Some r) (entries.find (slice_cmp nat_cmp) name (named_rows (filter (is_child_of parent) rows)))) tie ∙ ap (cond (bytes_eq r.name name) (Some r)) (stands-named parent name rows)
      | false ↦ stands-named parent name rows
    ]
    ∙ ap (λ b. cond b (Some r) (find (stands_at parent name) rows)) (sym both)

ids_of_named : (t : Tree) (ids : List NodeId) → map (λ (e : List ℕ × NodeId). e.1) (map (named t) ids) ≡ ids
ids_of_named t [] = refl
ids_of_named t (q ∷ ids) = ap (λ xs. q ∷ xs) (ids_of_named t ids)

ids_of_rows : (es : List (List ℕ × Row)) → map (λ (e : List ℕ × NodeId). e.1) (map (λ (e : List ℕ × Row). (e.0, e.1.id)) es) ≡ map (λ (r : Row). r.id) (map (λ (e : List ℕ × Row). e.1) es)
ids_of_rows [] = refl
ids_of_rows (e ∷ es) = ap (λ xs. e.1.id ∷ xs) (ids_of_rows es)

-- the ids are those of the children, in their order
pub children_ids : (t : Tree) (parent : NodeId) (ids : List NodeId) → IsChildren t parent ids → ids ≡ map (λ (r : Row). r.id) (children t parent)
children_ids t parent ids is =
    let m = by_name t parent in
    let rows = filter (is_child_of parent) (finite.values t) in
    let same : map (named t) ids ≡ map (λ (e : List ℕ × Row). (e.0, e.1.id)) (finite.entries m) =
    entries.same_entries (slice_cmp nat_cmp) nat_list_cmp_total exact_bytes _ _ (truth _ is.rise)
    (truth _ (sorted-map (slice_cmp nat_cmp) nat_list_cmp_total (λ (r : Row). r.id) (finite.entries m) ∙ is_true _ (finite.entries_sorted m)))
    (λ name.
    is.gives name
    ∙ ap (option_map (λ (r : Row). r.id)) (sym (stands-named parent name (finite.values t)) ∙ sym (finite.get-from_entries nat_list_cmp_total (named_rows rows) name) ∙ finite.get-entries m name)
    ∙ sym (find-map (slice_cmp nat_cmp) nat_list_cmp_total (λ (r : Row). r.id) name (finite.entries m))) in
    sym (ids_of_named t ids) ∙ ap (map (λ (e : List ℕ × NodeId). e.1)) same ∙ ids_of_rows (finite.entries m)

-- ---- going through the list

-- the row of the id at an index is the row there
record IsNext (t : Tree) (rows : List Row) (k : ℕ) (q : NodeId) : Type 0 where
  row : Row
  there : look t q ≡ Some row
  taken : take (suc k) rows ≡ take k rows ++ row ∷ []

next : (t : Tree) (parent : NodeId) (rows : List Row) → AllByRecursion (IsChild t parent) rows → (k : ℕ) (d : NodeId) → k < length (map (λ (r : Row). r.id) rows) → IsNext t rows k (get_or (map (λ (r : Row). r.id) rows) k d)
next t parent [] all k d low = absurd (omega arith)
next t parent (x ∷ rows) all zero d low = record { row = x; there = all.0.found; taken = refl }
next t parent (x ∷ rows) all (suc k) d low =
    let n = next t parent rows all.1 k d (omega arith) in
    record { row = n.row; there = n.there; taken = ap (λ xs. x ∷ xs) n.taken }

next_of : (t : Tree) → IsWellFormed t → (parent : NodeId) (slice ids : List NodeId) → slice ≡ ids → IsChildren t parent ids → (k : ℕ) (d : NodeId) → k < length slice → IsNext t (children t parent) k (get_or slice k d)
next_of t w parent slice ids s is k d low =
    let e : slice ≡ map (λ (r : Row). r.id) (children t parent) = s ∙ children_ids t parent ids is in
    subst (λ (xs : List NodeId). IsNext t (children t parent) k (get_or xs k d)) (sym e)
    (next t parent (children t parent) (children_stand t w parent) k d (subst (λ (xs : List NodeId). k < length xs) e low))

some_is : {A : Type 0} (x y : A) → Some x ≡ Some y → x ≡ y
some_is x y e = cc

pub next_child : (t : Tree) → IsWellFormed t → (parent : NodeId) (slice ids : List NodeId) → slice ≡ ids → IsChildren t parent ids → (k : ℕ) (d : NodeId) (r : Row) → k < length slice → look t (get_or slice k d) ≡ Some r → take (k + 1) (children t parent) ≡ take k (children t parent) ++ r ∷ []
next_child t w parent slice ids s is k d r low at =
    let n = next_of t w parent slice ids s is k d low in
    ap (λ j. take j (children t parent)) (add-one k) ∙ n.taken ∙ ap (λ x. take k (children t parent) ++ x ∷ []) (some_is n.row r (sym n.there ∙ at))

pub child_is_there : (t : Tree) → IsWellFormed t → (parent : NodeId) (slice ids : List NodeId) → slice ≡ ids → IsChildren t parent ids → (k : ℕ) (d : NodeId) → k < length slice → look t (get_or slice k d) ≢ None
child_is_there t w parent slice ids s is k d low none = let n = next_of t w parent slice ids s is k d low in let e : None ≡ Some n.row = sym none ∙ n.there in cc

-- all of them
pub all_children : (t : Tree) (parent : NodeId) (slice ids : List NodeId) → slice ≡ ids → IsChildren t parent ids → (k : ℕ) → k ≡ length slice → take k (children t parent) ≡ children t parent
all_children t parent slice ids s is k at =
    let e : k ≡ length (children t parent) = at ∙ ap length (s ∙ children_ids t parent ids is) ∙ length-map (children t parent) (λ (r : Row). r.id) in
    ap (λ n. take n (children t parent)) e ∙ take-length (children t parent)
