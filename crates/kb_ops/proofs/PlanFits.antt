-- What is planned fits the tree.
use Rattle.std.proofs.Common.{◌≡◌, ◌≢◌, ℕ, zero, suc, Bool, true, false, not, List, [], ◌∷◌, length, map, cond, Option, Some, None, IsSome, is_some, Result, Ok, Err, ◌&&◌, if◌then◌else◌, inl, inr, refl, sym, ap, subst, ◌∙◌, arith, nat_lt, nat_le, ◌+◌, ◌||◌, nat_eq, ◌==◌, lit≤, max, ◌≤◌}
use mathlib.Core.Bool.{true≢false, beq}
use Rattle.std.specs.Option.{option_map_or, unwrap_or}
use Rattle.std.specs.List.{list_any, list_all, slice_split}
use Rattle.percent_encoding.specs.Percent.{percent_decode}
use borrow.Author.Tests.{ltb-false}
use Rattle.std.specs.FinMap as map
use Rattle.std.specs.FinMap.Entries as entries
use Rattle.kb_name.specs.declared.ids.NodeId.{NodeId}
use Rattle.kb_ops.specs.declared.values.Kind.{Kind}
use Rattle.kb_ops.specs.declared.values.Kind.TheVariants.{Dir, File, Link}
use Rattle.kb_ops.specs.declared.rows.Row.{Row}
use Rattle.kb_ops.specs.declared.rows.Change.{Change}
use Rattle.kb_ops.specs.declared.rows.WalkFault.{WalkFault}
use Rattle.kb_ops.specs.declared.rows.WalkFault.TheVariants as walk
use Rattle.kb_ops.specs.declared.requests.Request.{Request}
use Rattle.kb_ops.specs.declared.requests.Request.TheVariants as asks
use Rattle.kb_ops.specs.declared.requests.PlanFault.{PlanFault}
use Rattle.kb_ops.specs.declared.requests.PlanFault.TheVariants.{NotDir, NotFile, Exists, NotEmpty, Inside, TooBig, TreeFull, NotFound}
use Rattle.kb_name.specs.Names.{is_name, AreNames}
use Rattle.kb_name.specs.declared.paths.PathFault.{PathFault}
use Rattle.kb_name.specs.declared.paths.PathFault.TheVariants as paths
use Rattle.kb_name.specs.Paths.{path_of, at_most_64, names_in, names_behind, all_names}
use Rattle.std.specs.Ordering.{eq_by_cmp}
use Rattle.kb_name.specs.Nodes.{root, same_node, node_cmp}
use Rattle.kb_ops.specs.Rows.{is_dir, meets, HasNoChild, FitsNew, FitsRename}
use Rattle.kb_ops.specs.Trees.{Tree, look, IsWellFormed, created, FitsChange, IsFileAt}
use Rattle.kb_ops.specs.Find.{child, find_from}
use Rattle.kb_ops.specs.Plan.{◌>>=◌, refused, split_last, Place, place_in, place_at, has_child, is_below, plan_create, plan_remove, plan_onto, plan_into, plan_move, both, file_at, is_file_kind, plan_write, plan_cut, plan_exec, plan_touch, change_for, read, both_paths}
use Rattle.kb_ops.proofs.Nodes.{node_self, node_other, apart, node_cases, and_first, and_second}
use Rattle.kb_ops.proofs.Walks.{meets_from, row_cases, or_no_left, or_no_right}
use Rattle.kb_ops.proofs.Kept.{some_and, and_some, dir_at}
use Rattle.kb_ops.proofs.Children.{child_stands, no_child_free}

-- how an answer came about
pub bind_ok : {A B E : Type 0} (r : Result A E) (f : A → Result B E) (y : B) → (r >>= f) ≡ Ok y → (x : A) × (r ≡ Ok x) × (f x ≡ Ok y)
bind_ok (Ok x) f y h = (x, refl, h)
bind_ok (Err e) f y h = cc

value_or : {A E : Type 0} → A → Result A E → A
value_or d (Ok x) = x
value_or d (Err e) = d

if_ok : {A E : Type 0} (b : Bool) (e : E) (x y : A) → cond b (Ok x) (Err e) ≡ Ok y → (b ≡ true) × (x ≡ y)
unfolding value_or
if_ok true e x y h = (refl, ap (value_or x) h)
if_ok false e x y h = cc

refused_ok : {A : Type 0} (r : Result A WalkFault) (x : A) → refused r ≡ Ok x → r ≡ Ok x
unfolding value_or
refused_ok (Ok a) x h = ap (λ y. Ok y) (ap (value_or a) h)
refused_ok (Err e) x h = cc

both_ok : {A B : Type 0} (r : Result A WalkFault) (s : Result B WalkFault) (x : A × B) → both r s ≡ Ok x → (r ≡ Ok x.0) × (s ≡ Ok x.1)
unfolding value_or
both_ok {A} {B} (Ok a) (Ok b) x h = let e = ap (value_or (a, b)) h in (ap (λ (p : A × B). Ok p.0) e, ap (λ (p : A × B). Ok p.1) e)
both_ok (Ok a) (Err e) x h = cc
both_ok (Err e) (Ok b) x h = cc
both_ok (Err walk.NotFound) (Err f) x h = cc
both_ok (Err walk.NotDir) (Err f) x h = cc

-- the end of a walk is there
pub walk_there : (t : Tree) → IsWellFormed t → (names : List (List ℕ)) (q x : NodeId) → IsSome (look t q) → find_from t q names ≡ Ok x → IsSome (look t x)
unfolding value_or
walk_there t w [] q x there h = subst (λ k. IsSome (look t k)) (ap (value_or q) h) there
walk_there t w (n ∷ names) q x there h =
    elim (is_dir (look t) q) as (λ b. cond b (option_map_or (λ c. find_from t c names) (child t q n) (Err walk.NotFound)) (Err walk.NotDir) ≡ Ok x → IsSome (look t x)) [
      | true ↦ λ g. elim (child t q n) as (λ o. child t q n ≡ o → option_map_or (λ c. find_from t c names) o (Err walk.NotFound) ≡ Ok x → IsSome (look t x)) [
        | Some c ↦ λ e f. let s = child_stands t w q n c e in walk_there t w names c x (ap is_some s.found) f
        | None ↦ λ e f. cc
      ] refl g
      | false ↦ λ g. cc
    ] h

pub root_there : (t : Tree) → IsWellFormed t → IsSome (look t root)
root_there t w = ap is_some (some_and _ (look t root) w.rooted).1

none_some : {A : Type 0} (x : A) → None ≢ Some x
none_some x e = cc

-- what no row passes, no row that is found passes
any_none : (p : Row → Bool) (q : NodeId) (r : Row) (es : List (NodeId × Row)) → entries.find node_cmp q es ≡ Some r → list_any p (map {B = Row} (λ (e : NodeId × Row). e.1) es) ≡ false → p r ≡ false
any_none p q r [] h n = absurd (none_some r h)
any_none p q r (e ∷ es) h n =
    elim (eq_by_cmp node_cmp q e.0) as (λ b. cond b (Some e.1) (entries.find node_cmp q es) ≡ Some r → p r ≡ false) [
      | true ↦ λ g. ap p (sym (ap (λ o. unwrap_or o e.1) g)) ∙ or_no_left _ _ n
      | false ↦ λ g. any_none p q r es g (or_no_right _ _ n)
    ] h

pub childless : (t : Tree) (node : NodeId) → IsWellFormed t → has_child t node ≡ false → HasNoChild (look t) node
childless t node w none = λ q r found off is.
    let no = any_none (λ (r : Row). not (same_node r.id root) && same_node r.parent node) q r (map.entries t) (sym (map.get-entries t q) ∙ found) none in
    let yes : (not (same_node r.id root) && same_node r.parent node) ≡ true =
    ap (λ b. not b && same_node r.parent node) (ap (λ k. same_node k root) (w.keyed q r found) ∙ node_other q root off) ∙ ap (same_node r.parent) (sym is) ∙ node_self r.parent in
    true≢false (sym yes ∙ no)

-- where there is a row other than the root, the root has a child
root_has_child : (t : Tree) (node : NodeId) → IsWellFormed t → node ≢ root → IsSome (look t node) → has_child t root ≡ false → ⊥
root_has_child t node w off there none = up (map.len t) node off (reach there)
  where
    reach : IsSome (look t node) → meets (look t) root (map.len t) node ≡ true
    reach h = elim (row_cases (look t) node) [ inl r ↦ w.reaches node r.0 r.1 | inr e ↦ absurd (true≢false (sym h ∙ ap is_some e)) ]

    up : (n : ℕ) (q : NodeId) → q ≢ root → meets (look t) root n q ≡ true → ⊥
    up zero q ne h = true≢false (sym h ∙ node_other q root ne)
    up (suc n) q ne h =
        let s = meets_from (look t) root q n ne h in
        elim (node_cases s.0.parent root) [
          | inl e ↦ childless t root w none q s.0 s.1 ne e
          | inr other ↦ up n s.0.parent other s.2
        ]

read_ok : {A : Type 0} (r : Result A PathFault) (x : A) → read r ≡ Ok x → r ≡ Ok x
unfolding value_or
read_ok (Ok a) x h = ap (λ y. Ok y) (ap (value_or a) h)
read_ok (Err e) x h = cc

both_paths_ok : {A B : Type 0} (r : Result A PathFault) (s : Result B PathFault) (x : A × B) → both_paths r s ≡ Ok x → (r ≡ Ok x.0) × (s ≡ Ok x.1)
unfolding value_or
both_paths_ok {A} {B} (Ok a) (Ok b) x h = let e = ap (value_or (a, b)) h in (ap (λ (p : A × B). Ok p.0) e, ap (λ (p : A × B). Ok p.1) e)
both_paths_ok (Ok a) (Err e) x h = cc
both_paths_ok (Err e) (Ok b) x h = cc
both_paths_ok (Err paths.BadPath) (Err f) x h = cc
both_paths_ok (Err paths.TooDeep) (Err f) x h = cc
both_paths_ok (Err paths.Memory) (Err f) x h = cc

all_names_named : (texts names : List (List ℕ)) → all_names texts ≡ Ok names → AreNames names
all_names_named texts names h =
    elim (list_all is_name texts) as (λ b. list_all is_name texts ≡ b → cond b (Ok texts) (Err paths.BadPath) ≡ Ok names → AreNames names) [
      | true ↦ λ e g. let same : texts ≡ names = cc in subst AreNames same e
      | false ↦ λ e g. cc
    ] refl h

behind_named : (text : List ℕ) (names : List (List ℕ)) → names_behind text ≡ Ok names → AreNames names
behind_named [] names h = let same : [] ≡ names = cc in subst AreNames same refl
behind_named (b ∷ rest) names h = all_names_named (map percent_decode (slice_split (λ b. b == 47) (b ∷ rest))) names h

in_named : (word : List ℕ) (names : List (List ℕ)) → names_in word ≡ Ok names → AreNames names
in_named [] names h = cc
in_named (b ∷ rest) names h =
    elim (b == 47) as (λ v. cond v (names_behind rest) (Err paths.BadPath) ≡ Ok names → AreNames names) [
      | true ↦ λ g. behind_named rest names g
      | false ↦ λ g. cc
    ] h

shallow_ok : (r : Result (List (List ℕ)) PathFault) (names : List (List ℕ)) → at_most_64 r ≡ Ok names → r ≡ Ok names
shallow_ok (Ok all) names h =
    let Shallow : Bool → Type 0 = λ b. let r : Result (List (List ℕ)) PathFault = cond b (Ok all) (Err paths.TooDeep) in let s : Result (List (List ℕ)) PathFault = Ok all in (r ≡ Ok names → s ≡ Ok names) in
    elim (nat_le (length all) 64) as Shallow [
      | true ↦ λ g. g
      | false ↦ λ g. cc
    ] h
shallow_ok (Err e) names h = h

-- the names of a path are names
path_named : (word : List ℕ) (names : List (List ℕ)) → path_of word ≡ Ok names → AreNames names
path_named word names h = in_named word names (shallow_ok (names_in word) names h)

path_names : (word : List ℕ) (names : List (List ℕ)) → read (path_of word) ≡ Ok names → AreNames names
path_names word names h = path_named word names (read_ok (path_of word) names h)

last_name : (names : List (List ℕ)) → AreNames names → (s : List (List ℕ) × List ℕ) → split_last names ≡ Some s → is_name s.1 ≡ true
last_name [] h s e = absurd (none_some s e)
last_name (n ∷ names) h s e =
    elim (split_last names) as (λ o. split_last names ≡ o → option_map_or (λ (x : List (List ℕ) × List ℕ). Some (n ∷ x.0, x.1)) o (Some ([], n)) ≡ Some s → is_name s.1 ≡ true) [
      | None ↦ λ p g. subst (λ (x : List ℕ). is_name x ≡ true) (ap (λ o. (unwrap_or o s).1) g) (and_first _ _ h)
      | Some x ↦ λ p g. subst (λ (y : List ℕ). is_name y ≡ true) (ap (λ o. (unwrap_or o s).1) g) (last_name names (and_second _ _ h) x p)
    ] refl e

max-right : (a b : ℕ) → b ≤ max a b
max-right a b = omega arith

max_le : (a b n : ℕ) → a ≤ n → b ≤ n → max a b ≤ n
max_le a b n p q = omega arith

none_within : (n : ℕ) → 0 + 0 ≤ n
none_within n = omega arith

-- a place is the root's, or in a Dir
pub data IsPlaced (t : Tree) (p : Place) : Type 0 where
  at_root : p.target ≡ Some root → IsPlaced t p
  in_dir : is_dir (look t) p.parent ≡ true → p.target ≡ child t p.parent p.name → is_name p.name ≡ true → IsPlaced t p

placed : (t : Tree) (names : List (List ℕ)) (p : Place) → AreNames names → place_at t names ≡ Ok p → IsPlaced t p
unfolding place_at place_in value_or
placed t names p h e =
    elim (split_last names) as (λ o. split_last names ≡ o → option_map_or (λ (s : List (List ℕ) × List ℕ). place_in t s.0 s.1) o (Ok (record { parent = root; name = []; target = Some root })) ≡ Ok p → IsPlaced t p) [
      | None ↦ λ s g. let is = ap (value_or p) g in at_root (ap (λ (x : Place). x.target) (sym is))
      | Some x ↦ λ s g.
          let b = bind_ok (find_from t root x.0) (λ parent. if is_dir (look t) parent then Ok (record { parent = parent; name = x.1; target = child t parent x.1 }) else Err walk.NotDir) p g in
          let c = if_ok (is_dir (look t) b.0) walk.NotDir (record { parent = b.0; name = x.1; target = child t b.0 x.1 }) p b.2 in
          in_dir
          (subst (λ (y : Place). is_dir (look t) y.parent ≡ true) c.1 c.0)
          (subst (λ (y : Place). y.target ≡ child t y.parent y.name) c.1 refl)
          (subst (λ (y : Place). is_name y.name ≡ true) c.1 (last_name names h x s))
    ] refl e

some_is : {A : Type 0} (x y : A) → Some x ≡ Some y → x ≡ y
some_is x y e = ap (λ o. unwrap_or o x) e

module _ (id : NodeId) (moment : ℕ) (t : Tree) (w : IsWellFormed t) where
  -- a change that is planned fits
  abbrev pub Fitting : Result (Option Change) PlanFault → Type 0
  Fitting (Ok (Some c)) = FitsChange id moment c t
  Fitting (Ok None) = Unit {0}
  Fitting (Err e) = Unit {0}

  bind_fits : {A : Type 0} (r : Result A PlanFault) (f : A → Result (Option Change) PlanFault) → ((x : A) → r ≡ Ok x → Fitting (f x)) → Fitting (r >>= f)
  bind_fits (Ok x) f h = h x refl
  bind_fits (Err e) f h = tt

  if_fits : (b : Bool) (e : PlanFault) (r : Result (Option Change) PlanFault) → (b ≡ false → Fitting r) → Fitting (cond b (Err e) r)
  if_fits true e r h = tt
  if_fits false e r h = h refl

  same_fits : (b : Bool) (r : Result (Option Change) PlanFault) → (b ≡ false → Fitting r) → Fitting (cond b (Ok None) r)
  same_fits true r h = tt
  same_fits false r h = h refl

  pub remove_fits : (names : List (List ℕ)) → Fitting (plan_remove t names)
  unfolding plan_remove
  remove_fits names = bind_fits (refused (find_from t root names)) _ (λ node at.
      if_fits (has_child t node) NotEmpty _ (λ none.
      if_fits (same_node node root) Inside _ (λ off.
      record {
        there = walk_there t w names root node (root_there t w) (refused_ok _ _ at);
        not_root = apart node root off;
        childless = childless t node w none;
      })))

  no_target : (o : Option NodeId) → is_some o ≡ false → o ≡ None
  no_target (Some x) h = absurd (true≢false h)
  no_target None h = refl

  pub create_fits : look t id ≡ None → (names : List (List ℕ)) (kind : Kind) (bytes : List ℕ) → AreNames names → (kind ≡ Dir → bytes ≡ []) → Fitting (plan_create t names kind bytes)
  unfolding plan_create
  create_fits new names kind bytes proper plain = bind_fits (refused (place_at t names)) _ (λ place at.
      if_fits (is_some place.target) Exists _ (λ untaken.
      if_fits (nat_lt 1024 (length bytes)) TooBig _ (λ few.
      if_fits (nat_le 32768 (map.len t)) TreeFull _ (λ room.
      elim (placed t names place proper (refused_ok _ _ at)) as (λ _. FitsNew (look t) (created id moment place.parent place.name kind bytes)) [
        | at_root taken ↦ absurd (true≢false (sym (ap is_some taken) ∙ untaken))
        | in_dir dir target named ↦ record {
          new = new;
          dir = dir;
          free = no_child_free t w place.parent place.name (sym target ∙ no_target place.target untaken);
          named = named;
          plain = record { small = omega (arith, ltb-false 1024 (length bytes) few); no_bytes = plain; no_exec = λ _. refl };
        }
      ]))))

  both_false : (a b : Bool) → (a && not b) ≡ false → (not a && b) ≡ false → b ≡ a
  both_false true true g h = refl
  both_false true false g h = absurd (true≢false g)
  both_false false true g h = absurd (true≢false h)
  both_false false false g h = refl

  -- the node isn't the root, since all is below the root
  moved_not_root : (node parent : NodeId) → is_dir (look t) parent ≡ true → is_below t node parent ≡ false → node ≢ root
  moved_not_root node parent dir below e =
      let p = dir_at (look t) parent dir in
      true≢false (sym (w.reaches parent p.0 p.1) ∙ ap (λ k. is_below t k parent) (sym e) ∙ below)

  into_fits : (node : NodeId) (place : Place) → IsSome (look t node) → IsPlaced t place → place.target ≡ None → Fitting (plan_into t node place)
  unfolding plan_into
  into_fits node place there is none =
      if_fits (is_below t node place.parent) Inside _ (λ below.
      elim is as (λ _. FitsRename (map.len t) (look t) node place.parent place.name None) [
        | at_root taken ↦ absurd (none_some root (sym none ∙ taken))
        | in_dir dir target named ↦ record {
          there = there;
          not_root = moved_not_root node place.parent dir below;
          dir = dir;
          not_below = below;
          named = named;
          place = no_child_free t w place.parent place.name (sym target ∙ none);
        }
      ])

  onto_fits : (node : NodeId) (place : Place) (gone : NodeId) → IsSome (look t node) → IsPlaced t place → place.target ≡ Some gone → Fitting (plan_onto t node place gone)
  unfolding plan_onto
  onto_fits node place gone there is some =
      if_fits _ NotDir _ (λ not_dir.
      if_fits _ NotFile _ (λ not_file.
      if_fits _ NotEmpty _ (λ empty.
      if_fits (is_below t node place.parent) Inside _ (λ below.
      same_fits (same_node gone node) _ (λ other.
      let none : has_child t gone ≡ false = ap (λ b. not b && has_child t gone) (sym other) ∙ empty in
      elim is as (λ _. FitsRename (map.len t) (look t) node place.parent place.name (Some gone)) [
        | at_root taken ↦
            let here : gone ≡ root = some_is gone root (sym some ∙ taken) in
            absurd (root_has_child t node w (λ e. apart gone node other (here ∙ sym e)) there (ap (has_child t) (sym here) ∙ none))
        | in_dir dir target named ↦
            let s = child_stands t w place.parent place.name gone (sym target ∙ some) in
            record {
              there = there;
              not_root = moved_not_root node place.parent dir below;
              dir = dir;
              not_below = below;
              named = named;
              place = record {
                stands = and_some _ (look t gone) s.row s.found (s.parent_is, s.name_is);
                not_root = s.not_root;
                other = apart gone node other;
                childless = childless t gone w none;
                alike = both_false (is_dir (look t) node) (is_dir (look t) gone) not_dir not_file;
              };
            }
      ])))))

  pub move_fits : (from to : List (List ℕ)) → AreNames to → Fitting (plan_move t from to)
  unfolding plan_move
  move_fits from to proper = bind_fits (refused (both (find_from t root from) (place_at t to))) _ (λ ends at.
      let b = both_ok (find_from t root from) (place_at t to) ends (refused_ok _ _ at) in
      let there = walk_there t w from root ends.0 (root_there t w) b.0 in
      let is = placed t to ends.1 proper b.1 in
      elim ends.1.target as (λ o. ends.1.target ≡ o → Fitting (option_map_or (λ gone. plan_onto t ends.0 ends.1 gone) o (plan_into t ends.0 ends.1))) [
        | Some gone ↦ λ e. onto_fits ends.0 ends.1 gone there is e
        | None ↦ λ e. into_fits ends.0 ends.1 there is e
      ] refl)

  file_kind : (k : Kind) → is_file_kind k ≡ true → k ≡ File
  file_kind Dir h = absurd (true≢false (sym h))
  file_kind File h = refl
  file_kind Link h = absurd (true≢false (sym h))

  -- what is planned for the File at a node
  file_fits : (node : NodeId) (f : Row → Result (Option Change) PlanFault) → ((r : Row) → IsFileAt (look t) node → IsSome (look t node) → length r.bytes ≤ 16777216 → Fitting (f r)) → Fitting (option_map_or (λ r. Ok r) (file_at t node) (Err NotFile) >>= f)
  file_fits node f h = elim (look t node) as (λ o. look t node ≡ o → Fitting (option_map_or (λ r. Ok r) (option_map_or (λ r. if is_file_kind r.kind then Some r else None) o None) (Err NotFile) >>= f)) [
    | None ↦ λ e. tt
    | Some r ↦ λ e. elim (is_file_kind r.kind) as (λ b. is_file_kind r.kind ≡ b → Fitting (option_map_or (λ r. Ok r) (if b then Some r else None) (Err NotFile) >>= f)) [
      | true ↦ λ k. h r (and_some _ (look t node) r e (file_kind r.kind k)) (ap is_some e) (w.plain node r e).small
      | false ↦ λ k. tt
    ] refl
  ] refl

  pub write_fits : (names : List (List ℕ)) (offset : ℕ) (bytes : List ℕ) → Fitting (plan_write t names offset bytes)
  unfolding plan_write
  write_fits names offset bytes = bind_fits (refused (find_from t root names)) _ (λ node at.
      file_fits node _ (λ row file there small.
      if_fits (nat_lt 16777216 (offset + length bytes) || nat_lt 65536 (length bytes)) TooBig _ (λ fits.
      same_fits (nat_eq (length bytes) 0) _ (λ some.
      let within : offset + length bytes ≤ 16777216 = ltb-false 16777216 (offset + length bytes) (or_no_left _ _ fits) in (
        file,
        record {
          few = ltb-false 65536 (length bytes) (or_no_right _ _ fits);
          within = max-right (length row.bytes) (offset + length bytes);
          small = max_le (length row.bytes) (offset + length bytes) 16777216 small within;
          plain = λ e. absurd (true≢false (sym (ap (λ (xs : List ℕ). nat_eq (length xs) 0) e) ∙ some));
        },
      )))))

  pub cut_fits : (names : List (List ℕ)) (size : ℕ) → Fitting (plan_cut t names size)
  unfolding plan_cut
  cut_fits names size = bind_fits (refused (find_from t root names)) _ (λ node at.
      file_fits node _ (λ row file there small.
      if_fits (nat_lt 16777216 size) TooBig _ (λ fits.
      same_fits (nat_eq size (length row.bytes)) _ (λ other.
      (file, record { few = lit≤ tt; within = none_within size; small = ltb-false 16777216 size fits; plain = λ e. refl })))))

  pub exec_fits : (names : List (List ℕ)) (on : Bool) → Fitting (plan_exec t names on)
  unfolding plan_exec
  exec_fits names on = bind_fits (refused (find_from t root names)) _ (λ node at.
      file_fits node _ (λ row file there small.
      same_fits (beq row.exec on) _ (λ other. file)))

  pub touch_fits : (names : List (List ℕ)) (mtime : ℕ) → Fitting (plan_touch t names mtime)
  unfolding plan_touch
  touch_fits names mtime = bind_fits (refused (find_from t root names)) _ (λ node at.
      bind_fits (option_map_or (λ r. Ok r) (look t node) (Err NotFound)) _ (λ row there.
      same_fits (nat_eq row.mtime mtime) _ (λ other.
      walk_there t w names root node (root_there t w) (refused_ok _ _ at))))

  pub change_fits : look t id ≡ None → (request : Request) → Fitting (change_for t request)
  change_fits new (asks.Mkdir path) = bind_fits (read (path_of path)) _ (λ names at. create_fits new names Dir [] (path_names path names at) (λ _. refl))
  change_fits new (asks.Mkfile path) = bind_fits (read (path_of path)) _ (λ names at. create_fits new names File [] (path_names path names at) (λ e. cc))
  change_fits new (asks.Link path target) = bind_fits (read (path_of path)) _ (λ names at. create_fits new names Link target (path_names path names at) (λ e. cc))
  change_fits new (asks.Remove path) = bind_fits (read (path_of path)) _ (λ names at. remove_fits names)
  change_fits new (asks.Move from to) = bind_fits (read (both_paths (path_of from) (path_of to))) _ (λ ends at. move_fits ends.0 ends.1 (path_named to ends.1 (both_paths_ok (path_of from) (path_of to) ends (read_ok _ _ at)).1))
  change_fits new (asks.Write path offset bytes) = bind_fits (read (path_of path)) _ (λ names at. write_fits names offset bytes)
  change_fits new (asks.Cut path size) = bind_fits (read (path_of path)) _ (λ names at. cut_fits names size)
  change_fits new (asks.Exec path on) = bind_fits (read (path_of path)) _ (λ names at. exec_fits names on)
  change_fits new (asks.Touch path mtime) = bind_fits (read (path_of path)) _ (λ names at. touch_fits names mtime)
