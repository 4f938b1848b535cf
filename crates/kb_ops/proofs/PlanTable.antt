-- The plan is what the table of refusals says.
use Rattle.std.proofs.Common.{◌≡◌, ℕ, ◌==◌, map, Bool, true, false, not, ◌&&◌, ◌||◌, List, [], ◌∷◌, length, cond, nat_le, nat_lt, nat_eq, Option, Some, None, IsSome, is_some, Result, Ok, Err, if◌then◌else◌, refl, sym, ap, subst, ◌∙◌}
use mathlib.Core.Bool.{true≢false}
use Rattle.std.specs.Option.{option_map_or, unwrap_or}
use Rattle.std.specs.List.{list_all, slice_split}
use Rattle.std.specs.FinMap as maps
use Rattle.percent_encoding.specs.Percent.{percent_decode}
use Rattle.kb_name.specs.declared.ids.NodeId.{NodeId}
use Rattle.kb_name.specs.declared.paths.PathFault.{PathFault}
use Rattle.kb_name.specs.declared.paths.PathFault.TheVariants as paths
use Rattle.kb_name.specs.Names.{is_name}
use Rattle.kb_name.specs.Paths.{path_of, at_most_64, names_in, names_behind, all_names}
use Rattle.kb_name.specs.Nodes.{root, same_node}
use Rattle.kb_ops.specs.declared.values.Kind.{Kind}
use Rattle.kb_ops.specs.declared.values.Kind.TheVariants.{Dir, File, Link}
use Rattle.kb_ops.specs.declared.rows.Row.{Row}
use Rattle.kb_ops.specs.declared.rows.Change.{Change}
use Rattle.kb_ops.specs.declared.rows.Change.TheVariants.{Create, Remove, Rename, Touch}
use Rattle.kb_ops.specs.declared.rows.WalkFault.{WalkFault}
use Rattle.kb_ops.specs.declared.rows.WalkFault.TheVariants as walk
use Rattle.kb_ops.specs.declared.requests.PlanFault.{PlanFault}
use Rattle.kb_ops.specs.declared.requests.PlanFault.TheVariants.{BadPath, TooDeep, NotFound, NotDir, NotFile, Exists, NotEmpty, Inside, TooBig, TreeFull}
use Rattle.kb_ops.specs.declared.requests.Planned.{Planned}
use Rattle.kb_ops.specs.declared.requests.Planned.TheVariants.{Same, Made}
use Rattle.kb_ops.specs.declared.requests.Request.{Request}
use Rattle.kb_ops.specs.declared.requests.Request.TheVariants as asks
use Rattle.kb_ops.specs.Rows.{is_dir}
use Rattle.kb_ops.specs.Trees.{Tree, look, IsWellFormed, root_row}
use Rattle.kb_ops.specs.Find.{child, find_from}
use Rattle.kb_ops.specs.Plan.{◌>>=◌, refused, split_last, Place, place_in, place_at, has_child, is_below, plan_create, plan_remove, plan_onto, plan_into, plan_move, both, file_at, is_file_kind, plan_write, plan_cut, plan_exec, plan_touch, change_for, read, both_paths, planned, plan_of}
use Rattle.kb_ops.specs.Refusals.{is_unread, names_read, names_of, front_of, last_of, misses, stumbles, end_at, row_at, standing_at, applies, refusals, unless_refused, is_as_asked, change_asked, plan_by_table}
use Rattle.kb_ops.proofs.PlanFits.{walk_there, root_there}
use Rattle.kb_ops.proofs.Parents.{childless_file, dir_above, root_is_dir}

abbrev Answer : Type 0
Answer = Result (Option Change) PlanFault

-- ---- words

read_bad : (word : List ℕ) (e : PathFault) → names_in word ≡ Err e → e ≡ paths.BadPath
read_bad [] e h = cc
read_bad (b ∷ rest) e h = elim (nat_eq b 47) as (λ v. cond v (names_behind rest) (Err paths.BadPath) ≡ Err e → e ≡ paths.BadPath) [ true ↦ behind rest | false ↦ λ g. cc ] h
  where
    all : (texts : List (List ℕ)) → all_names texts ≡ Err e → e ≡ paths.BadPath
    all texts = elim (list_all is_name texts) as (λ v. cond v (Ok texts) (Err paths.BadPath) ≡ Err e → e ≡ paths.BadPath) [ true ↦ λ g. cc | false ↦ λ g. cc ]

    behind : (text : List ℕ) → names_behind text ≡ Err e → e ≡ paths.BadPath
    behind [] g = cc
    behind (c ∷ cs) g = all (map percent_decode (slice_split (λ x. x == 47) (c ∷ cs))) g

abbrev is_deep : List (List ℕ) → Bool
is_deep names = not (nat_le (length names) 64)

-- one word
by_word : (word : List ℕ) (f : List (List ℕ) → Answer) (rest : List (List ℕ) → Answer) → ((names : List (List ℕ)) → f names ≡ rest names)
    → (read (path_of word) >>= f) ≡ cond (is_unread (names_in word) || false) (Err BadPath) (cond (is_deep (names_of word) || false) (Err TooDeep) (rest (names_of word)))
by_word word f rest h =
    elim (names_in word) as (λ r. names_in word ≡ r → (read (at_most_64 r) >>= f) ≡ cond (is_unread r || false) (Err BadPath) (cond (is_deep (names_read r) || false) (Err TooDeep) (rest (names_read r)))) [
      | Ok names ↦ λ e. elim (nat_le (length names) 64) as (λ b. (read (if b then Ok names else Err paths.TooDeep) >>= f) ≡ cond (not b || false) (Err TooDeep) (rest names)) [ true ↦ h names | false ↦ refl ]
      | Err fault ↦ λ e. let P : PathFault → Type 0 = λ x. (read (at_most_64 (Err x)) >>= f) ≡ Err BadPath in subst P (sym (read_bad word fault e)) refl
    ] refl

-- the two words of a move
by_words : (from to : List ℕ) (f : List (List ℕ) × List (List ℕ) → Answer) (rest : List (List ℕ) → List (List ℕ) → Answer) → ((a b : List (List ℕ)) → f (a, b) ≡ rest a b)
    → (read (both_paths (path_of from) (path_of to)) >>= f)
    ≡ cond (is_unread (names_in from) || (is_unread (names_in to) || false)) (Err BadPath) (cond (is_deep (names_of from) || (is_deep (names_of to) || false)) (Err TooDeep) (rest (names_of from) (names_of to)))
by_words from to f rest h =
    elim (names_in from) as (λ r. names_in from ≡ r → (read (both_paths (at_most_64 r) (path_of to)) >>= f) ≡ cond (is_unread r || (is_unread (names_in to) || false)) (Err BadPath) (cond (is_deep (names_read r) || (is_deep (names_of to) || false)) (Err TooDeep) (rest (names_read r) (names_of to)))) [
      | Ok a ↦ λ e. elim (names_in to) as (λ s. names_in to ≡ s → (read (both_paths (at_most_64 (Ok a)) (at_most_64 s)) >>= f) ≡ cond (is_unread s || false) (Err BadPath) (cond (is_deep a || (is_deep (names_read s) || false)) (Err TooDeep) (rest a (names_read s)))) [
        | Ok b ↦ λ g. two a b (nat_le (length a) 64) (nat_le (length b) 64)
        | Err fault ↦ λ g. let P : PathFault → Type 0 = λ x. (read (both_paths (at_most_64 (Ok a)) (at_most_64 (Err x))) >>= f) ≡ Err BadPath in subst P (sym (read_bad to fault g)) (late a (nat_le (length a) 64))
      ] refl
      | Err fault ↦ λ e. let P : PathFault → Type 0 = λ x. (read (both_paths (at_most_64 (Err x)) (path_of to)) >>= f) ≡ Err BadPath in subst P (sym (read_bad from fault e)) (early (path_of to))
    ] refl
  where
    two : (a b : List (List ℕ)) (x y : Bool) → (read (both_paths (if x then Ok a else Err paths.TooDeep) (if y then Ok b else Err paths.TooDeep)) >>= f) ≡ cond (not x || (not y || false)) (Err TooDeep) (rest a b)
    two a b true true = h a b
    two a b true false = refl
    two a b false true = refl
    two a b false false = refl

    late : (a : List (List ℕ)) (x : Bool) → (read (both_paths {B = List (List ℕ)} (if x then Ok a else Err paths.TooDeep) (Err paths.BadPath)) >>= f) ≡ Err BadPath
    late a true = refl
    late a false = refl

    early : (s : Result (List (List ℕ)) PathFault) → (read (both_paths {A = List (List ℕ)} (Err paths.BadPath) s) >>= f) ≡ Err BadPath
    early (Ok b) = refl
    early (Err paths.BadPath) = refl
    early (Err paths.TooDeep) = refl
    early (Err paths.Memory) = refl

module _ (t : Tree) (w : IsWellFormed t) where
  root_dir : not (is_dir (look t) root) ≡ false
  root_dir = ap not (root_is_dir t w)

  -- ---- creates

  abbrev make : Place → Kind → List ℕ → Answer
  make place kind bytes =
      if is_some place.target then Err Exists
      else if nat_lt 1024 (length bytes) then Err TooBig
      else if nat_le 32768 (maps.len t) then Err TreeFull
      else Ok (Some (Create place.parent place.name kind bytes))

  abbrev place_below : Result NodeId WalkFault → List ℕ → Result Place WalkFault
  place_below r name = r >>= λ parent. if is_dir (look t) parent then Ok (record { parent = parent; name = name; target = child t parent name }) else Err walk.NotDir

  abbrev created_at : Result NodeId WalkFault → List ℕ → Option NodeId → Kind → List ℕ → Answer
  created_at r name target kind bytes =
      cond (misses r || false) (Err NotFound)
      (cond ((stumbles r || false) || (not (is_dir (look t) (end_at r)) || false)) (Err NotDir)
      (cond (is_some target) (Err Exists)
      (cond (nat_lt 1024 (length bytes)) (Err TooBig)
      (cond (nat_le 32768 (maps.len t)) (Err TreeFull)
      (Ok (Some (Create (end_at r) name kind bytes)))))))

  create_below : (r : Result NodeId WalkFault) (name : List ℕ) (kind : Kind) (bytes : List ℕ) → (refused (place_below r name) >>= λ place. make place kind bytes) ≡ created_at r name (child t (end_at r) name) kind bytes
  create_below (Ok p) name kind bytes = elim (is_dir (look t) p) as (λ b.
      (refused (if b then Ok (record { parent = p; name = name; target = child t p name }) else Err walk.NotDir) >>= λ place. make place kind bytes)
      ≡ cond (not b || false) (Err NotDir) (make (record { parent = p; name = name; target = child t p name }) kind bytes)) [ true ↦ refl | false ↦ refl ]
  create_below (Err walk.NotFound) name kind bytes = refl
  create_below (Err walk.NotDir) name kind bytes = refl

  create_is : (names : List (List ℕ)) (kind : Kind) (bytes : List ℕ) → plan_create t names kind bytes ≡ created_at (find_from t root (front_of names)) (last_of names) (standing_at t names) kind bytes
  unfolding plan_create place_at place_in
  create_is names kind bytes = elim (split_last names) as (λ o.
      (refused (option_map_or (λ (s : List (List ℕ) × List ℕ). place_below (find_from t root s.0) s.1) o (Ok (record { parent = root; name = []; target = Some root }))) >>= λ place. make place kind bytes)
      ≡ created_at (find_from t root (option_map_or (λ s. s.0) o [])) (option_map_or (λ s. s.1) o []) (option_map_or (λ s. child t (end_at (find_from t root s.0)) s.1) o (Some root)) kind bytes) [
        | None ↦ sym (ap (λ b. cond (b || false) (Err NotDir) (Err Exists)) root_dir)
        | Some s ↦ create_below (find_from t root s.0) s.1 kind bytes
      ]

  -- ---- removes

  and_is : (a b : Bool) → (a ≡ false → b ≡ false) → (a && b) ≡ b
  and_is true b h = refl
  and_is false b h = sym (h refl)

  remove_is : (names : List (List ℕ)) → plan_remove t names ≡ (let r = find_from t root names in
      cond (misses r || false) (Err NotFound) (cond ((stumbles r || false) || (false || false)) (Err NotDir)
      (cond (is_dir (look t) (end_at r) && has_child t (end_at r)) (Err NotEmpty) (cond (same_node (end_at r) root) (Err Inside) (Ok (Some (Remove (end_at r))))))))
  unfolding plan_remove
  remove_is names = elim (find_from t root names) as (λ r. (refused r >>= λ node. if has_child t node then Err NotEmpty else if same_node node root then Err Inside else Ok (Some (Remove node))) ≡
      cond (misses r || false) (Err NotFound) (cond ((stumbles r || false) || (false || false)) (Err NotDir)
      (cond (is_dir (look t) (end_at r) && has_child t (end_at r)) (Err NotEmpty) (cond (same_node (end_at r) root) (Err Inside) (Ok (Some (Remove (end_at r)))))))) [
        | Ok q ↦ sym (ap (λ b. cond b (Err NotEmpty) (cond (same_node q root) (Err Inside) (Ok (Some (Remove q))))) (and_is (is_dir (look t) q) (has_child t q) (childless_file t w q)))
        | Err f ↦ no_walk f
      ]
    where
      no_walk : (f : WalkFault) → (refused {A = NodeId} (Err f) >>= λ node. if has_child t node then Err NotEmpty else if same_node node root then Err Inside else Ok (Some (Remove node))) ≡
          cond (misses (Err f) || false) (Err NotFound) (cond ((stumbles (Err f) || false) || (false || false)) (Err NotDir)
          (cond (is_dir (look t) root && has_child t root) (Err NotEmpty) (cond (same_node root root) (Err Inside) (Ok (Some (Remove root))))))
      no_walk walk.NotFound = refl
      no_walk walk.NotDir = refl

  -- ---- what is asked of a File

  abbrev file_test : Option Row → Bool
  file_test o = option_map_or (λ (r : Row). is_file_kind r.kind) o false

  -- where the row is a File, the answer f of it
  for_file : (o : Option Row) (f : Row → Answer) → (option_map_or (λ r. Ok r) (option_map_or (λ r. if is_file_kind r.kind then Some r else None) o None) (Err NotFile) >>= f) ≡ cond (not (file_test o)) (Err NotFile) (f (unwrap_or o root_row))
  for_file None f = refl
  for_file (Some r) f = elim (is_file_kind r.kind) as (λ b. (option_map_or (λ r. Ok r) (if b then Some r else None) (Err NotFile) >>= f) ≡ cond (not b) (Err NotFile) (f r)) [ true ↦ refl | false ↦ refl ]

  abbrev walked : Result NodeId WalkFault → Answer → Answer
  walked r answer = cond (misses r || false) (Err NotFound) (cond ((stumbles r || false) || (false || false)) (Err NotDir) answer)

  walk_is : (r : Result NodeId WalkFault) (f : NodeId → Answer) → (refused r >>= f) ≡ walked r (f (end_at r))
  walk_is (Ok q) f = refl
  walk_is (Err walk.NotFound) f = refl
  walk_is (Err walk.NotDir) f = refl

  file_is : (names : List (List ℕ)) (f : NodeId → Row → Answer) → (refused (find_from t root names) >>= λ node. (option_map_or (λ r. Ok r) (file_at t node) (Err NotFile) >>= f node))
      ≡ (let q = end_at (find_from t root names) in walked (find_from t root names) (cond (not (file_test (look t q))) (Err NotFile) (f q (row_at t q))))
  file_is names f =
      walk_is (find_from t root names) (λ node. option_map_or (λ r. Ok r) (file_at t node) (Err NotFile) >>= f node)
      ∙ ap (walked (find_from t root names)) (for_file (look t (end_at (find_from t root names))) (f (end_at (find_from t root names))))

  touch_is : (names : List (List ℕ)) (mtime : ℕ) → plan_touch t names mtime
      ≡ (let q = end_at (find_from t root names) in walked (find_from t root names) (cond (nat_eq (row_at t q).mtime mtime) (Ok None) (Ok (Some (Touch q mtime)))))
  unfolding plan_touch
  touch_is names mtime = elim (find_from t root names) as (λ r. find_from t root names ≡ r → (refused r >>= λ node. (option_map_or (λ r. Ok r) (look t node) (Err NotFound) >>= λ row. if nat_eq row.mtime mtime then Ok None else Ok (Some (Touch node mtime))))
      ≡ walked r (cond (nat_eq (row_at t (end_at r)).mtime mtime) (Ok None) (Ok (Some (Touch (end_at r) mtime))))) [
        | Ok q ↦ λ e. there q (walk_there t w names root q (root_there t w) e)
        | Err f ↦ λ e. walk_is (Err f) (λ node. option_map_or (λ r. Ok r) (look t node) (Err NotFound) >>= λ row. if nat_eq row.mtime mtime then Ok None else Ok (Some (Touch node mtime)))
            ∙ nowhere f
      ] refl
    where
      there : (q : NodeId) → IsSome (look t q) → (option_map_or (λ r. Ok r) (look t q) (Err NotFound) >>= λ row. if nat_eq row.mtime mtime then Ok None else Ok (Some (Touch q mtime))) ≡ cond (nat_eq (unwrap_or (look t q) root_row).mtime mtime) (Ok None) (Ok (Some (Touch q mtime)))
      there q h = elim (look t q) as (λ o. IsSome o → (option_map_or (λ r. Ok r) o (Err NotFound) >>= λ row. if nat_eq row.mtime mtime then Ok None else Ok (Some (Touch q mtime))) ≡ cond (nat_eq (unwrap_or o root_row).mtime mtime) (Ok None) (Ok (Some (Touch q mtime)))) [
        | Some r ↦ λ k. refl
        | None ↦ λ k. absurd (true≢false (sym k))
      ] h

      nowhere : (f : WalkFault) → walked (Err f) (option_map_or (λ r. Ok r) (look t root) (Err NotFound) >>= λ row. if nat_eq row.mtime mtime then Ok None else Ok (Some (Touch root mtime))) ≡ walked (Err f) (cond (nat_eq (row_at t root).mtime mtime) (Ok None) (Ok (Some (Touch root mtime))))
      nowhere walk.NotFound = refl
      nowhere walk.NotDir = refl

  -- ---- moves

  abbrev moved : NodeId → NodeId → List ℕ → Option NodeId → Answer
  moved n p name target =
      cond (option_map_or (λ gone. is_dir (look t) n && not (is_dir (look t) gone)) target false) (Err NotDir)
      (cond (option_map_or (λ gone. not (is_dir (look t) n) && is_dir (look t) gone) target false) (Err NotFile)
      (cond (option_map_or (λ gone. is_dir (look t) n && (is_dir (look t) gone && (not (same_node gone n) && has_child t gone))) target false) (Err NotEmpty)
      (cond (is_dir (look t) n && is_below t n p) (Err Inside)
      (cond (option_map_or (λ gone. same_node gone n) target false) (Ok None)
      (Ok (Some (Rename n p name target)))))))

  inside_is : (n p : NodeId) → is_dir (look t) p ≡ true → (is_dir (look t) n && is_below t n p) ≡ is_below t n p
  inside_is n p dir = and_is (is_dir (look t) n) (is_below t n p) (λ none. elim (is_below t n p) as (λ b. is_below t n p ≡ b → b ≡ false) [
    | true ↦ λ e. absurd (true≢false (sym (dir_above t w (maps.len t) n p dir e) ∙ none))
    | false ↦ λ e. refl
  ] refl)

  -- the tests of an occupied place, and then the rest
  tests_are : (a b c : Bool) (rest : Answer) → (b ≡ false → c ≡ false) →
      cond (a && not b) (Err NotDir) (cond (not a && b) (Err NotFile) (cond c (Err NotEmpty) rest))
      ≡ cond (a && not b) (Err NotDir) (cond (not a && b) (Err NotFile) (cond (a && (b && c)) (Err NotEmpty) rest))
  tests_are true true c rest h = refl
  tests_are true false c rest h = refl
  tests_are false true c rest h = refl
  tests_are false false c rest h = ap (λ x. cond x (Err NotEmpty) rest) (h refl)

  and_none : (a b : Bool) → b ≡ false → (a && b) ≡ false
  and_none true b h = h
  and_none false b h = refl

  move_in : (n p : NodeId) (name : List ℕ) (target : Option NodeId) → is_dir (look t) p ≡ true
      → option_map_or (λ gone. plan_onto t n (record { parent = p; name = name; target = target }) gone) target (plan_into t n (record { parent = p; name = name; target = target })) ≡ moved n p name target
  unfolding plan_onto plan_into
  move_in n p name (Some gone) dir =
      tests_are (is_dir (look t) n) (is_dir (look t) gone) (not (same_node gone n) && has_child t gone)
      (cond (is_below t n p) (Err Inside) (cond (same_node gone n) (Ok None) (Ok (Some (Rename n p name (Some gone))))))
      (λ none. and_none _ _ (childless_file t w gone none))
      ∙ ap (λ b.
      cond (is_dir (look t) n && not (is_dir (look t) gone)) (Err NotDir)
      (cond (not (is_dir (look t) n) && is_dir (look t) gone) (Err NotFile)
      (cond (is_dir (look t) n && (is_dir (look t) gone && (not (same_node gone n) && has_child t gone))) (Err NotEmpty)
      (cond b (Err Inside) (cond (same_node gone n) (Ok None) (Ok (Some (Rename n p name (Some gone))))))))) (sym (inside_is n p dir))
  move_in n p name None dir = ap (λ b. cond b (Err Inside) (Ok (Some (Rename n p name None)))) (sym (inside_is n p dir))

  abbrev placing : Result NodeId WalkFault → Result Place WalkFault → Answer
  placing r place = refused (both r place) >>= λ ends. option_map_or (λ gone. plan_onto t ends.0 ends.1 gone) ends.1.target (plan_into t ends.0 ends.1)

  abbrev moved_at : Result NodeId WalkFault → Result NodeId WalkFault → List ℕ → Option NodeId → Answer
  moved_at r s name target =
      cond (misses r || (misses s || false)) (Err NotFound)
      (cond ((stumbles r || (stumbles s || false)) || (not (is_dir (look t) (end_at s)) || option_map_or (λ gone. is_dir (look t) (end_at r) && not (is_dir (look t) gone)) target false)) (Err NotDir)
      (cond (option_map_or (λ gone. not (is_dir (look t) (end_at r)) && is_dir (look t) gone) target false) (Err NotFile)
      (cond (option_map_or (λ gone. is_dir (look t) (end_at r) && (is_dir (look t) gone && (not (same_node gone (end_at r)) && has_child t gone))) target false) (Err NotEmpty)
      (cond (is_dir (look t) (end_at r) && is_below t (end_at r) (end_at s)) (Err Inside)
      (cond (option_map_or (λ gone. same_node gone (end_at r)) target false) (Ok None)
      (Ok (Some (Rename (end_at r) (end_at s) name target))))))))

  -- into a directory that is there
  move_to : (r : Result NodeId WalkFault) (p : NodeId) (name : List ℕ) (target : Option NodeId) → is_dir (look t) p ≡ true → placing r (Ok (record { parent = p; name = name; target = target })) ≡ moved_at r (Ok p) name target
  move_to (Ok n) p name target dir = move_in n p name target dir ∙ ap (λ b.
      cond (not b || option_map_or (λ gone. is_dir (look t) n && not (is_dir (look t) gone)) target false) (Err NotDir)
      (cond (option_map_or (λ gone. not (is_dir (look t) n) && is_dir (look t) gone) target false) (Err NotFile)
      (cond (option_map_or (λ gone. is_dir (look t) n && (is_dir (look t) gone && (not (same_node gone n) && has_child t gone))) target false) (Err NotEmpty)
      (cond (is_dir (look t) n && is_below t n p) (Err Inside)
      (cond (option_map_or (λ gone. same_node gone n) target false) (Ok None)
      (Ok (Some (Rename n p name target)))))))) (sym dir)
  move_to (Err walk.NotFound) p name target dir = refl
  move_to (Err walk.NotDir) p name target dir = refl

  -- into what isn't a directory
  move_nowhere : (r : Result NodeId WalkFault) (p : NodeId) (name : List ℕ) (target : Option NodeId) → is_dir (look t) p ≡ false → placing r (Err walk.NotDir) ≡ moved_at r (Ok p) name target
  move_nowhere (Ok n) p name target dir = ap (λ b.
      cond (not b || option_map_or (λ gone. is_dir (look t) n && not (is_dir (look t) gone)) target false) (Err NotDir)
      (cond (option_map_or (λ gone. not (is_dir (look t) n) && is_dir (look t) gone) target false) (Err NotFile)
      (cond (option_map_or (λ gone. is_dir (look t) n && (is_dir (look t) gone && (not (same_node gone n) && has_child t gone))) target false) (Err NotEmpty)
      (cond (is_dir (look t) n && is_below t n p) (Err Inside)
      (cond (option_map_or (λ gone. same_node gone n) target false) (Ok None)
      (Ok (Some (Rename n p name target)))))))) (sym dir)
  move_nowhere (Err walk.NotFound) p name target dir = refl
  move_nowhere (Err walk.NotDir) p name target dir = refl

  move_below : (r s : Result NodeId WalkFault) (name : List ℕ) → placing r (place_below s name) ≡ moved_at r s name (child t (end_at s) name)
  move_below r (Ok p) name = elim (is_dir (look t) p) as (λ b. is_dir (look t) p ≡ b → placing r (if b then Ok (record { parent = p; name = name; target = child t p name }) else Err walk.NotDir) ≡ moved_at r (Ok p) name (child t p name)) [
    | true ↦ λ e. move_to r p name (child t p name) e
    | false ↦ λ e. move_nowhere r p name (child t p name) e
  ] refl
  move_below (Ok n) (Err walk.NotFound) name = refl
  move_below (Ok n) (Err walk.NotDir) name = refl
  move_below (Err walk.NotFound) (Err walk.NotFound) name = refl
  move_below (Err walk.NotFound) (Err walk.NotDir) name = refl
  move_below (Err walk.NotDir) (Err walk.NotFound) name = refl
  move_below (Err walk.NotDir) (Err walk.NotDir) name = refl

  move_is : (from to : List (List ℕ)) → plan_move t from to ≡ moved_at (find_from t root from) (find_from t root (front_of to)) (last_of to) (standing_at t to)
  unfolding plan_move place_at place_in
  move_is from to = elim (split_last to) as (λ o.
      placing (find_from t root from) (option_map_or (λ (s : List (List ℕ) × List ℕ). place_below (find_from t root s.0) s.1) o (Ok (record { parent = root; name = []; target = Some root })))
      ≡ moved_at (find_from t root from) (find_from t root (option_map_or (λ s. s.0) o [])) (option_map_or (λ s. s.1) o []) (option_map_or (λ s. child t (end_at (find_from t root s.0)) s.1) o (Some root))) [
        | None ↦ move_to (find_from t root from) root [] (Some root) (root_is_dir t w)
        | Some s ↦ move_below (find_from t root from) (find_from t root s.0) s.1
      ]

  -- ---- each request

  abbrev by_table : Request → Answer
  by_table r = unless_refused (applies t r) refusals (if is_as_asked t r then Ok None else Ok (Some (change_asked t r)))

  change_is : (r : Request) → change_for t r ≡ by_table r
  unfolding plan_write plan_cut plan_exec
  change_is (asks.Mkdir path) = by_word path _ _ (λ names. create_is names Dir [])
  change_is (asks.Mkfile path) = by_word path _ _ (λ names. create_is names File [])
  change_is (asks.Link path target) = by_word path _ _ (λ names. create_is names Link target)
  change_is (asks.Remove path) = by_word path _ _ (λ names. remove_is names)
  change_is (asks.Move from to) = by_words from to _ _ (λ a b. move_is a b)
  change_is (asks.Write path offset bytes) = by_word path _ _ (λ names. file_is names _)
  change_is (asks.Cut path size) = by_word path _ _ (λ names. file_is names _)
  change_is (asks.Exec path on) = by_word path _ _ (λ names. file_is names _)
  change_is (asks.Touch path mtime) = by_word path _ _ (λ names. touch_is names mtime)

unless_then : {A B : Type 0} (test : PlanFault → Bool) (es : List PlanFault) (answer : Result A PlanFault) (f : A → Result B PlanFault) → (unless_refused test es answer >>= f) ≡ unless_refused test es (answer >>= f)
unless_then test [] answer f = refl
unless_then {A} {B} test (e ∷ es) answer f = elim (test e) as (λ b. (cond b (Err e) (unless_refused test es answer) >>= f) ≡ cond b (Err e) (unless_refused test es (answer >>= f))) [
  | true ↦ refl
  | false ↦ unless_then test es answer f
]

last_step : (device seq moment : ℕ) (same : Bool) (c : Change) → (let f : Option Change → Result Planned PlanFault = λ x. Ok (planned device seq moment x) in (cond same (Ok None) (Ok (Some c)) >>= f) ≡ cond same (Ok Same) (Ok (Made (record { device = device; seq = seq; moment = moment; change = c }))))
last_step device seq moment true c = refl
last_step device seq moment false c = refl

pub plan_is : (t : Tree) (request : Request) (device seq moment : ℕ) → IsWellFormed t → plan_of t request device seq moment ≡ plan_by_table t request device seq moment
plan_is t request device seq moment w =
    let f : Option Change → Result Planned PlanFault = λ c. Ok (planned device seq moment c) in
    ap (λ a. a >>= f) (change_is t w request)
    ∙ unless_then (applies t request) refusals (if is_as_asked t request then Ok None else Ok (Some (change_asked t request))) f
    ∙ ap (unless_refused (applies t request) refusals) (last_step device seq moment (is_as_asked t request) (change_asked t request))
