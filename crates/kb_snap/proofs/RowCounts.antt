-- How many rows trees have: each has an id, and each id was given by an operation or is a copy of a merge.
use Rattle.std.proofs.Common.{◌≡◌, ◌⊎◌, ℕ, zero, suc, ◌+◌, ◌-◌, ◌*◌, ◌^◌, ◌≤◌, ◌<◌, Bool, true, false, ◌&&◌, ◌||◌, List, [], ◌∷◌, ◌++◌, length, map, slice_get, cond, Option, Some, None, is_some, inl, inr, refl, sym, ap, ◌∙◌, subst, arith, append_assoc, length-append}
use Rattle.std.specs.Str.{bytes_eq}
use Rattle.std.specs.FinMap as map
use Rattle.std.proofs.lemmas.List.{length-map}
use Rattle.kb_name.specs.declared.ids.NodeId.{NodeId}
use Rattle.kb_name.specs.Nodes.{root, same_node}
use Rattle.kb_ops.specs.declared.values.Kind.{Kind}
use Rattle.kb_ops.specs.declared.rows.Row.{Row}
use Rattle.kb_ops.specs.declared.rows.Op.{Op}
use Rattle.kb_ops.specs.declared.rows.Change.{Change}
use Rattle.kb_ops.specs.declared.rows.Change.TheVariants.{Create, Remove, Rename, Sync, Exec, Touch}
use Rattle.kb_ops.specs.Trees.{Tree, look, start, apply, new_id, fold_ops, FitAll}
use Rattle.kb_ops.specs.Laws.{nodes_of, touched}
use Rattle.kb_ops.specs.Plan.{is_file_kind}
use Rattle.kb_ops.proofs.Nodes.{node_self}
use Rattle.kb_ops.proofs.Changes.{others_stay}
use Rattle.kb_ops.proofs.Nodes.{node_cases, node_other}
use Rattle.kb_ops.proofs.Lists.{look_of}
use Rattle.kb_ops.specs.Trees.{root_row}
use Rattle.kb_rules.specs.declared.stamp.Stamp.{Stamp}
use Rattle.kb_snap.specs.Chains.{Deed, Founded, Stepped, Merged, Rekeyed, Revision, Chain, ops_in, done_on, trees_of, tree_at, merged_tree, stamp_of}
use Rattle.kb_snap.specs.Lawful.{AreFew, FitsDeed, Follows, IsLawful}
use Rattle.kb_snap.proofs.Lists.{append_none}
use Rattle.kb_snap.proofs.Chains.{tree_longer, tree_next, newest_is}
use Rattle.kb_snap.proofs.MadeIds.{IsMadeIn, fold_kind}
use Rattle.kb_snap.proofs.Lawful.{along}
use Rattle.kb_rules.specs.Code.{ascend}
use Rattle.kb_rules.specs.Ready.{is_in}
use Rattle.kb_rules.specs.Three.{is_parted, same_place, is_split_by, is_split}
use Rattle.kb_rules.proofs.Basics.{bool_cases, second_of_both, bytes_self}
use Rattle.kb_rules.specs.Merge.{copy_id, copy_ids, copied, three, conflicted, merge}
use Rattle.kb_rules.specs.Meet.{Meet}
use Rattle.kb_rules.proofs.Copies.{IsNaming, splits, ours, was, copied_is, can_name, copies_le}
use Rattle.kb_rules.proofs.Formed.{result_was}
use Rattle.kb_rules.proofs.Joined.{standing_was}
use Rattle.kb_rules.proofs.Reaching.{seat_cases}
use Rattle.kb_rules.proofs.Lawful.{look-merge}
use Rattle.kb_rules.proofs.Listed.{naming}
use Rattle.kb_rules.proofs.Ids.{keys_rise, rises_filter, stands_once, in_filter, get_in, in_get, in_keys}

abbrev StandsIn : List NodeId → NodeId → Type 0
StandsIn xs q = (i : ℕ) × (slice_get xs i ≡ Some q)

-- a list without its i-th
without : {A : Type 0} → List A → ℕ → List A
without [] i = []
without (x ∷ xs) zero = xs
without (x ∷ xs) (suc i) = x ∷ without xs i

without_length : {A : Type 0} (xs : List A) (i : ℕ) (x : A) → slice_get xs i ≡ Some x → length xs ≡ suc (length (without xs i))
unfolding without
without_length [] i x e = cc
without_length (y ∷ xs) zero x e = refl
without_length (y ∷ xs) (suc i) x e = ap suc (without_length xs i x e)

without_keeps : (xs : List NodeId) (i : ℕ) (x : NodeId) → slice_get xs i ≡ Some x → (q : NodeId) → (q ≡ x → ⊥) → (j : ℕ) → slice_get xs j ≡ Some q → StandsIn (without xs i) q
unfolding without
without_keeps [] i x e q ne j f = cc
without_keeps (y ∷ xs) zero x e q ne zero f = absurd (ne (let a : y ≡ x = cc in let b : y ≡ q = cc in sym b ∙ a))
without_keeps (y ∷ xs) zero x e q ne (suc j) f = (j, f)
without_keeps (y ∷ xs) (suc i) x e q ne zero f = (zero, f)
without_keeps (y ∷ xs) (suc i) x e q ne (suc j) f = (let w = without_keeps xs i x e q ne j f in (suc w.0, w.1))

-- ascending ids that all stand in a list are no more than that
fewer : (xs ys : List NodeId) → ascend xs ≡ true → ((q : NodeId) → StandsIn xs q → StandsIn ys q) → length xs ≤ length ys
fewer [] ys up all = omega arith
fewer (x ∷ xs) ys up all =
    let at = all x (zero, refl) in
    let other : (q : NodeId) (j : ℕ) → slice_get xs j ≡ Some q → q ≡ x → ⊥ = λ q j f e. (let no : zero ≡ suc j = stands_once (x ∷ xs) zero (suc j) x up refl (f ∙ ap Some e) in absurd (omega (arith, no))) in
    let rest = fewer xs (without ys at.0) (second_of_both _ _ up) (λ q h. let there = all q (suc h.0, h.1) in without_keeps ys at.0 x at.1 q (other q h.0 h.1) there.0 there.1) in
    let e = without_length ys at.0 x at.1 in
    omega (arith, rest, e)

left_in : (xs ys : List NodeId) (q : NodeId) → StandsIn xs q → StandsIn (xs ++ ys) q
left_in xs ys q (i, e) = (i, there xs i e) where
  there : (xs : List NodeId) (i : ℕ) → slice_get xs i ≡ Some q → slice_get (xs ++ ys) i ≡ Some q
  there [] i e = cc
  there (x ∷ xs) zero e = e
  there (x ∷ xs) (suc i) e = there xs i e

right_in : (xs ys : List NodeId) (q : NodeId) → StandsIn ys q → StandsIn (xs ++ ys) q
right_in [] ys q h = h
right_in (x ∷ xs) ys q h = (let w = right_in xs ys q h in (suc w.0, w.1))

abbrev touched_all : List Op → List NodeId
touched_all [] = []
touched_all (op ∷ ops) = touched op ++ touched_all ops

touched_few : (id : NodeId) (change : Change) → length (nodes_of id change) ≤ 2
touched_few id (Create parent name kind bytes) = omega arith
touched_few id (Remove node) = omega arith
touched_few id (Rename node parent name None) = omega arith
touched_few id (Rename node parent name (Some gone)) = omega arith
touched_few id (Sync node offset bytes size) = omega arith
touched_few id (Exec node on) = omega arith
touched_few id (Touch node mtime) = omega arith

all_few : (ops : List Op) → length (touched_all ops) ≤ 2 * length ops
all_few [] = omega arith
all_few (op ∷ ops) =
    let one = touched_few (new_id op) op.change in
    let rest = all_few ops in
    let e = length-append (touched op) (touched_all ops) in
    omega (arith, one, rest, e)

in_append : (q : NodeId) (xs ys : List NodeId) → is_in q (xs ++ ys) ≡ (is_in q xs || is_in q ys)
in_append q [] ys = refl
in_append q (x ∷ xs) ys = ap (λ b. same_node q x || b) (in_append q xs ys) ∙ join (same_node q x) (is_in q xs) (is_in q ys) where
  join : (a b c : Bool) → (a || (b || c)) ≡ ((a || b) || c)
  join true b c = refl
  join false b c = refl

neither : (a b : Bool) → (a || b) ≡ false → (a ≡ false) × (b ≡ false)
neither true b e = cc
neither false b e = (refl, e)

fold_others : (ops : List Op) (t : Tree) (q : NodeId) → is_in q (touched_all ops) ≡ false → look (fold_ops ops t) q ≡ look t q
fold_others [] t q off = refl
fold_others (op ∷ ops) t q off =
    let apart = neither (is_in q (touched op)) (is_in q (touched_all ops)) (sym (in_append q (touched op) (touched_all ops)) ∙ off) in
    fold_others ops (apply op t) q apart.1 ∙ others_stay op t q apart.0

-- what is the same in base and ours isn't split
parted_same : (a b c : Bool) → b ≡ true → is_parted a b c ≡ false
parted_same true b c e = refl
parted_same false true c e = refl
parted_same false false c e = cc

place_self : (r : Row) → same_place r r ≡ true
place_self r = (λ i. node_self r.parent i && bytes_self r.name i)

not_split : (m o : Option Row) → is_split_by m o o ≡ true → ⊥
not_split None o h = cc
not_split (Some r) None h = cc
not_split (Some r) (Some s) h =
    let a = parted_same (bytes_eq r.bytes s.bytes) (bytes_eq s.bytes s.bytes) (bytes_eq r.bytes s.bytes) (bytes_self s.bytes) in
    let b = parted_same (same_place r s) (same_place s s) (same_place r s) (place_self s) in
    none (is_file_kind r.kind) (is_parted (bytes_eq r.bytes s.bytes) (bytes_eq s.bytes s.bytes) (bytes_eq r.bytes s.bytes)) (is_parted (same_place r s) (same_place s s) (same_place r s)) a b h
  where
    none : (k a b : Bool) → a ≡ false → b ≡ false → (k && (a || b)) ≡ true → ⊥
    none true true b e f h = cc
    none true false b e f h = (let no : true ≡ false = sym h ∙ f in cc)
    none false a b e f h = cc

split_touched : (b m : Tree) (ops : List Op) (q : NodeId) → is_split (look b) (look m) (look (fold_ops ops b)) q ≡ true → is_in q (touched_all ops) ≡ true
split_touched b m ops q h = elim (bool_cases (is_in q (touched_all ops))) [
  | inl e ↦ e
  | inr off ↦ absurd (not_split (look m q) (look b q) (ap (λ o. is_split_by (look m q) o (look b q)) (sym (fold_others ops b q off)) ∙ h))
]

-- each row of the tree is the root's, or has one of the ids
abbrev pub AllIn : List NodeId → Tree → Type 0
AllIn ids t = (q : NodeId) (row : Row) → look t q ≡ Some row → (q ≡ root) ⊎ StandsIn ids q

more_in : (ids more : List NodeId) (t : Tree) → AllIn ids t → AllIn (ids ++ more) t
more_in ids more t all q row found = elim (all q row found) [ inl is ↦ inl is | inr at ↦ inr (left_in ids more q at) ]

start_in : (ids : List NodeId) → AllIn ids start
start_in ids q row h = elim (node_cases q root) [
  | inl at ↦ inl at
  | inr off ↦ (
      let none : look start q ≡ None = look_of (root_row ∷ []) refl q ∙ ap (λ b. cond b (Some root_row) None) (node_other root q (λ p. off (sym p))) in
      let no : None ≡ Some row = sym none ∙ h in cc)
]

made_in : (ops : List Op) (q : NodeId) (kind : Kind) → IsMadeIn ops q kind → StandsIn (map new_id ops) q
made_in [] q kind made = absurd made
made_in (op ∷ ops) q kind (inl made) = (zero, ap Some (sym made.0))
made_in (op ∷ ops) q kind (inr made) = (let w = made_in ops q kind made in (suc w.0, w.1))

pub fold_in : (ids : List NodeId) (ops : List Op) (t : Tree) → AllIn ids t → FitAll ops t → AllIn (ids ++ map new_id ops) (fold_ops ops t)
fold_in ids ops t all fits q row found = elim (fold_kind ops t q row fits found) [
  | inl made ↦ inr (right_in ids (map new_id ops) q (made_in ops q row.kind made))
  | inr there ↦ more_in ids (map new_id ops) t all q there.row there.found
]

-- so many ids of copies
copy_at : (stamp : Stamp) (xs : List NodeId) (j i : ℕ) → i < length xs → slice_get (copy_ids stamp j xs) i ≡ Some (copy_id stamp (j + i))
copy_at stamp [] j i lt = absurd (omega arith)
copy_at stamp (x ∷ xs) j zero lt = ap (λ k. Some (copy_id stamp k)) (let e : j ≡ j + 0 = omega arith in e)
copy_at stamp (x ∷ xs) j (suc i) lt = copy_at stamp xs (j + 1) i (omega arith) ∙ ap (λ k. Some (copy_id stamp k)) (let e : j + 1 + i ≡ j + suc i = omega arith in e)

get_below : {A : Type 0} (xs : List A) (i : ℕ) (x : A) → slice_get xs i ≡ Some x → i < length xs
get_below [] i x h = cc
get_below (y ∷ xs) zero x h = omega arith
get_below (y ∷ xs) (suc i) x h = (let lt = get_below xs i x h in omega arith)

module _ (b m : Tree) (ops : List Op) (stamp : Stamp) (meet : Meet b m (fold_ops ops b) stamp) where
  abbrev u : Tree
  u = fold_ops ops b

  splits_few : length (splits b m u stamp meet) ≤ length (touched_all ops)
  splits_few = fewer (splits b m u stamp meet) (touched_all ops) (rises_filter (is_split (look b) (look m) (look u)) (map.keys m) (keys_rise m)) (λ q h.
      in_get (touched_all ops) q (split_touched b m ops q (in_filter (is_split (look b) (look m) (look u)) (map.keys m) q (get_in (splits b m u stamp meet) h.0 q h.1))))

  copy_in : (q s : NodeId) → copied stamp (splits b m u stamp meet) q ≡ Some s → StandsIn (copy_ids stamp 1 (touched_all ops)) q
  copy_in q s h =
      let is = copied_is stamp (splits b m u stamp meet) (look u) q s h in
      let lt = get_below (splits b m u stamp meet) (q.part - 1) s is.2 in
      let few = splits_few in
      let some = is.1 in
      let part : 1 + (q.part - 1) ≡ q.part = omega arith in
      (q.part - 1, copy_at stamp (touched_all ops) 1 (q.part - 1) (omega (arith, lt, few)) ∙ ap (λ k. Some (copy_id stamp k)) part ∙ ap Some (sym is.0))

  -- the rows of a merge are those of its trees and of its copies
  merge_in : (ids : List NodeId) → IsNaming (conflicted stamp) → 4 * (map.len m + map.len u) < 2 ^ 63 → AllIn ids m → AllIn ids u → AllIn (ids ++ copy_ids stamp 1 (touched_all ops)) (merge b m u stamp)
  merge_in ids named few in_m in_u q row h =
      let t = three b m u stamp in
      let ready = can_name b m u stamp meet named few in
      let w = result_was (map.len m) (map.len u) t ready q row (sym (look-merge b m u stamp meet named few q) ∙ h) in
      let s = standing_was t q w.0 w.1 in
      elim (seat_cases t q s.0 s.1) [
        | inl a ↦ of_ours q s.0 a.1
        | inr a ↦ more_in ids (copy_ids stamp 1 (touched_all ops)) m in_m q s.0 a.1
      ]
    where
      of_ours : (q : NodeId) (s : Row) → ours b m u stamp meet q ≡ Some s → (q ≡ root) ⊎ StandsIn (ids ++ copy_ids stamp 1 (touched_all ops)) q
      of_ours q s found =
          let o = was b m u stamp meet q s found in
          elim o.which [
            | inl copied ↦ inr (right_in ids (copy_ids stamp 1 (touched_all ops)) q (copy_in q o.id copied.0))
            | inr plain ↦ more_in ids (copy_ids stamp 1 (touched_all ops)) u in_u q o.row (ap (look u) (sym plain.2) ∙ o.found)
          ]

abbrev ids_in : Revision → Deed → List NodeId
ids_in x Founded = []
ids_in x (Stepped ops) = map new_id ops
ids_in x (Merged base rule ops) = map new_id ops ++ copy_ids (stamp_of x rule ops) 1 (touched_all ops)
ids_in x (Rekeyed action d) = []

abbrev pub ids_of : Chain → List NodeId
ids_of [] = []
ids_of (x ∷ c) = ids_in x x.deed ++ ids_of c

ids_push : (c : Chain) (x : Revision) → ids_of (c ++ x ∷ []) ≡ ids_of c ++ ids_in x x.deed
ids_push [] x = append_none (ids_in x x.deed)
ids_push (r ∷ c) x = ap (λ l. ids_in r r.deed ++ l) (ids_push c x) ∙ sym (append_assoc (ids_in r r.deed) (ids_of c) (ids_in x x.deed))

merged_in : (ids : List NodeId) (b m : Tree) (rule : ℕ) (ops : List Op) (x : Revision) → Meet b m (fold_ops ops b) (stamp_of x rule ops) → AreFew m (fold_ops ops b) → IsNaming (conflicted (stamp_of x rule ops)) → AllIn ids m → AllIn ids b → FitAll ops b
    → AllIn (ids ++ (map new_id ops ++ copy_ids (stamp_of x rule ops) 1 (touched_all ops))) (merged_tree b m (fold_ops ops b) (stamp_of x rule ops))
unfolding merged_tree
merged_in ids b m rule ops x meet few named in_m in_b fits =
    subst (λ l. AllIn l (merge b m (fold_ops ops b) (stamp_of x rule ops))) (append_assoc ids (map new_id ops) (copy_ids (stamp_of x rule ops) 1 (touched_all ops)))
    (merge_in b m ops (stamp_of x rule ops) meet (ids ++ map new_id ops) named few (more_in ids (map new_id ops) m in_m) (fold_in ids ops b in_b fits))

next_in : (c : Chain) (x : Revision) → ((r : ℕ) → r ≤ length c → AllIn (ids_of c) (tree_at c r)) → (deed : Deed) → FitsDeed c x deed → AllIn (ids_of c ++ ids_in x deed) (done_on (trees_of c) x deed)
next_in c x old Founded fits = more_in (ids_of c) [] _ (subst (AllIn (ids_of c)) (sym (newest_is c)) (old (length c) (omega arith)))
next_in c x old (Rekeyed action d) fits = more_in (ids_of c) [] _ (subst (AllIn (ids_of c)) (sym (newest_is c)) (old (length c) (omega arith)))
next_in c x old (Stepped ops) fits = subst (λ t. AllIn (ids_of c ++ map new_id ops) (fold_ops ops t)) (sym (newest_is c)) (fold_in (ids_of c) ops (tree_at c (length c)) (old (length c) (omega arith)) fits.1)
next_in c x old (Merged base rule ops) fits =
    subst (λ t. AllIn (ids_of c ++ ids_in x (Merged base rule ops)) (merged_tree (tree_at c base) t (fold_ops ops (tree_at c base)) (stamp_of x rule ops))) (sym (newest_is c))
    (merged_in (ids_of c) (tree_at c base) (tree_at c (length c)) rule ops x fits.meet fits.few (naming (stamp_of x rule ops) fits.name fits.time) (old (length c) (omega arith)) (old base fits.within) fits.fit)

abbrev TreesIn : Chain → Type 0
TreesIn c = (r : ℕ) → r ≤ length c → AllIn (ids_of c) (tree_at c r)

pub trees_in : (c : Chain) → IsLawful c → TreesIn c
trees_in c h = along TreesIn next [] c first h where
  first : TreesIn []
  first r le =
      let zero_is : r ≡ 0 = omega arith in
      subst (λ n. AllIn [] (tree_at [] n)) (sym zero_is) (start_in [])

  next : (c : Chain) (x : Revision) → TreesIn c → Follows c x → TreesIn (c ++ x ∷ [])
  next c x old f r le = subst (λ l. AllIn l (tree_at (c ++ x ∷ []) r)) (sym (ids_push c x)) (elim (at_most r (length c)) [
    | inl within ↦ subst (AllIn (ids_of c ++ ids_in x x.deed)) (sym (tree_longer c (x ∷ []) r within)) (more_in (ids_of c) (ids_in x x.deed) (tree_at c r) (old r within))
    | inr beyond ↦ (
        let last : r ≡ length c + 1 = (let e = length-append c (x ∷ []) in omega arith) in
        subst (λ n. AllIn (ids_of c ++ ids_in x x.deed) (tree_at (c ++ x ∷ []) n)) (sym last)
        (subst (AllIn (ids_of c ++ ids_in x x.deed)) (sym (tree_next c x)) (next_in c x old x.deed f.fits)))
  ])
    where
      at_most : (a b : ℕ) → (a ≤ b) ⊎ (b < a)
      at_most zero b = inl (omega arith)
      at_most (suc a) zero = inr (omega arith)
      at_most (suc a) (suc b) = elim (at_most a b) [ inl le ↦ inl (omega arith) | inr lt ↦ inr (omega arith) ]

some_value : {A : Type 0} (o : Option A) → is_some o ≡ true → (x : A) × (o ≡ Some x)
some_value (Some x) h = (x, refl)
some_value None h = cc

pub rows_few : (ids : List NodeId) (t : Tree) → AllIn ids t → map.len t ≤ 1 + length ids
rows_few ids t all =
    let size : length (map.keys t) ≡ map.len t = length-map (map.entries t) _ ∙ sym (map.len-entries t) in
    let few = fewer (map.keys t) (root ∷ ids) (keys_rise t) (λ q h.
    let row = some_value (look t q) (sym (in_keys t q) ∙ get_in (map.keys t) h.0 q h.1) in
    elim (all q row.0 row.1) [ inl is ↦ (zero, ap Some (sym is)) | inr at ↦ (suc at.0, at.1) ])
    in
    omega (arith, size, few)

-- all operations of a chain
abbrev pub total : Chain → ℕ
total [] = 0
total (x ∷ c) = length (ops_in x.deed) + total c

in_few : (x : Revision) (deed : Deed) → length (ids_in x deed) ≤ 3 * length (ops_in deed)
in_few x Founded = omega arith
in_few x (Stepped ops) = (let e = length-map ops new_id in omega arith)
in_few x (Rekeyed action d) = omega arith
in_few x (Merged base rule ops) =
    let e = length-map ops new_id in
    let a = length-append (map new_id ops) (copy_ids (stamp_of x rule ops) 1 (touched_all ops)) in
    let copies = copies_le (stamp_of x rule ops) 1 (touched_all ops) in
    let few = all_few ops in
    omega (arith, e, a, copies, few)

pub ids_few : (c : Chain) → length (ids_of c) ≤ 3 * total c
ids_few [] = omega arith
ids_few (x ∷ c) =
    let one = in_few x x.deed in
    let rest = ids_few c in
    let e = length-append (ids_in x x.deed) (ids_of c) in
    omega (arith, one, rest, e)

-- over the devices from 1 to n
abbrev pub sum_to : ℕ → (ℕ → ℕ) → ℕ
sum_to zero f = 0
sum_to (suc n) f = f (suc n) + sum_to n f

pub sum_one : (n w : ℕ) (f : ℕ → ℕ) → 1 ≤ w → w ≤ n → f w ≤ sum_to n f
sum_one zero w f from to = absurd (omega arith)
sum_one (suc n) w f from to = elim (at_last w n to) [
  | inl is ↦ (let e = ap f is in omega (arith, e))
  | inr below ↦ (let rest = sum_one n w f from below in omega (arith, rest))
]
  where
    at_last : (w n : ℕ) → w ≤ suc n → (w ≡ suc n) ⊎ (w ≤ n)
    at_last w n le = grind arith

pub sum_add : (n : ℕ) (f g h : ℕ → ℕ) → ((d : ℕ) → h d ≡ f d + g d) → sum_to n h ≡ sum_to n f + sum_to n g
sum_add zero f g h e = refl
sum_add (suc n) f g h e = (let here = e (suc n) in let rest = sum_add n f g h e in omega (arith, here, rest))

pub sum_most : (n : ℕ) (f : ℕ → ℕ) → ((d : ℕ) → 1 ≤ d → d ≤ n → f d ≤ 4294967296) → sum_to n f ≤ n * 4294967296
sum_most zero f most = omega arith
sum_most (suc n) f most = (let here = most (suc n) (omega arith) (omega arith) in let rest = sum_most n f (λ d from to. most d from (omega arith)) in omega (arith, here, rest))
