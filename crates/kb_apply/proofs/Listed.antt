-- The rows that are listed of a tree are its rows but the root's, each where its path leads.
use Rattle.std.proofs.Common.{◌≡◌, ◌≢◌, ℕ, zero, suc, ◌<◌, ◌⊎◌, inl, inr, true, false, cond, ◌||◌, List, [], ◌∷◌, ◌++◌, length, map, Some, None, Result, Ok, Err, refl, sym, ap, subst, ◌∙◌, arith}
use Rattle.std.specs.Prelude.{Contains, filter, find}
use Rattle.std.specs.Option.{option_map, option_map_or}
use Rattle.std.specs.List.{AllByRecursion, flat_map}
use Rattle.std.specs.Ordering.{nat_cmp, eq_by_cmp}
use Rattle.std.specs.declared.cmp.Ordering.{Ordering}
use Rattle.std.specs.Cmp.Lexicographic.{slice_cmp, nat_list_cmp_total}
use Rattle.std.specs.FinMap as finite
use Rattle.std.specs.FinMap.Entries as entries
use Rattle.kb_name.specs.declared.ids.NodeId.{NodeId}
use Rattle.kb_name.specs.Nodes.{root}
use Rattle.kb_ops.specs.declared.rows.Row.{Row}
use Rattle.kb_ops.specs.declared.rows.WalkFault.{WalkFault}
use Rattle.kb_ops.specs.declared.rows.WalkFault.TheVariants.{NotFound, NotDir}
use Rattle.kb_ops.specs.declared.shown.Placed.{Placed}
use Rattle.kb_ops.specs.Rows.{is_dir, meets}
use Rattle.kb_ops.specs.Trees.{Tree, look, IsWellFormed}
use Rattle.kb_ops.specs.Find.{stands_at, child, find_from}
use Rattle.kb_ops.proofs.Nodes.{node_is, node_other, node_cases}
use Rattle.kb_ops.proofs.Kept.{dir_at}
use Rattle.kb_ops.proofs.Children.{child_is}
use Rattle.kb_apply.specs.Children.{is_child_of, by_name, children}
use Rattle.kb_apply.specs.Shows.{rows_below, rows_of}
use Rattle.kb_apply.specs.Laws.{IsPlaced, ListedArePlaced, AllAreListed}
use Rattle.kb_apply.proofs.Children.{IsChild, children_stand, named_rows, stands-named}

-- ---- lists

all_both : {A : Type 0} (P : A → Type 0) (xs ys : List A) → AllByRecursion P xs → AllByRecursion P ys → AllByRecursion P (xs ++ ys)
all_both P [] ys a b = b
all_both P (x ∷ xs) ys a b = (a.0, all_both P xs ys a.1 b)

abbrev Member : {A : Type 0} → A → List A → Type 0
Member x [] = ⊥
Member x (y ∷ ys) = (x ≡ y) ⊎ Member x ys

all_at : {A : Type 0} (P : A → Type 0) (x : A) (xs : List A) → AllByRecursion P xs → Member x xs → P x
all_at P x [] all m = absurd m
all_at P x (y ∷ ys) all (inl e) = subst P (sym e) all.0
all_at P x (y ∷ ys) all (inr m) = all_at P x ys all.1 m

member_left : {A : Type 0} (x : A) (xs ys : List A) → Member x xs → Member x (xs ++ ys)
member_left x [] ys m = absurd m
member_left x (z ∷ xs) ys (inl e) = inl e
member_left x (z ∷ xs) ys (inr m) = inr (member_left x xs ys m)

member_right : {A : Type 0} (x : A) (xs ys : List A) → Member x ys → Member x (xs ++ ys)
member_right x [] ys m = m
member_right x (z ∷ xs) ys m = inr (member_right x xs ys m)

member_split : {A : Type 0} (x : A) (xs ys : List A) → Member x (xs ++ ys) → Member x xs ⊎ Member x ys
member_split x [] ys m = inr m
member_split x (z ∷ xs) ys (inl e) = inl (inl e)
member_split x (z ∷ xs) ys (inr m) = elim (member_split x xs ys m) [ inl l ↦ inl (inr l) | inr r ↦ inr r ]

to_flat : {A B : Type 0} (f : A → List B) (x : B) (c : A) (xs : List A) → Member c xs → Member x (f c) → Member x (flat_map f xs)
to_flat f x c [] m n = absurd m
to_flat f x c (y ∷ ys) (inl e) n = member_left x (f y) (flat_map f ys) (subst (λ z. Member x (f z)) e n)
to_flat f x c (y ∷ ys) (inr m) n = member_right x (f y) (flat_map f ys) (to_flat f x c ys m n)

-- the one whose part it is
record Part {A B : Type 0} (f : A → List B) (x : B) (xs : List A) : Type 0 where
  whole : A
  within : Member whole xs
  part : Member x (f whole)

of_flat : {A B : Type 0} (f : A → List B) (x : B) (xs : List A) → Member x (flat_map f xs) → Part f x xs
of_flat f x [] m = absurd m
of_flat f x (y ∷ ys) m = elim (member_split x (f y) (flat_map f ys) m) [
  | inl l ↦ record { whole = y; within = inl refl; part = l }
  | inr r ↦ let p = of_flat f x ys r in record { whole = p.whole; within = inr p.within; part = p.part }
]

contained : {A : Type 0} (x : A) (xs : List A) → Member x xs → Contains xs x
contained x [] m = absurd m
contained x (y ∷ ys) (inl e) = (0, omega arith, sym e)
contained x (y ∷ ys) (inr m) = let c = contained x ys m in (suc c.0, (let low : c.0 < length ys = c.1 in omega arith), c.2)

found_member : {K X : Type 0} (R : K → K → Ordering) (k : K) (v : X) (es : List (K × X)) → entries.find R k es ≡ Some v → Member v (map (λ (e : K × X). e.1) es)
found_member R k v [] h = let n : None ≡ Some v = h in cc
found_member R k v (e ∷ es) h =
    elim (eq_by_cmp R k e.0) as (λ b. cond b (Some e.1) (entries.find R k es) ≡ Some v → (v ≡ e.1) ⊎ Member v (map (λ (e : _ × _). e.1) es)) [
      | true ↦ λ g. inl (let is : v ≡ e.1 = cc in is)
      | false ↦ λ g. inr (found_member R k v es g)
    ] h

-- ---- each listed row is where its path leads

module _ (t : Tree) (w : IsWellFormed t) where
  ok_is : (a b : NodeId) → ◌≡◌ {A = Result NodeId WalkFault} (Ok a) (Ok b) → a ≡ b
  ok_is a b e = cc

  step : (p c : NodeId) (name : List ℕ) → is_dir (look t) p ≡ true → child t p name ≡ Some c → find_from t p (name ∷ []) ≡ Ok c
  step p c name dir at =
      ap (λ b. cond b (option_map_or (λ c. find_from t c []) (child t p name) (Err NotFound)) (Err NotDir)) dir
      ∙ ap (λ o. option_map_or (λ c. find_from t c []) o (Err NotFound)) at

  further : (q p c : NodeId) (names : List (List ℕ)) (name : List ℕ) → find_from t q names ≡ Ok p → is_dir (look t) p ≡ true → child t p name ≡ Some c → find_from t q (names ++ name ∷ []) ≡ Ok c
  further q p c [] name h dir at = ap (λ n. find_from t n (name ∷ [])) (ok_is q p h) ∙ step p c name dir at
  further q p c (n ∷ names) name h dir at =
      elim (is_dir (look t) q) as (λ b. cond b (option_map_or (λ c. find_from t c names) (child t q n) (Err NotFound)) (Err NotDir) ≡ Ok p → cond b (option_map_or (λ c. find_from t c (names ++ name ∷ [])) (child t q n) (Err NotFound)) (Err NotDir) ≡ Ok c) [
        | true ↦ λ g. elim (child t q n) as (λ o. option_map_or (λ c. find_from t c names) o (Err NotFound) ≡ Ok p → option_map_or (λ c. find_from t c (names ++ name ∷ [])) o (Err NotFound) ≡ Ok c) [
          | Some k ↦ λ f. further k p c names name f dir at
          | None ↦ λ f. cc
        ] g
        | false ↦ λ g. cc
      ] h

  -- a child's path is its parent's with one name more
  child_path : (names : List (List ℕ)) (q : NodeId) (r : Row) → find_from t root names ≡ Ok q → IsChild t q r → find_from t root (names ++ r.name ∷ []) ≡ Ok r.id
  child_path names q r h is =
      further root q r.id names r.name h
      (ap (is_dir (look t)) (sym is.parent_is) ∙ w.parents r.id r is.found is.not_root)
      (ap (λ p. child t p r.name) (sym is.parent_is) ∙ child_is t w r.id r is.found is.not_root)

  over_children : (levels : ℕ) (names : List (List ℕ)) (q : NodeId) → find_from t root names ≡ Ok q → ((more : List (List ℕ)) (p : NodeId) → find_from t root more ≡ Ok p → AllByRecursion (IsPlaced t) (rows_below levels t more p)) → (rows : List Row) → AllByRecursion (IsChild t q) rows
      → AllByRecursion (IsPlaced t) (flat_map (λ (r : Row). record { names = names ++ r.name ∷ []; row = r } ∷ rows_below levels t (names ++ r.name ∷ []) r.id) rows)
  over_children levels names q h below [] all = tt
  over_children levels names q h below (r ∷ rows) all =
      let path = child_path names q r h all.0 in
      all_both (IsPlaced t) (record { names = names ++ r.name ∷ []; row = r } ∷ rows_below levels t (names ++ r.name ∷ []) r.id) _
      ((all.0.found, path), below (names ++ r.name ∷ []) r.id path)
      (over_children levels names q h below rows all.1)

  all_placed : (levels : ℕ) (names : List (List ℕ)) (q : NodeId) → find_from t root names ≡ Ok q → AllByRecursion (IsPlaced t) (rows_below levels t names q)
  all_placed zero names q h = tt
  all_placed (suc levels) names q h = over_children levels names q h (λ more p g. all_placed levels more p g) (children t q) (children_stand t w q)

  -- ---- each row is listed

  child_member : (r : Row) → look t r.id ≡ Some r → r.id ≢ root → Member r (children t r.parent)
  child_member r found off =
      let m = by_name t r.parent in
      let rows = named_rows (filter (is_child_of r.parent) (finite.values t)) in
      let gets : finite.get m r.name ≡ find (stands_at r.parent r.name) (finite.values t) = finite.get-from_entries nat_list_cmp_total rows r.name ∙ stands-named r.parent r.name (finite.values t) in
      let its : option_map (λ (x : Row). x.id) (finite.get m r.name) ≡ Some r.id = ap (option_map (λ (x : Row). x.id)) gets ∙ child_is t w r.id r found off in
      elim (finite.get m r.name) as (λ o. finite.get m r.name ≡ o → option_map (λ (x : Row). x.id) o ≡ Some r.id → Member r (children t r.parent)) [
        | Some x ↦ λ e g.
            let listed : Member x (children t r.parent) = found_member (slice_cmp nat_cmp) r.name x (finite.entries m) (sym (finite.get-entries m r.name) ∙ e) in
            let stands = all_at (IsChild t r.parent) x (children t r.parent) (children_stand t w r.parent) listed in
            let id : x.id ≡ r.id = cc in
            let there : look t r.id ≡ Some x = ap (look t) (sym id) ∙ stands.found in
            let same : x ≡ r = (let s : Some x ≡ Some r = sym there ∙ found in cc) in
            subst (λ y. Member y (children t r.parent)) same listed
        | None ↦ λ e g. cc
      ] refl its

  parts_of : ℕ → List (List ℕ) → Row → List Placed
  parts_of levels names r = record { names = names ++ r.name ∷ []; row = r } ∷ rows_below levels t (names ++ r.name ∷ []) r.id

  -- below a listed row its children are listed, a level deeper
  descend : (levels : ℕ) (names : List (List ℕ)) (q : NodeId) (path : List (List ℕ)) (s r : Row) → Member r (children t s.id) → Member (record { names = path; row = s }) (rows_below levels t names q) → Member (record { names = path ++ r.name ∷ []; row = r }) (rows_below (suc levels) t names q)
  unfolding parts_of
  descend zero names q path s r below m = absurd m
  descend (suc levels) names q path s r below m =
      let p = of_flat (parts_of levels names) (record { names = path; row = s }) (children t q) m in
      to_flat (parts_of (suc levels) names) (record { names = path ++ r.name ∷ []; row = r }) p.whole (children t q) p.within
      (elim p.part [
        | inl e ↦
            let path_is : path ≡ names ++ p.whole.name ∷ [] = ap (λ (x : Placed). x.names) e in
            let row_is : s ≡ p.whole = ap (λ (x : Placed). x.row) e in
            inr (to_flat (parts_of levels (names ++ p.whole.name ∷ [])) (record { names = path ++ r.name ∷ []; row = r }) r (children t p.whole.id)
            (subst (λ (x : Row). Member r (children t x.id)) row_is below)
            (inl (λ i. record { names = path_is i ++ r.name ∷ []; row = r })))
        | inr n ↦ inr (descend levels (names ++ p.whole.name ∷ []) p.whole.id path s r below n)
      ])

  climb : (n : ℕ) (q : NodeId) (r : Row) → look t q ≡ Some r → q ≢ root → meets (look t) root n q ≡ true → (names : List (List ℕ)) × Member (record { names = names; row = r }) (rows_below n t [] root)
  unfolding parts_of
  climb zero q r found off h = absurd (off (node_is q root h))
  climb (suc n) q r found off h =
      let key : r.id ≡ q = w.keyed q r found in
      let here : look t r.id ≡ Some r = ap (look t) key ∙ found in
      let off_root : r.id ≢ root = (λ e. off (sym key ∙ e)) in
      let up : meets (look t) root n r.parent ≡ true =
      sym (ap (λ b. b || option_map_or (λ (x : Row). meets (look t) root n x.parent) (look t q) false) (node_other q root off)
      ∙ ap (λ o. option_map_or (λ (x : Row). meets (look t) root n x.parent) o false) found) ∙ h in
      elim (node_cases r.parent root) [
        | inl at ↦ (r.name ∷ [], to_flat (parts_of n []) (record { names = r.name ∷ []; row = r }) r (children t root) (subst (λ p. Member r (children t p)) at (child_member r here off_root)) (inl refl))
        | inr below ↦
            let s = dir_at (look t) r.parent (w.parents q r found off) in
            let up_row = climb n r.parent s.0 s.1 below up in
            (up_row.0 ++ r.name ∷ [], descend n [] root up_row.0 s.0 r (subst (λ p. Member r (children t p)) (sym (w.keyed r.parent s.0 s.1)) (child_member r here off_root)) up_row.1)
      ]

pub listed_are_placed : ListedArePlaced
listed_are_placed t w = all_placed t w (finite.len t) [] root refl

pub all_are_listed : AllAreListed
all_are_listed t w q r found off = let c = climb t w (finite.len t) q r found off (w.reaches q r found) in (c.0, contained _ (rows_of t) c.1)
