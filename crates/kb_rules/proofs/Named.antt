-- Names given are new in their directories.
use Rattle.std.proofs.Common.{◌≡◌, ◌≢◌, ℕ, zero, suc, ◌+◌, ◌*◌, ◌≤◌, length-append, Bool, true, false, List, [], ◌∷◌, ◌++◌, length, ◌⊎◌, inl, inr, ◌||◌, cond, Option, Some, None, IsSome, is_some, refl, sym, ap, subst, ◌∙◌, arith}
use mathlib.Core.Bool.{true≢false}
use Rattle.std.specs.Prelude.{find}
use Rattle.std.specs.List.{list_any, filter_map, cons_option}
use Rattle.std.specs.Option.{option_map_or}
use Rattle.std.specs.Str.{bytes_eq}
use Rattle.kb_name.specs.declared.ids.NodeId.{NodeId}
use Rattle.kb_ops.specs.declared.rows.Row.{Row}
use Rattle.kb_name.specs.Nodes.{same_node}
use Rattle.kb_ops.proofs.Nodes.{node_is, node_self, node_other}
use Rattle.kb_rules.specs.Names.{Given}
use Rattle.kb_rules.specs.Three.{Three}
use Rattle.kb_rules.specs.Joins.{standing}
use Rattle.kb_rules.specs.Names.{clashes, name_in, given_in, taken, first_free, free_name, give, give_all, given, given_name}
use Rattle.kb_rules.specs.Ready.{is_in}
use Rattle.kb_rules.proofs.Basics.{bool_cases, not_true, second_of_both, when, unless, none_some, found_passes, dropping, dropping_less, dropping_keeps, bytes_same, bytes_self}
use Rattle.kb_rules.proofs.Joined.{passes_row}

-- the names up to a last number differ
abbrev pub Differ : (ℕ → List ℕ) → ℕ → Type 0
Differ f top = (j k : ℕ) → 1 ≤ j → 1 ≤ k → j ≤ top → k ≤ top → f j ≡ f k → j ≡ k

-- one of n + 1 names is not among n
free_within : (f : ℕ → List ℕ) (top : ℕ) → Differ f top → (xs : List (List ℕ)) (n k : ℕ) (ys : List (List ℕ)) → 1 ≤ k → k + n ≤ top → length ys ≤ n
    → ((j : ℕ) → k ≤ j → j ≤ top → list_any (bytes_eq (f j)) xs ≡ true → list_any (bytes_eq (f j)) ys ≡ true) → list_any (bytes_eq (first_free f xs n k)) xs ≡ false
free_within f top differ xs zero k ys one room le in' = not_true _ (λ h. empty ys le (in' k (omega arith) (omega (arith, room)) h))
  where
    empty : (zs : List (List ℕ)) → length zs ≤ 0 → list_any (bytes_eq (f k)) zs ≡ true → ⊥
    empty [] le h = true≢false (sym h)
    empty (z ∷ zs) le h = omega (arith, le)
free_within f top differ xs (suc n) k ys one room le in' = elim (bool_cases (list_any (bytes_eq (f k)) xs)) [
  | inr e ↦ subst (λ z. list_any (bytes_eq z) xs ≡ false) (sym (unless _ (first_free f xs n (k + 1)) (f k) e)) e
  | inl e ↦
      let less = dropping_less (bytes_eq (f k)) ys (in' k (omega arith) (omega (arith, room)) e) in
      let rest = free_within f top differ xs n (k + 1) (dropping (bytes_eq (f k)) ys) (omega arith) (omega (arith, room)) (omega (arith, le, less)) (λ j later within h.
      dropping_keeps (bytes_eq (f k)) (bytes_eq (f j)) ys
      (λ y same. not_true _ (λ also. let e : j ≡ k = differ j k (omega (arith, later)) one within (omega (arith, room)) (bytes_same _ _ also ∙ sym (bytes_same _ _ same)) in omega (arith, e, later)))
      (in' j (omega (arith, later)) within h)) in
      subst (λ z. list_any (bytes_eq z) xs ≡ false) (sym (when _ (first_free f xs n (k + 1)) (f k) e)) rest
]

pub is_free : (f : ℕ → List ℕ) (top : ℕ) → Differ f top → (xs : List (List ℕ)) (n k : ℕ) → 1 ≤ k → length xs ≤ n → k + n ≤ top → list_any (bytes_eq (first_free f xs n k)) xs ≡ false
is_free f top differ xs n k one enough room = free_within f top differ xs n k xs one room enough (λ j later within h. h)

pub free_is : (f : ℕ → List ℕ) (xs : List (List ℕ)) (n k : ℕ) → (j : ℕ) × (j ≤ k + n) × (k ≤ j) × (first_free f xs n k ≡ f j)
free_is f xs zero k = (k, omega arith, omega arith, refl)
free_is f xs (suc n) k = elim (bool_cases (list_any (bytes_eq (f k)) xs)) [
  | inr e ↦ (k, omega arith, omega arith, unless _ (first_free f xs n (k + 1)) (f k) e)
  | inl e ↦ let w = free_is f xs n (k + 1) in (w.0, omega (arith, w.1), omega (arith, w.2), when _ (first_free f xs n (k + 1)) (f k) e ∙ w.3)
]

-- a filter gives no more than there is
filter_map_le : {A B : Type 0} (h : A → Option B) (xs : List A) → length (filter_map h xs) ≤ length xs
filter_map_le h [] = omega arith
filter_map_le h (x ∷ xs) = let rest = filter_map_le h xs in elim (h x) as (λ o. length (cons_option o (filter_map h xs)) ≤ suc (length xs)) [ None ↦ omega (arith, rest) | Some y ↦ omega (arith, rest) ]

pub taken_le : (t : Three) (gs : List Given) (parent : NodeId) → length (taken t gs parent) ≤ length t.ids + length gs
taken_le t gs parent =
    let a = filter_map_le (λ p. name_in parent (standing t p)) t.ids in
    let b = filter_map_le (given_in parent) gs in
    let e : length (taken t gs parent) ≡ length (filter_map (λ p. name_in parent (standing t p)) t.ids) + length (filter_map (given_in parent) gs) = length-append _ _ in
    omega (arith, a, b, e)

or_first : (a b : Bool) → a ≡ true → (a || b) ≡ true
or_first true b h = refl
or_first false b h = absurd (true≢false (sym h))

pub or_second : (a b : Bool) → b ≡ true → (a || b) ≡ true
or_second true b h = refl
or_second false b h = h

any_append : {A : Type 0} (f : A → Bool) (xs ys : List A) → (list_any f xs ≡ true) ⊎ (list_any f ys ≡ true) → list_any f (xs ++ ys) ≡ true
any_append f [] ys h = elim h [ inl x ↦ absurd (true≢false (sym x)) | inr y ↦ y ]
any_append f (x ∷ xs) ys h = elim (bool_cases (f x)) [
  | inl e ↦ or_first (f x) _ e
  | inr e ↦ or_second (f x) _ (any_append f xs ys (elim h [ inl a ↦ inl (sym (ap (λ b. b || list_any f xs) e) ∙ a) | inr b ↦ inr b ]))
]

listed : (h : NodeId → Option (List ℕ)) (ids : List NodeId) (q : NodeId) (name : List ℕ) → is_in q ids ≡ true → h q ≡ Some name → list_any (bytes_eq name) (filter_map h ids) ≡ true
listed h [] q name in' e = absurd (true≢false (sym in'))
listed h (x ∷ ids) q name in' e = elim (bool_cases (same_node q x)) [
  | inl same ↦ here (h x) (ap h (sym (node_is q x same)) ∙ e)
  | inr other ↦ later (h x) (listed h ids q name (sym (ap (λ b. b || is_in q ids) other) ∙ in') e)
]
  where
    here : (o : Option (List ℕ)) → o ≡ Some name → list_any (bytes_eq name) (cons_option o (filter_map h ids)) ≡ true
    here None k = none_some name None refl k
    here (Some y) k = or_first _ _ (let same : y ≡ name = cc in ap (bytes_eq name) same ∙ bytes_self name)

    later : (o : Option (List ℕ)) → list_any (bytes_eq name) (filter_map h ids) ≡ true → list_any (bytes_eq name) (cons_option o (filter_map h ids)) ≡ true
    later None k = k
    later (Some y) k = or_second (bytes_eq name y) _ k

abbrev pub find_given : List Given → NodeId → Option Given
find_given gs q = find (λ (g : Given). same_node g.id q) gs

listed_given : (parent : NodeId) (gs : List Given) (q : NodeId) (g : Given) → find_given gs q ≡ Some g → g.parent ≡ parent → list_any (bytes_eq g.name) (filter_map (given_in parent) gs) ≡ true
listed_given parent [] q g h e = none_some g None refl h
listed_given parent (x ∷ gs) q g h e = elim (bool_cases (same_node x.id q)) [
  | inl same ↦ here x (let s : Some x ≡ Some g = sym (when _ (Some x) (find_given gs q) same) ∙ h in cc)
  | inr other ↦ later (given_in parent x) (listed_given parent gs q g (sym (unless _ (Some x) (find_given gs q) other) ∙ h) e)
]
  where
    here : (x : Given) → x ≡ g → list_any (bytes_eq g.name) (cons_option (given_in parent x) (filter_map (given_in parent) gs)) ≡ true
    here x s =
        let is : given_in parent x ≡ Some x.name = when _ (Some x.name) None (ap (λ p. same_node p parent) (ap (λ (z : Given). z.parent) s ∙ e) ∙ node_self parent) in
        ap (λ o. list_any (bytes_eq g.name) (cons_option o (filter_map (given_in parent) gs))) is
        ∙ or_first _ _ (ap (λ (z : Given). bytes_eq g.name z.name) s ∙ bytes_self g.name)

    later : (o : Option (List ℕ)) → list_any (bytes_eq g.name) (filter_map (given_in parent) gs) ≡ true → list_any (bytes_eq g.name) (cons_option o (filter_map (given_in parent) gs)) ≡ true
    later None k = k
    later (Some y) k = or_second (bytes_eq g.name y) _ k

-- a name that was given, after these
pub record IsGiven (t : Three) (gs : List Given) (g : Given) : Type 0 where
  pub row : Row
  pub found : standing t g.id ≡ Some row
  pub clash : clashes t g.id ≡ true
  pub parent : g.parent ≡ row.parent
  pub k : ℕ
  pub from_one : 1 ≤ k
  pub small : k ≤ 2 * length t.ids + 1
  pub name : g.name ≡ t.conflicted row.name k
  pub free : list_any (bytes_eq g.name) (taken t gs g.parent) ≡ false

abbrev pub AreGiven : Three → List Given → Type 0
AreGiven t [] = Unit {0}
AreGiven t (g ∷ gs) = IsGiven t gs g × AreGiven t gs

module _ (t : Three) where
  -- the row at a name that was given, and that no row has the name
  pub given_at : (gs : List Given) → AreGiven t gs → (q : NodeId) (g : Given) → find_given gs q ≡ Some g → (rest : List Given) × IsGiven t rest g
  given_at [] are q g h = none_some g None refl h
  given_at (x ∷ gs) are q g h = elim (bool_cases (same_node x.id q)) [
    | inl same ↦ let s : Some x ≡ Some g = sym (when _ (Some x) (find_given gs q) same) ∙ h in let is : x ≡ g = cc in (gs, subst (IsGiven t gs) is are.0)
    | inr other ↦ given_at gs are.1 q g (sym (unless _ (Some x) (find_given gs q) other) ∙ h)
  ]

  pub given_id : (gs : List Given) (q : NodeId) (g : Given) → find_given gs q ≡ Some g → g.id ≡ q
  given_id gs q g h = node_is g.id q (found_passes (λ (z : Given). same_node z.id q) gs g h)

  -- two rows of one directory are not given one name
  pub given_apart : (gs : List Given) → AreGiven t gs → (p q : NodeId) (g h : Given) → p ≢ q → find_given gs p ≡ Some g → find_given gs q ≡ Some h → g.parent ≡ h.parent → g.name ≢ h.name
  given_apart [] are p q g h ne fp fq e = none_some g None refl fp
  given_apart (x ∷ gs) are p q g h ne fp fq e = elim (bool_cases (same_node x.id p)) [
    | inl same ↦
        let s : Some x ≡ Some g = sym (when _ (Some x) (find_given gs p) same) ∙ fp in
        let is : x ≡ g = cc in
        let other : same_node x.id q ≡ false = node_other x.id q (λ z. ne (sym (node_is x.id p same) ∙ z)) in
        λ n. older x h q are.0 (sym (unless _ (Some x) (find_given gs q) other) ∙ fq) (ap (λ (z : Given). z.parent) is ∙ e) (ap (λ (z : Given). z.name) is ∙ n)
    | inr op ↦ elim (bool_cases (same_node x.id q)) [
      | inl same ↦
          let s : Some x ≡ Some h = sym (when _ (Some x) (find_given gs q) same) ∙ fq in
          let is : x ≡ h = cc in
          λ n. older x g p are.0 (sym (unless _ (Some x) (find_given gs p) op) ∙ fp) (ap (λ (z : Given). z.parent) is ∙ sym e) (ap (λ (z : Given). z.name) is ∙ sym n)
      | inr oq ↦ given_apart gs are.1 p q g h ne (sym (unless _ (Some x) (find_given gs p) op) ∙ fp) (sym (unless _ (Some x) (find_given gs q) oq) ∙ fq) e
    ]
  ]
    where
      older : (x h : Given) (q : NodeId) → IsGiven t gs x → find_given gs q ≡ Some h → x.parent ≡ h.parent → x.name ≢ h.name
      older x h q is fq e n = true≢false (sym (ap (λ z. list_any (bytes_eq z) (taken t gs x.parent)) n ∙ any_append (bytes_eq h.name) (filter_map (λ p. name_in x.parent (standing t p)) t.ids) (filter_map (given_in x.parent) gs) (inr (listed_given x.parent gs q h fq (sym e)))) ∙ is.free)

  -- no row has a name that was given in its directory
  pub given_new : (gs : List Given) → AreGiven t gs → (q p : NodeId) (g : Given) (r : Row) → find_given gs q ≡ Some g → standing t p ≡ Some r → is_in p t.ids ≡ true → g.parent ≡ r.parent → g.name ≢ r.name
  given_new gs are q p g r fg sp in' e n =
      let w = given_at gs are q g fg in
      let there : name_in g.parent (standing t p) ≡ Some r.name = ap (name_in g.parent) sp ∙ when _ (Some r.name) None (ap (λ z. same_node z g.parent) (sym e) ∙ node_self g.parent) in
      true≢false (sym (ap (λ z. list_any (bytes_eq z) (taken t w.0 g.parent)) n ∙ any_append (bytes_eq r.name) (filter_map (λ p. name_in g.parent (standing t p)) t.ids) (filter_map (given_in g.parent) w.0) (inl (listed (λ p. name_in g.parent (standing t p)) t.ids p r.name in' there))) ∙ w.1.free)

  clash_row : (q : NodeId) → clashes t q ≡ true → (r : Row) × (standing t q ≡ Some r)
  clash_row q h = let w = passes_row _ (standing t q) (second_of_both _ _ h) in (w.0, w.1)

  give_row : (q : NodeId) (r : Row) (gs : List Given) → clashes t q ≡ true → standing t q ≡ Some r → give t q gs ≡ record { id = q; parent = r.parent; name = free_name t gs r } ∷ gs
  give_row q r gs c s = when _ _ gs c ∙ ap (λ o. option_map_or (λ (r : Row). record { id = q; parent = r.parent; name = free_name t gs r } ∷ gs) o gs) s

  give_le : (q : NodeId) (gs : List Given) → length (give t q gs) ≤ suc (length gs)
  give_le q gs = elim (bool_cases (clashes t q)) [
    | inl c ↦ let w = clash_row q c in subst (λ (z : List Given). length z ≤ suc (length gs)) (sym (give_row q w.0 gs c w.1)) (omega arith)
    | inr c ↦ subst (λ (z : List Given). length z ≤ suc (length gs)) (sym (unless _ _ gs c)) (omega arith)
  ]

  module _ (differ : (name : List ℕ) → Differ (t.conflicted name) (2 * length t.ids + 1)) where
    give_good : (q : NodeId) (gs : List Given) → length gs ≤ length t.ids → AreGiven t gs → AreGiven t (give t q gs)
    give_good q gs few are = elim (bool_cases (clashes t q)) [
      | inl c ↦
          let w = clash_row q c in
          let names = taken t gs w.0.parent in
          let le = taken_le t gs w.0.parent in
          let k = free_is (t.conflicted w.0.name) names (length t.ids + length gs) 1 in
          subst (AreGiven t) (sym (give_row q w.0 gs c w.1)) (
            record {
              row = w.0;
              found = w.1;
              clash = c;
              parent = refl;
              k = k.0;
              small = omega (arith, le, few, k.1);
              from_one = k.2;
              name = k.3;
              free = is_free (t.conflicted w.0.name) (2 * length t.ids + 1) (differ w.0.name) names (length t.ids + length gs) 1 (omega arith) le (omega (arith, few));
            },
            are,
          )
      | inr c ↦ subst (AreGiven t) (sym (unless _ _ gs c)) are
    ]

    give_all_good : (ids : List NodeId) (gs : List Given) → length ids + length gs ≤ length t.ids → AreGiven t gs → AreGiven t (give_all t ids gs)
    give_all_good [] gs few are = are
    give_all_good (q ∷ ids) gs few are = let le = give_le q gs in give_all_good ids (give t q gs) (omega (arith, few, le)) (give_good q gs (omega (arith, few)) are)

    pub all_given : AreGiven t (given t)
    all_given = give_all_good t.ids [] (omega arith) tt

  more : (x : Given) (gs : List Given) (q : NodeId) → IsSome (find_given gs q) → IsSome (find_given (x ∷ gs) q)
  more x gs q h = elim (same_node x.id q) as (λ b. is_some (cond b (Some x) (find_given gs q)) ≡ true) [ true ↦ refl | false ↦ h ]

  give_more : (p q : NodeId) (gs : List Given) → IsSome (find_given gs q) → IsSome (find_given (give t p gs) q)
  give_more p q gs h = elim (bool_cases (clashes t p)) [
    | inl c ↦ let w = clash_row p c in subst (λ z. IsSome (find_given z q)) (sym (give_row p w.0 gs c w.1)) (more (record { id = p; parent = w.0.parent; name = free_name t gs w.0 }) gs q h)
    | inr c ↦ subst (λ z. IsSome (find_given z q)) (sym (unless _ _ gs c)) h
  ]

  give_here : (q : NodeId) (gs : List Given) → clashes t q ≡ true → IsSome (find_given (give t q gs) q)
  give_here q gs c =
      let w = clash_row q c in
      let g : Given = record { id = q; parent = w.0.parent; name = free_name t gs w.0 } in
      subst (λ z. IsSome (find_given z q)) (sym (give_row q w.0 gs c w.1)) (ap is_some (when _ (Some g) (find_given gs q) (node_self q)))

  give_all_more : (ids : List NodeId) (q : NodeId) (gs : List Given) → IsSome (find_given gs q) → IsSome (find_given (give_all t ids gs) q)
  give_all_more [] q gs h = h
  give_all_more (p ∷ ids) q gs h = give_all_more ids q (give t p gs) (give_more p q gs h)

  give_all_here : (ids : List NodeId) (q : NodeId) (gs : List Given) → clashes t q ≡ true → is_in q ids ≡ true → IsSome (find_given (give_all t ids gs) q)
  give_all_here [] q gs c in' = absurd (true≢false (sym in'))
  give_all_here (p ∷ ids) q gs c in' = elim (bool_cases (same_node q p)) [
    | inl e ↦ give_all_more ids q (give t p gs) (subst (λ z. IsSome (find_given (give t z gs) q)) (node_is q p e) (give_here q gs c))
    | inr e ↦ give_all_here ids q (give t p gs) c (sym (ap (λ b. b || is_in q ids) e) ∙ in')
  ]

  pub clash_given : (q : NodeId) → clashes t q ≡ true → is_in q t.ids ≡ true → IsSome (find_given (given t) q)
  clash_given q c in' = give_all_here t.ids q [] c in'

  pub name_cases : (gs : List Given) (q : NodeId) (name : List ℕ) → ((g : Given) × (find_given gs q ≡ Some g) × (given_name gs q name ≡ g.name)) ⊎ ((find_given gs q ≡ None) × (given_name gs q name ≡ name))
  name_cases gs q name = elim (find_given gs q) as (λ o. find_given gs q ≡ o → ((g : Given) × (find_given gs q ≡ Some g) × (given_name gs q name ≡ g.name)) ⊎ ((find_given gs q ≡ None) × (given_name gs q name ≡ name))) [
    | Some g ↦ λ e. inl (g, e, ap (λ o. option_map_or (λ (g : Given). g.name) o name) e)
    | None ↦ λ e. inr (e, ap (λ o. option_map_or (λ (g : Given). g.name) o name) e)
  ] refl
