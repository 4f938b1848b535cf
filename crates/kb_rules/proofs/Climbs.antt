-- Steps up through a table of places, and walks of parents.
use Rattle.std.proofs.Common.{◌≡◌, ◌≢◌, ℕ, zero, suc, ◌+◌, ◌≤◌, ◌<◌, Bool, true, false, List, [], ◌∷◌, map, length, Option, Some, None, is_some, inl, inr, nat_eq, slice_get, get_or, refl, sym, ap, subst, ◌∙◌, arith, ltb-true, ltb-false, nat_lt}
use borrow.Author.Tests.{eqb-true, eq-eqb}
use Rattle.std.specs.List.{range_with_len}
use Rattle.std.specs.Option.{option_and_then, unwrap_or}
use Rattle.std.proofs.lemmas.List.{get_or_past, length-map}
use Rattle.std.proofs.lemmas.List.FromFn.{get_or-map-range_with_len, length-map-range_with_len}
use Rattle.std.proofs.lemmas.Option.{slice_get_within}
use Rattle.kb_name.specs.declared.ids.NodeId.{NodeId}
use Rattle.kb_name.specs.Nodes.{root, same_node}
use Rattle.kb_ops.specs.declared.rows.Row.{Row}
use Rattle.kb_ops.specs.Rows.{Look, meets}
use Rattle.kb_ops.proofs.Nodes.{node_is, node_self, node_cases}
use Rattle.kb_ops.proofs.Walks.{IsAtMost, row_cases, meets_here, meets_next, meets_nowhere, meets_by, meets_within}
use Rattle.kb_rules.specs.Ready.{is_in}
use Rattle.kb_rules.specs.Code.{ascend, place_in, up_of, climb, twice}
use Rattle.kb_rules.proofs.Basics.{bool_cases, not_true, not_both}
use Rattle.kb_rules.proofs.Ids.{stands_once, get_in}
use Rattle.kb_rules.proofs.Positions.{place_there, place_got}
use Rattle.kb_rules.proofs.Tables.{at_map}

-- ---- steps through a table

climb_end : (ups : List ℕ) (n i : ℕ) → length ups ≤ i → climb ups (suc n) i ≡ length ups
climb_end ups zero i le = get_or_past ups i (length ups) le
climb_end ups (suc n) i le = ap (climb ups (suc n)) (get_or_past ups i (length ups) le) ∙ climb_end ups n (length ups) (omega arith)

climb_more : (ups : List ℕ) (m n i : ℕ) → climb ups (m + n) i ≡ climb ups n (climb ups m i)
climb_more ups zero n i = let z : zero + n ≡ n = omega arith in ap (λ k. climb ups k i) z
climb_more ups (suc m) n i = let z : suc m + n ≡ suc (m + n) = omega arith in ap (λ k. climb ups k i) z ∙ climb_more ups m n (get_or ups i (length ups))

-- the table of so many steps
abbrev pub climbs : List ℕ → ℕ → List ℕ
climbs ups n = map (climb ups n) (range_with_len 0 (length ups))

length-climbs : (ups : List ℕ) (n : ℕ) → length (climbs ups n) ≡ length ups
length-climbs ups n = length-map-range_with_len (climb ups n) 0 (length ups)

-- at a place, or past the end
climbs_at : (ups : List ℕ) (n i : ℕ) → 1 ≤ n → get_or (climbs ups n) i (length (climbs ups n)) ≡ climb ups n i
climbs_at ups n i one = elim (bool_cases (nat_lt i (length ups))) [
  | inl lt ↦ let w : i < length ups = ltb-true i (length ups) lt in get_or-map-range_with_len (climb ups n) 0 (length ups) i i (length (climbs ups n)) w (omega arith)
  | inr ge ↦ let w : length ups ≤ i = ltb-false i (length ups) ge in get_or_past (climbs ups n) i (length (climbs ups n)) (subst (λ k. k ≤ i) (sym (length-climbs ups n)) w) ∙ length-climbs ups n ∙ sym (past n one w)
]
  where
    past : (n : ℕ) → 1 ≤ n → length ups ≤ i → climb ups n i ≡ length ups
    past zero one w = absurd (omega (arith, one))
    past (suc n) one w = climb_end ups n i w

mapped_twice : (f : ℕ → ℕ) (g : ℕ → ℕ) (h : ℕ → ℕ) → ((i : ℕ) → f (g i) ≡ h i) → (xs : List ℕ) → map f (map g xs) ≡ map h xs
mapped_twice f g h e [] = refl
mapped_twice f g h e (x ∷ xs) = λ i. e x i ∷ mapped_twice f g h e xs i

-- jumps of twice as many steps are twice as many steps
pub twice_climbs : (ups : List ℕ) (n : ℕ) → 1 ≤ n → twice (climbs ups n) ≡ climbs ups (n + n)
twice_climbs ups n one = mapped_twice (λ i. get_or (climbs ups n) i (length (climbs ups n))) (climb ups n) (climb ups (n + n)) (λ i. climbs_at ups n (climb ups n i) one ∙ sym (climb_more ups n n i)) (range_with_len 0 (length ups))

mapped_itself : (f : ℕ → ℕ) (ups : List ℕ) (a : ℕ) → ((i : ℕ) → i < length ups → f (a + i) ≡ get_or ups i 0) → map f (range_with_len a (length ups)) ≡ ups
mapped_itself f [] a h = refl
mapped_itself f (x ∷ ups) a h =
    let z : a + 0 ≡ a = omega arith in
    let first : f a ≡ x = sym (ap f z) ∙ h 0 (omega arith) in
    let rest : map f (range_with_len (a + 1) (length ups)) ≡ ups = mapped_itself f ups (a + 1) (λ i lt. let e : (a + 1) + i ≡ a + suc i = omega arith in ap f e ∙ h (suc i) (omega (arith, lt))) in
    λ i. first i ∷ rest i

get_any : (xs : List ℕ) (i d e : ℕ) → i < length xs → get_or xs i d ≡ get_or xs i e
get_any [] i d e lt = absurd (omega (arith, lt))
get_any (x ∷ xs) zero d e lt = refl
get_any (x ∷ xs) (suc i) d e lt = get_any xs i d e (omega (arith, lt))

pub climbs_one : (ups : List ℕ) → ups ≡ climbs ups 1
climbs_one ups = sym (mapped_itself (climb ups 1) ups 0 (λ i lt. let z : 0 + i ≡ i = omega arith in ap (climb ups 1) z ∙ get_any ups i (length ups) 0 lt))

-- ---- steps and walks

pub same_bools : (a b : Bool) → (a ≡ true → b ≡ true) → (b ≡ true → a ≡ true) → a ≡ b
same_bools true b f g = sym (f refl)
same_bools false true f g = g refl
same_bools false false f g = refl

module _ (ids : List NodeId) (rise : ascend ids ≡ true) (look : Look) (among : (q : NodeId) (r : Row) → look q ≡ Some r → is_in q ids ≡ true)
    (top : Row) (rooted : look root ≡ Some top) (own : top.parent ≡ root) (at : ℕ) (placed : place_in ids root ≡ Some at) where
  abbrev ups : List ℕ
  ups = map (up_of ids look) ids

  length-ups : length ups ≡ length ids
  length-ups = length-map ids (up_of ids look)

  at_within : at < length ups
  at_within = subst (λ n. at < n) (sym length-ups) (slice_get_within ids at root (place_got root ids at placed))

  up_at : (i : ℕ) (q : NodeId) → slice_get ids i ≡ Some q → get_or ups i (length ups) ≡ up_of ids look q
  up_at i q h = at_map (up_of ids look) ids i q (length ups) h

  never : (m i : ℕ) → length ups ≤ i → nat_eq (climb ups m i) at ≡ false
  never zero i le = not_true _ (λ e. let z : i ≡ at = eqb-true i at e in let w = at_within in omega (arith, z, w, le))
  never (suc m) i le = not_true _ (λ e. let z : length ups ≡ at = sym (climb_end ups m i le) ∙ eqb-true _ at e in let w = at_within in omega (arith, z, w))

  -- so many steps come to the root's place where the walk meets the root within them
  pub climb_meets : (m i : ℕ) (q : NodeId) → slice_get ids i ≡ Some q → nat_eq (climb ups m i) at ≡ meets look root m q
  climb_meets zero i q h = same_bools _ _
      (λ e. let z : i ≡ at = eqb-true i at e in let s : Some q ≡ Some root = sym h ∙ ap (slice_get ids) z ∙ place_got root ids at placed in let same : q ≡ root = cc in ap (λ x. same_node x root) same ∙ node_self root)
      (λ e. eq-eqb i at (stands_once ids i at root rise (h ∙ ap (λ x. Some x) (node_is q root e)) (place_got root ids at placed)))
  climb_meets (suc m) i q h = ap (λ j. nat_eq (climb ups m j) at) (up_at i q h) ∙ elim (node_cases q root) [
    | inl e ↦
        let here : up_of ids look q ≡ at = ap (up_of ids look) e ∙ ap (λ o. unwrap_or (option_and_then (λ (r : Row). place_in ids r.parent) o) (length ids)) rooted ∙ ap (λ p. unwrap_or (place_in ids p) (length ids)) own ∙ ap (λ o. unwrap_or o (length ids)) placed in
        ap (λ j. nat_eq (climb ups m j) at) here ∙ climb_meets m at root (place_got root ids at placed) ∙ meets_here look root m ∙ sym (ap (meets look root (suc m)) e ∙ meets_here look root (suc m))
    | inr off ↦ elim (row_cases look q) [
      | inr none ↦
          let gone : up_of ids look q ≡ length ids = ap (λ o. unwrap_or (option_and_then (λ (r : Row). place_in ids r.parent) o) (length ids)) none in
          ap (λ j. nat_eq (climb ups m j) at) gone ∙ never m (length ids) (subst (λ n. n ≤ length ids) (sym length-ups) (omega arith)) ∙ sym (meets_nowhere look root q (suc m) off none)
      | inl r ↦
          let up : up_of ids look q ≡ unwrap_or (place_in ids r.0.parent) (length ids) = ap (λ o. unwrap_or (option_and_then (λ (r : Row). place_in ids r.parent) o) (length ids)) r.1 in
          ap (λ j. nat_eq (climb ups m j) at) up ∙ parent m r.0.parent (place_in ids r.0.parent) refl (λ j g. climb_meets m j r.0.parent g) ∙ sym (meets_next look root q m r.0 off r.1)
    ]
  ]
    where
      parent : (m : ℕ) (p : NodeId) (o : Option ℕ) → place_in ids p ≡ o → ((j : ℕ) → slice_get ids j ≡ Some p → nat_eq (climb ups m j) at ≡ meets look root m p) → nat_eq (climb ups m (unwrap_or (place_in ids p) (length ids))) at ≡ meets look root m p
      parent m p (Some j) e rest = ap (λ o. nat_eq (climb ups m (unwrap_or o (length ids))) at) e ∙ rest j (place_got p ids j e)
      parent m p None e rest =
          let out : is_in p ids ≡ false = sym (place_there p ids) ∙ ap is_some e in
          let off : p ≢ root = λ z. not_both _ (ap (λ x. is_in x ids) z ∙ get_in ids at root (place_got root ids at placed)) out in
          let none : look p ≡ None = elim (row_cases look p) [ inl w ↦ not_both _ (among p w.0 w.1) out | inr none ↦ none ] in
          ap (λ o. nat_eq (climb ups m (unwrap_or o (length ids))) at) e ∙ never m (length ids) (subst (λ n. n ≤ length ids) (sym length-ups) (omega arith)) ∙ sym (meets_nowhere look root p m off none)

  -- as many steps as there are ids, or more
  pub far_meets : (most : IsAtMost (length ids) look) (m i : ℕ) (q : NodeId) → length ups ≤ m → slice_get ids i ≡ Some q → nat_eq (climb ups m i) at ≡ meets look root (length ids) q
  far_meets most m i q le h =
      let few : length ids ≤ m = subst (λ n. n ≤ m) length-ups le in
      climb_meets m i q h ∙ same_bools _ _ (meets_within (length ids) look most root q m) (meets_by look root q (length ids) m few)

-- what is so of each place is so of each id
pub by_place : {A : Type 0} (f : ℕ → A) (g : NodeId → A) (ids : List NodeId) (a : ℕ) → ((i : ℕ) (q : NodeId) → slice_get ids i ≡ Some q → f (a + i) ≡ g q) → map f (range_with_len a (length ids)) ≡ map g ids
by_place f g [] a h = refl
by_place f g (q ∷ ids) a h =
    let z : a ≡ a + 0 = omega arith in
    let first : f a ≡ g q = ap f z ∙ h 0 q refl in
    let rest = by_place f g ids (a + 1) (λ i p e. let w : (a + 1) + i ≡ a + suc i = omega arith in ap f w ∙ h (suc i) p e) in
    λ i. first i ∷ rest i

pub mapped : {A : Type 0} (f : ℕ → A) (g : ℕ → ℕ) (xs : List ℕ) → map f (map g xs) ≡ map (λ i. f (g i)) xs
mapped f g [] = refl
mapped f g (x ∷ xs) = ap (λ l. f (g x) ∷ l) (mapped f g xs)

pub placed_at : (ids : List NodeId) (q : NodeId) (at : ℕ) → is_in q ids ≡ true → at ≡ unwrap_or (place_in ids q) (length ids) → place_in ids q ≡ Some at
placed_at ids q at in' e = elim (place_in ids q) as (λ o. place_in ids q ≡ o → at ≡ unwrap_or o (length ids) → o ≡ Some at) [
  | None ↦ λ none h. not_both _ in' (sym (place_there q ids) ∙ ap is_some none)
  | Some i ↦ λ some h. ap (λ j. Some j) (sym h)
] refl e
