-- Walks of parents: longer ones, ones after a change, and that one that ends ends within as many steps as there are rows.
use Rattle.std.proofs.Common.{◌≡◌, ◌≢◌, ℕ, zero, suc, ◌+◌, ◌-◌, ◌≤◌, if◌then◌else◌, Bool, true, false, ◌⊎◌, inl, inr, ◌||◌, Option, Some, None, refl, sym, ap, subst, ◌∙◌, arith}
use mathlib.Core.Bool.{true≢false}
use Rattle.std.specs.Option.{option_map_or}
use Rattle.kb_name.specs.declared.ids.NodeId.{NodeId}
use Rattle.kb_ops.specs.declared.rows.Row.{Row}
use Rattle.kb_name.specs.Nodes.{same_node}
use Rattle.kb_ops.specs.Rows.{Look, meets}
use Rattle.kb_ops.proofs.Nodes.{node_self, node_other, node_cases}

-- the rest of a walk, from the row at q
abbrev pub onwards : Look → NodeId → ℕ → Option Row → Bool
onwards look goal n o = option_map_or (λ r. meets look goal n r.parent) o false

pub or_right : (a b : Bool) → a ≡ false → (a || b) ≡ b
or_right true b h = absurd (true≢false h)
or_right false b h = refl

pub or_left : (a b : Bool) → a ≡ true → (a || b) ≡ true
or_left true b h = refl
or_left false b h = absurd (true≢false (sym h))

pub or_no_left : (a b : Bool) → (a || b) ≡ false → a ≡ false
or_no_left true b h = h
or_no_left false b h = refl

pub or_no_right : (a b : Bool) → (a || b) ≡ false → b ≡ false
or_no_right true b h = absurd (true≢false h)
or_no_right false b h = h

-- a walk that ends at its start
pub meets_here : (look : Look) (goal : NodeId) (n : ℕ) → meets look goal n goal ≡ true
meets_here look goal zero = node_self goal
meets_here look goal (suc n) = or_left _ _ (node_self goal)

-- one step more
pub meets_step : (look : Look) (goal q : NodeId) (n : ℕ) (r : Row) → look q ≡ Some r → meets look goal n r.parent ≡ true → meets look goal (suc n) q ≡ true
meets_step look goal q n r is h = elim (node_cases q goal) [
  | inl e ↦ or_left _ _ (subst (λ x. same_node x goal ≡ true) (sym e) (node_self goal))
  | inr ne ↦ or_right _ _ (node_other q goal ne) ∙ ap (onwards look goal n) is ∙ h
]

-- what a longer walk from another place gives
pub meets_next : (look : Look) (goal q : NodeId) (n : ℕ) (r : Row) → q ≢ goal → look q ≡ Some r → meets look goal (suc n) q ≡ meets look goal n r.parent
meets_next look goal q n r ne is = or_right _ _ (node_other q goal ne) ∙ ap (onwards look goal n) is

pub meets_nowhere : (look : Look) (goal q : NodeId) (n : ℕ) → q ≢ goal → look q ≡ None → meets look goal n q ≡ false
meets_nowhere look goal q zero ne is = node_other q goal ne
meets_nowhere look goal q (suc n) ne is = or_right _ _ (node_other q goal ne) ∙ ap (onwards look goal n) is

-- the row at q, or none
pub row_cases : (look : Look) (q : NodeId) → ((r : Row) × (look q ≡ Some r)) ⊎ (look q ≡ None)
row_cases look q = elim (look q) as (λ o. look q ≡ o → ((r : Row) × (look q ≡ Some r)) ⊎ (look q ≡ None)) [ Some r ↦ λ e. inl (r, e) | None ↦ λ e. inr e ] refl

pub meets_more : (look : Look) (goal q : NodeId) (n : ℕ) → meets look goal n q ≡ true → meets look goal (suc n) q ≡ true
meets_more look goal q zero h = or_left _ _ h
meets_more look goal q (suc n) h = elim (node_cases q goal) [
  | inl e ↦ subst (λ x. meets look goal (suc (suc n)) x ≡ true) (sym e) (meets_here look goal (suc (suc n)))
  | inr ne ↦ elim (row_cases look q) [
    | inl w ↦ meets_step look goal q (suc n) w.0 w.1 (meets_more look goal w.0.parent n (sym (meets_next look goal q n w.0 ne w.1) ∙ h))
    | inr none ↦ absurd (true≢false (sym h ∙ meets_nowhere look goal q (suc n) ne none))
  ]
]

pub meets_later : (look : Look) (goal q : NodeId) (n k : ℕ) → meets look goal n q ≡ true → meets look goal (k + n) q ≡ true
meets_later look goal q n zero h = let e : n ≡ 0 + n = omega arith in subst (λ m. meets look goal m q ≡ true) e h
meets_later look goal q n (suc k) h = let e : suc (k + n) ≡ suc k + n = omega arith in subst (λ m. meets look goal m q ≡ true) e (meets_more look goal q (k + n) (meets_later look goal q n k h))

pub meets_by : (look : Look) (goal q : NodeId) (n m : ℕ) → n ≤ m → meets look goal n q ≡ true → meets look goal m q ≡ true
meets_by look goal q n m le h = let e : (m - n) + n ≡ m = omega arith in subst (λ k. meets look goal k q ≡ true) e (meets_later look goal q n (m - n) h)

-- what a step from q to another row gives
pub meets_from : (look : Look) (goal q : NodeId) (n : ℕ) → q ≢ goal → meets look goal (suc n) q ≡ true → (r : Row) × (look q ≡ Some r) × (meets look goal n r.parent ≡ true)
meets_from look goal q n ne h = elim (row_cases look q) [
  | inl w ↦ (w.0, w.1, sym (meets_next look goal q n w.0 ne w.1) ∙ h)
  | inr none ↦ absurd (true≢false (sym h ∙ meets_nowhere look goal q (suc n) ne none))
]

-- more rows do no harm
pub meets_grows : (look new : Look) (goal : NodeId) → ((q : NodeId) (r : Row) → look q ≡ Some r → new q ≡ Some r) → (n : ℕ) (q : NodeId) → meets look goal n q ≡ true → meets new goal n q ≡ true
meets_grows look new goal grows zero q h = h
meets_grows look new goal grows (suc n) q h = elim (node_cases q goal) [
  | inl e ↦ subst (λ x. meets new goal (suc n) x ≡ true) (sym e) (meets_here new goal (suc n))
  | inr ne ↦ let w = meets_from look goal q n ne h in meets_step new goal q n w.0 (grows q w.0 w.1) (meets_grows look new goal grows n w.0.parent w.2)
]

-- all rows but that of k
abbrev pub without : Look → NodeId → Look
without look k q = if same_node q k then None else look q

pub without_other : (look : Look) (k q : NodeId) → q ≢ k → without look k q ≡ look q
without_other look k q ne = ap (λ b. if b then None else look q) (node_other q k ne)

pub without_here : (look : Look) (k : NodeId) → without look k k ≡ None
without_here look k = ap (λ b. if b then None else look k) (node_self k)

pub without_grows : (look : Look) (k q : NodeId) (r : Row) → without look k q ≡ Some r → look q ≡ Some r
without_grows look k q r h = elim (node_cases q k) [
  | inl e ↦ let gone : without look k q ≡ None = subst (λ x. without look k x ≡ None) (sym e) (without_here look k) in cc
  | inr ne ↦ sym (without_other look k q ne) ∙ h
]

-- a walk avoids k, or goes on from k in no more steps
abbrev pub Avoids : Look → NodeId → NodeId → ℕ → NodeId → Type 0
Avoids look goal k m q = (meets (without look k) goal m q ≡ true) ⊎ ((j : ℕ) × (j ≤ m) × (meets look goal j k ≡ true))

pub meets_avoids : (look : Look) (goal k : NodeId) (m : ℕ) (q : NodeId) → meets look goal m q ≡ true → Avoids look goal k m q
meets_avoids look goal k zero q h = inl h
meets_avoids look goal k (suc m) q h = elim (node_cases q k) [
  | inl e ↦ inr (suc m, omega arith, subst (λ x. meets look goal (suc m) x ≡ true) e h)
  | inr ne ↦ elim (node_cases q goal) [
    | inl e ↦ inl (subst (λ x. meets (without look k) goal (suc m) x ≡ true) (sym e) (meets_here (without look k) goal (suc m)))
    | inr off ↦
        let w = meets_from look goal q m off h in
        elim (meets_avoids look goal k m w.0.parent w.2) [
          | inl on ↦ inl (meets_step (without look k) goal q m w.0 (without_other look k q ne ∙ w.1) on)
          | inr met ↦ inr (met.0, omega (arith, met.1), met.2)
        ]
  ]
]

-- at most so many rows: with one of them left out, one less
abbrev pub IsAtMost : ℕ → Look → Type 0
IsAtMost zero look = (q : NodeId) → look q ≡ None
IsAtMost (suc n) look = (k : NodeId) (r : Row) → look k ≡ Some r → IsAtMost n (without look k)

-- a walk that ends does so within n steps, where there are n rows at most
abbrev EndsWithin : ℕ → Type 0
EndsWithin n = (look : Look) → IsAtMost n look → (goal q : NodeId) (m : ℕ) → meets look goal m q ≡ true → meets look goal n q ≡ true

one_more : (n : ℕ) → EndsWithin n → (look : Look) → IsAtMost (suc n) look → (goal q : NodeId) → q ≢ goal → (b m : ℕ) → m ≤ b → meets look goal m q ≡ true → meets look goal (suc n) q ≡ true
one_more n ends look most goal q ne b zero le h = absurd (true≢false (sym h ∙ node_other q goal ne))
one_more n ends look most goal q ne zero (suc m) le h = absurd (omega arith)
one_more n ends look most goal q ne (suc b) (suc m) le h =
    let w = meets_from look goal q m ne h in
    elim (meets_avoids look goal q m w.0.parent w.2) [
      | inl on ↦ meets_step look goal q n w.0 w.1 (meets_grows (without look q) look goal (without_grows look q) n w.0.parent (ends (without look q) (most q w.0 w.1) goal w.0.parent m on))
      | inr met ↦ one_more n ends look most goal q ne b met.0 (omega (arith, met.1)) met.2
    ]

pub meets_within : (n : ℕ) → EndsWithin n
meets_within zero look most goal q m h = elim (node_cases q goal) [
  | inl e ↦ subst (λ x. meets look goal zero x ≡ true) (sym e) (meets_here look goal zero)
  | inr ne ↦ absurd (true≢false (sym h ∙ meets_nowhere look goal q m ne (most q)))
]
meets_within (suc n) look most goal q m h = elim (node_cases q goal) [
  | inl e ↦ subst (λ x. meets look goal (suc n) x ≡ true) (sym e) (meets_here look goal (suc n))
  | inr ne ↦ one_more n (meets_within n) look most goal q ne m m (omega arith) h
]

-- what no walk of n steps from q meets, no walk from q meets
pub never_meets : (n : ℕ) (look : Look) → IsAtMost n look → (goal q : NodeId) → meets look goal n q ≡ false → (m : ℕ) → meets look goal m q ≡ false
never_meets n look most goal q not m = elim (meets look goal m q) as (λ b. meets look goal m q ≡ b → b ≡ false) [
  | true ↦ λ e. absurd (true≢false (sym (meets_within n look most goal q m e) ∙ not))
  | false ↦ λ e. refl
] refl
