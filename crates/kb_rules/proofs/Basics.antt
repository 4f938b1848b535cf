-- Tests, lists of ids, and a look whose rows are all in a list.
use Rattle.std.proofs.Common.{◌≡◌, ◌≢◌, ℕ, zero, suc, ◌≤◌, ◌<◌, Bool, true, false, not, List, [], ◌∷◌, length, ◌⊎◌, inl, inr, ◌&&◌, ◌||◌, cond, Option, Some, None, refl, sym, ap, ◌∙◌, arith}
use mathlib.Core.Bool.{true≢false}
use Rattle.std.specs.Prelude.{filter, find}
use borrow.Author.Tests.{eqb-true, eq-eqb}
use Rattle.std.specs.Str.{bytes_eq}
use Rattle.std.specs.List.{list_any}
use Rattle.kb_name.specs.declared.ids.NodeId.{NodeId}
use Rattle.kb_ops.specs.declared.rows.Row.{Row}
use Rattle.kb_name.specs.Nodes.{same_node}
use Rattle.kb_ops.specs.Rows.{Look}
use Rattle.kb_ops.proofs.Nodes.{node_is, node_self, node_other}
use Rattle.kb_ops.proofs.Walks.{IsAtMost, without, without_grows, without_here}
use Rattle.kb_rules.specs.Ready.{is_in}

pub bool_cases : (b : Bool) → (b ≡ true) ⊎ (b ≡ false)
bool_cases true = inl refl
bool_cases false = inr refl

pub not_true : (b : Bool) → (b ≡ true → ⊥) → b ≡ false
not_true true h = absurd (h refl)
not_true false h = refl

pub not_both : {A : Type 0} (b : Bool) → b ≡ true → b ≡ false → A
not_both b t f = absurd (true≢false (sym t ∙ f))

pub both : (a b : Bool) → a ≡ true → b ≡ true → (a && b) ≡ true
both true b h k = k
both false b h k = absurd (true≢false (sym h))

pub first_of_both : (a b : Bool) → (a && b) ≡ true → a ≡ true
first_of_both true b h = refl
first_of_both false b h = h

pub second_of_both : (a b : Bool) → (a && b) ≡ true → b ≡ true
second_of_both true b h = h
second_of_both false b h = absurd (true≢false (sym h))

pub no_first : (a b : Bool) → a ≡ false → (a && b) ≡ false
no_first true b h = absurd (true≢false h)
no_first false b h = refl

pub no_second : (a b : Bool) → b ≡ false → (a && b) ≡ false
no_second true b h = h
no_second false b h = refl

pub not_is : (b : Bool) → b ≡ false → not b ≡ true
not_is b h = ap not h

pub not_was : (b : Bool) → not b ≡ true → b ≡ false
not_was true h = absurd (true≢false (sym h))
not_was false h = refl

pub when : {A : Type 0} (b : Bool) (x y : A) → b ≡ true → cond b x y ≡ x
when b x y h = ap (λ v. cond v x y) h

pub unless : {A : Type 0} (b : Bool) (x y : A) → b ≡ false → cond b x y ≡ y
unless b x y h = ap (λ v. cond v x y) h

pub same_some : {A : Type 0} (x y : A) (o : Option A) → o ≡ Some x → o ≡ Some y → x ≡ y
same_some x y o p q = let e : Some x ≡ Some y = sym p ∙ q in cc

pub none_some : {A B : Type 0} (x : A) (o : Option A) → o ≡ None → o ≡ Some x → B
none_some x o p q = let e : None ≡ Some x = sym p ∙ q in absurd (cc)

-- one of the list passes
pub any_here : {A : Type 0} (f : A → Bool) (xs : List A) → list_any f xs ≡ true → (x : A) × (f x ≡ true)
any_here f [] h = absurd (true≢false (sym h))
any_here f (x ∷ xs) h = elim (bool_cases (f x)) [ inl e ↦ (x, e) | inr e ↦ any_here f xs (sym (ap (λ b. b || list_any f xs) e) ∙ h) ]

pub any_in : (f : NodeId → Bool) (xs : List NodeId) → list_any f xs ≡ true → (x : NodeId) × (is_in x xs ≡ true) × (f x ≡ true)
any_in f [] h = absurd (true≢false (sym h))
any_in f (x ∷ xs) h = elim (bool_cases (f x)) [
  | inl e ↦ (x, ap (λ b. b || is_in x xs) (node_self x), e)
  | inr e ↦ let w = any_in f xs (sym (ap (λ b. b || list_any f xs) e) ∙ h) in (w.0, or_later (same_node w.0 x) _ w.1, w.2)
]
  where
    or_later : (a b : Bool) → b ≡ true → (a || b) ≡ true
    or_later true b h = refl
    or_later false b h = h

pub in_any : (f : NodeId → Bool) (xs : List NodeId) (x : NodeId) → is_in x xs ≡ true → f x ≡ true → list_any f xs ≡ true
in_any f [] x h k = absurd (true≢false (sym h))
in_any f (y ∷ xs) x h k = elim (bool_cases (same_node x y)) [
  | inl e ↦ ap (λ b. b || list_any f xs) (ap f (sym (node_is x y e)) ∙ k)
  | inr e ↦ or_later (f y) _ (in_any f xs x (sym (ap (λ b. b || is_in x xs) e) ∙ h) k)
]
  where
    or_later : (a b : Bool) → b ≡ true → (a || b) ≡ true
    or_later true b h = refl
    or_later false b h = h

pub found_passes : {A : Type 0} (f : A → Bool) (xs : List A) (x : A) → find f xs ≡ Some x → f x ≡ true
found_passes f [] x h = none_some x None refl h
found_passes f (y ∷ xs) x h = elim (bool_cases (f y)) [
  | inl e ↦ let s : Some y ≡ Some x = sym (when _ (Some y) (find f xs) e) ∙ h in let same : y ≡ x = cc in ap f (sym same) ∙ e
  | inr e ↦ found_passes f xs x (sym (unless _ (Some y) (find f xs) e) ∙ h)
]

pub none_passes : (f : NodeId → Bool) (xs : List NodeId) → ((x : NodeId) → f x ≡ false) → find f xs ≡ None
none_passes f [] h = refl
none_passes f (x ∷ xs) h = unless _ (Some x) (find f xs) (h x) ∙ none_passes f xs h

pub none_any : {A : Type 0} (f : A → Bool) (xs : List A) → ((x : A) → f x ≡ false) → list_any f xs ≡ false
none_any f [] h = refl
none_any f (x ∷ xs) h = ap (λ b. b || list_any f xs) (h x) ∙ none_any f xs h

-- the list without what passes a test
abbrev pub dropping : {A : Type 0} → (A → Bool) → List A → List A
dropping f xs = filter (λ x. not (f x)) xs

pub dropping_le : {A : Type 0} (f : A → Bool) (xs : List A) → length (dropping f xs) ≤ length xs
dropping_le f [] = omega arith
dropping_le f (x ∷ xs) =
    let rest = dropping_le f xs in
    elim (f x) as (λ b. length (cond (not b) (x ∷ dropping f xs) (dropping f xs)) ≤ suc (length xs)) [ true ↦ omega (arith, rest) | false ↦ omega (arith, rest) ]

pub dropping_less : {A : Type 0} (f : A → Bool) (xs : List A) → list_any f xs ≡ true → length (dropping f xs) < length xs
dropping_less f [] h = absurd (true≢false (sym h))
dropping_less f (x ∷ xs) h =
    elim (f x) as (λ b. f x ≡ b → length (cond (not b) (x ∷ dropping f xs) (dropping f xs)) < suc (length xs)) [
      | true ↦ λ e. let le = dropping_le f xs in omega (arith, le)
      | false ↦ λ e. let less = dropping_less f xs (sym (ap (λ b. b || list_any f xs) e) ∙ h) in omega (arith, less)
    ] refl

pub dropping_keeps : {A : Type 0} (f g : A → Bool) (xs : List A) → ((y : A) → f y ≡ true → g y ≡ false) → list_any g xs ≡ true → list_any g (dropping f xs) ≡ true
dropping_keeps f g [] apart h = h
dropping_keeps f g (x ∷ xs) apart h =
    elim (f x) as (λ b. f x ≡ b → list_any g (cond (not b) (x ∷ dropping f xs) (dropping f xs)) ≡ true) [
      | true ↦ λ e. dropping_keeps f g xs apart (sym (ap (λ b. b || list_any g xs) (apart x e)) ∙ h)
      | false ↦ λ e. elim (g x) as (λ c. g x ≡ c → (c || list_any g (dropping f xs)) ≡ true) [
        | true ↦ λ k. refl
        | false ↦ λ k. dropping_keeps f g xs apart (sym (ap (λ b. b || list_any g xs) k) ∙ h)
      ] refl
    ] refl

pub in_dropped : (k q : NodeId) (ids : List NodeId) → q ≢ k → is_in q ids ≡ true → is_in q (dropping (same_node k) ids) ≡ true
in_dropped k q ids ne h = dropping_keeps (same_node k) (same_node q) ids (λ y e. node_other q y (λ p. ne (p ∙ sym (node_is k y e)))) h

-- a look whose rows are all in a list has at most as many
pub listed_most : (n : ℕ) (ids : List NodeId) (look : Look) → length ids ≤ n → ((q : NodeId) (r : Row) → look q ≡ Some r → is_in q ids ≡ true) → IsAtMost n look
listed_most zero ids look le in' = λ q. elim (look q) as (λ o. look q ≡ o → o ≡ None) [ Some r ↦ λ e. absurd (empty ids le q (in' q r e)) | None ↦ λ e. refl ] refl
  where
    empty : (xs : List NodeId) → length xs ≤ 0 → (q : NodeId) → is_in q xs ≡ true → ⊥
    empty [] le q h = true≢false (sym h)
    empty (x ∷ xs) le q h = omega (arith, le)
listed_most (suc n) ids look le in' = λ k r h.
    let less = dropping_less (same_node k) ids (in' k r h) in
    listed_most n (dropping (same_node k) ids) (without look k) (omega (arith, le, less)) (λ q s e.
    in_dropped k q ids (λ p. none_some s (without look k q) (ap (without look k) p ∙ without_here look k) e) (in' q s (without_grows look k q s e)))

pub bytes_same : (a b : List ℕ) → bytes_eq a b ≡ true → a ≡ b
bytes_same [] [] h = refl
bytes_same [] (y ∷ b) h = absurd (true≢false (sym h))
bytes_same (x ∷ a) [] h = absurd (true≢false (sym h))
bytes_same (x ∷ a) (y ∷ b) h =
    let e : x ≡ y = eqb-true x y (first_of_both _ _ h) in
    λ i. e i ∷ bytes_same a b (second_of_both _ _ h) i

pub bytes_self : (a : List ℕ) → bytes_eq a a ≡ true
bytes_self [] = refl
bytes_self (x ∷ a) = both _ _ (eq-eqb x x refl) (bytes_self a)
