-- Rows in slots: what an edit of the slots leaves of the lists.
use Rattle.std.proofs.Common.{◌≡◌, ◌≢◌, ℕ, zero, suc, ◌+◌, ◌≤◌, ◌<◌, true, false, List, [], ◌∷◌, ◌++◌, length, map, take, cond, Some, None, ◌⊎◌, inl, inr, refl, sym, ap, subst, ◌∙◌, arith, slice_get, get_or, set}
use mathlib.Core.Bool.{true≢false}
use Rattle.std.proofs.lemmas.Bool.{eqb-true, eq-eqb}
use Rattle.std.specs.Prelude.{nat_eq}
use Rattle.std.specs.List.{insert, remove}
use Rattle.std.specs.Option.{option_and_then, option_map}
use Rattle.std.specs.declared.cmp.Ordering.{Ordering}
use Rattle.std.specs.Cmp.{IsTotalOrder}
use Rattle.std.specs.Ordering.{is_lt}
use Rattle.std.proofs.lemmas.Option.{slice_get-map}
use Rattle.std.proofs.lemmas.List.{get_or-set_same, get_or-set_other, take_more, map-append}
use Rattle.std.proofs.Math.ListN.{get_or-append}
use Rattle.std.proofs.Math.Seq.{get_or-append_seam}
use Rattle.std.specs.FinMap as map
use Rattle.std.specs.FinMap.Entries as entries
use Rattle.kb_name.specs.declared.ids.NodeId.{NodeId}
use Rattle.kb_ops.specs.declared.rows.Row.{Row}
use Rattle.kb_name.specs.Nodes.{node_cmp}
use Rattle.kb_ops.specs.Trees.{Tree, root_row}
use Rattle.kb_ops.specs.Lists.{keyed, place_of}
use Rattle.kb_ops.specs.Sorted.{place_in_order}
use Rattle.kb_ops.specs.Spots.{spot_of, spotted}
use Rattle.kb_tree.specs.Slots.{row_in, rows_in, ids_in, spot_in, spots_in, AreWithin, AreShown, redirected}
use Rattle.kb_tree.proofs.Entries.{place_at, some_is, none_some}

-- slots with the same rows
pub rows_same : (old new : List Row) (n : ℕ) → ((slot : ℕ) → slot < n → row_in new slot ≡ row_in old slot) → (slots : List ℕ) → AreWithin n slots → rows_in new slots ≡ rows_in old slots
rows_same old new n same [] w = refl
rows_same old new n same (s ∷ slots) w = λ i. same s w.0 i ∷ rows_same old new n same slots w.1 i

-- slots with rows of the same ids
pub ids_same : (old new : List Row) (n : ℕ) → ((slot : ℕ) → slot < n → (row_in new slot).id ≡ (row_in old slot).id) → (slots : List ℕ) → AreWithin n slots → ids_in new slots ≡ ids_in old slots
ids_same old new n same [] w = refl
ids_same old new n same (s ∷ slots) w = λ i. same s w.0 i ∷ ids_same old new n same slots w.1 i

pub within_more : (n m : ℕ) → n ≤ m → (slots : List ℕ) → AreWithin n slots → AreWithin m slots
within_more n m le [] w = tt
within_more n m le (s ∷ slots) w = (omega (arith, w.0), within_more n m le slots w.1)

pub within_with : (n : ℕ) (slots : List ℕ) (i slot : ℕ) → slot < n → AreWithin n slots → AreWithin n (insert slots i slot)
within_with n slots zero slot lt w = (lt, w)
within_with n [] (suc i) slot lt w = (lt, tt)
within_with n (s ∷ slots) (suc i) slot lt w = (w.0, within_with n slots i slot lt w.1)

pub within_without : (n : ℕ) (slots : List ℕ) (i : ℕ) → AreWithin n slots → AreWithin n (remove slots i)
within_without n [] zero w = tt
within_without n [] (suc i) w = tt
within_without n (s ∷ slots) zero w = w.1
within_without n (s ∷ slots) (suc i) w = (w.0, within_without n slots i w.1)

pub within_got : (n : ℕ) (slots : List ℕ) (i slot : ℕ) → AreWithin n slots → slice_get slots i ≡ Some slot → slot < n
within_got n [] i slot w got = absurd (none_some slot got)
within_got n (s ∷ slots) zero slot w got = subst (λ x. x < n) (some_is s slot got) w.0
within_got n (s ∷ slots) (suc i) slot w got = within_got n slots i slot w.1 got

-- what stands at a place in a list of rows comes from the slot at the place
pub slot_at : (rows : List Row) (slots : List ℕ) (i : ℕ) (r : Row) → slice_get (rows_in rows slots) i ≡ Some r → (slot : ℕ) × (slice_get slots i ≡ Some slot) × (row_in rows slot ≡ r)
slot_at rows [] i r got = absurd (none_some r got)
slot_at rows (s ∷ slots) zero r got = (s, refl, some_is (row_in rows s) r got)
slot_at rows (s ∷ slots) (suc i) r got = slot_at rows slots i r got

-- the index as slots have it
pub spotted_is : (t : Tree) (rows : List Row) → AreShown t rows → (slots : List ℕ) → AreWithin (length rows) slots → map (spotted t) (ids_in rows slots) ≡ spots_in rows slots
spotted_is t rows x [] w = refl
spotted_is t rows x (s ∷ slots) w = λ i. (spot_of (x.shown s w.0 i), (row_in rows s).id) ∷ spotted_is t rows x slots w.1 i

-- a new row at the end
pub pushed_below : (rows : List Row) (r : Row) (slot : ℕ) → slot < length rows → row_in (rows ++ r ∷ []) slot ≡ row_in rows slot
pushed_below rows r slot lt = get_or-append rows (r ∷ []) root_row slot lt

pub pushed_end : (rows : List Row) (r : Row) → row_in (rows ++ r ∷ []) (length rows) ≡ r
pushed_end rows r = get_or-append_seam rows r [] root_row

-- no slot is this one
abbrev pub IsAbsent : ℕ → List ℕ → Type 0
IsAbsent x [] = Unit {0}
IsAbsent x (s ∷ slots) = (s ≢ x) × IsAbsent x slots

-- a slot that stands at one place alone is absent from the rest
pub absent_without : (x : ℕ) (slots : List ℕ) (p : ℕ) → ((j : ℕ) → slice_get slots j ≡ Some x → j ≡ p) → IsAbsent x (remove slots p)
absent_without x [] zero only = tt
absent_without x [] (suc p) only = tt
absent_without x (s ∷ slots) zero only = none_in slots (λ j got. let e : suc j ≡ 0 = only (suc j) got in absurd (omega (arith, e)))
  where
    none_in : (xs : List ℕ) → ((j : ℕ) → slice_get xs j ≡ Some x → ⊥) → IsAbsent x xs
    none_in [] never = tt
    none_in (y ∷ ys) never = (λ e. never 0 (ap (λ z. Some z) e), none_in ys (λ j got. never (suc j) got))
absent_without x (s ∷ slots) (suc p) only = (
  λ e. let z : 0 ≡ suc p = only 0 (ap (λ y. Some y) e) in absurd (omega (arith, z)),
  absent_without x slots p (λ j got. let z : suc j ≡ suc p = only (suc j) got in omega (arith, z)),
)

-- another row in a slot that stands at one place alone
pub rows_set : (rows : List Row) (x : ℕ) (r : Row) → x < length rows → (slots : List ℕ) (p : ℕ) → slice_get slots p ≡ Some x → ((j : ℕ) → slice_get slots j ≡ Some x → j ≡ p)
    → rows_in (set rows x r) slots ≡ set (rows_in rows slots) p r
rows_set rows x r lt [] p got only = absurd (none_some x got)
rows_set rows x r lt (s ∷ slots) zero got only =
    let here : row_in (set rows x r) s ≡ r = ap (row_in (set rows x r)) (some_is s x got) ∙ get_or-set_same rows x r root_row lt in
    λ i. here i ∷ others slots (λ j h. let e : suc j ≡ 0 = only (suc j) h in absurd (omega (arith, e))) i
  where
    others : (xs : List ℕ) → ((j : ℕ) → slice_get xs j ≡ Some x → ⊥) → rows_in (set rows x r) xs ≡ rows_in rows xs
    others [] never = refl
    others (y ∷ ys) never = λ i. get_or-set_other rows x y r root_row (λ e. never 0 (ap (λ z. Some z) e)) i ∷ others ys (λ j h. never (suc j) h) i
rows_set rows x r lt (s ∷ slots) (suc p) got only =
    let off : s ≢ x = λ e. let z : 0 ≡ suc p = only 0 (ap (λ y. Some y) e) in absurd (omega (arith, z)) in
    λ i. get_or-set_other rows x s r root_row off i ∷ rows_set rows x r lt slots p got (λ j h. let z : suc j ≡ suc p = only (suc j) h in omega (arith, z)) i

pub nat_cases : (a b : ℕ) → ((nat_eq a b ≡ true) × (a ≡ b)) ⊎ ((nat_eq a b ≡ false) × (a ≢ b))
nat_cases a b = elim (nat_eq a b) as (λ x. nat_eq a b ≡ x → ((x ≡ true) × (a ≡ b)) ⊎ ((x ≡ false) × (a ≢ b))) [
  | true ↦ λ e. inl (refl, eqb-true a b e)
  | false ↦ λ e. inr (refl, λ p. true≢false (sym (eq-eqb a b p) ∙ e))
] refl

-- one slot in place of another, with what the other had
pub map_redirected : {A : Type 0} (f g : ℕ → A) (old new n : ℕ) → (new ≢ old → g new ≡ f old) → ((slot : ℕ) → slot < n → slot ≢ old → slot ≢ new → g slot ≡ f slot)
    → (slots : List ℕ) → AreWithin n slots → IsAbsent new slots → map g (redirected old new slots) ≡ map f slots
map_redirected f g old new n here others [] w none = refl
map_redirected f g old new n here others (s ∷ slots) w none = λ i. one i ∷ map_redirected f g old new n here others slots w.1 none.1 i
  where
    one : g (cond (nat_eq s old) new s) ≡ f s
    one = elim (nat_cases s old) [
      | inl e ↦ ap (λ b. g (cond b new s)) e.0 ∙ here (λ p. none.0 (e.1 ∙ sym p)) ∙ ap f (sym e.1)
      | inr ne ↦ ap (λ b. g (cond b new s)) ne.0 ∙ others s w.0 ne.1 none.0
    ]

-- the last slot is given up, for one that was free
pub within_redirected : (old new : ℕ) → new ≤ old → (slots : List ℕ) → AreWithin (old + 1) slots → IsAbsent new slots → AreWithin old (redirected old new slots)
within_redirected old new le [] w none = tt
within_redirected old new le (s ∷ slots) w none = (one, within_redirected old new le slots w.1 none.1)
  where
    one : cond (nat_eq s old) new s < old
    one = elim (nat_cases s old) [
      | inl e ↦ let ne : new ≢ old = λ p. none.0 (e.1 ∙ sym p) in subst (λ b. cond b new s < old) (sym e.0) (omega (arith, ne))
      | inr ne ↦ let off : s ≢ old = ne.1 in subst (λ b. cond b new s < old) (sym ne.0) (omega (arith, w.0, off))
    ]

-- the row in a slot, where there is the slot
pub slot_row : (rows : List Row) (slot : ℕ) → slot < length rows → slice_get rows slot ≡ Some (row_in rows slot)
slot_row [] slot lt = absurd (omega arith)
slot_row (r ∷ rows) zero lt = refl
slot_row (r ∷ rows) (suc slot) lt = slot_row rows slot (omega arith)

pub at_is : (rows : List Row) (slots : List ℕ) → AreWithin (length rows) slots → (i : ℕ) → option_and_then (slice_get rows) (slice_get slots i) ≡ slice_get (rows_in rows slots) i
at_is rows [] w i = refl
at_is rows (s ∷ slots) w zero = slot_row rows s w.0
at_is rows (s ∷ slots) w (suc i) = at_is rows slots w.1 i

pub spot_of_slot : (rows : List Row) (slot : ℕ) → spot_of (slice_get rows slot) ≡ (spot_in rows slot).0
spot_of_slot [] slot = refl
spot_of_slot (r ∷ rows) zero = refl
spot_of_slot (r ∷ rows) (suc slot) = spot_of_slot rows slot

-- the place of an id among rows is that among their entries
pub place_keyed : (rows : List Row) (slots : List ℕ) (k : NodeId) → place_in_order node_cmp k (map (λ slot. keyed (row_in rows slot)) slots) ≡ place_of k (rows_in rows slots)
place_keyed rows [] k = refl
place_keyed rows (s ∷ slots) k = ap (λ n. cond (is_lt (node_cmp (row_in rows s).id k)) (suc n) 0) (place_keyed rows slots k)

pub keyed_slots : (rows : List Row) (slots : List ℕ) → map keyed (rows_in rows slots) ≡ map (λ slot. keyed (row_in rows slot)) slots
keyed_slots rows [] = refl
keyed_slots rows (s ∷ slots) = ap (λ l. keyed (row_in rows s) ∷ l) (keyed_slots rows slots)

pub within_at : (n : ℕ) (slots : List ℕ) → AreWithin n slots → (i d : ℕ) → i < length slots → get_or slots i d < n
within_at n [] w i d lt = absurd (omega arith)
within_at n (s ∷ slots) w zero d lt = w.0
within_at n (s ∷ slots) w (suc i) d lt = within_at n slots w.1 i d (omega arith)

pub one_more_row : (rows : List Row) (slots : List ℕ) (i : ℕ) → i < length slots → rows_in rows (take (i + 1) slots) ≡ rows_in rows (take i slots) ++ row_in rows (get_or slots i 0) ∷ []
one_more_row rows slots i lt = ap (rows_in rows) (take_more slots i 0 lt) ∙ map-append (row_in rows) (take i slots) (get_or slots i 0 ∷ [])

-- one slot in place of another: at the one place of that, or nowhere
pub redirected_none : (old new : ℕ) (slots : List ℕ) → IsAbsent old slots → redirected old new slots ≡ slots
redirected_none old new [] none = refl
redirected_none old new (s ∷ slots) none = λ i. one (nat_cases s old) i ∷ redirected_none old new slots none.1 i
  where
    one : (((nat_eq s old ≡ true) × (s ≡ old)) ⊎ ((nat_eq s old ≡ false) × (s ≢ old))) → cond (nat_eq s old) new s ≡ s
    one (inl e) = absurd (none.0 e.1)
    one (inr e) = ap (λ b. cond b new s) e.0

pub absent_if : (x : ℕ) (slots : List ℕ) → ((j : ℕ) → slice_get slots j ≡ Some x → ⊥) → IsAbsent x slots
absent_if x [] never = tt
absent_if x (y ∷ ys) never = (λ e. never 0 (ap (λ z. Some z) e), absent_if x ys (λ j got. never (suc j) got))

pub redirected_here : (old new : ℕ) (slots : List ℕ) (p : ℕ) → slice_get slots p ≡ Some old → ((j : ℕ) → slice_get slots j ≡ Some old → j ≡ p) → set slots p new ≡ redirected old new slots
redirected_here old new [] p got only = absurd (none_some old got)
redirected_here old new (s ∷ slots) zero got only =
    let e : s ≡ old = some_is s old got in
    let rest : IsAbsent old slots = absent_if old slots (λ j h. let z : suc j ≡ 0 = only (suc j) h in absurd (omega (arith, z))) in
    λ i. sym (ap (λ b. cond b new s) (eq-eqb s old e)) i ∷ sym (redirected_none old new slots rest) i
redirected_here old new (s ∷ slots) (suc p) got only =
    let off : s ≢ old = λ e. let z : 0 ≡ suc p = only 0 (ap (λ y. Some y) e) in absurd (omega (arith, z)) in
    λ i. sym (keeps off (nat_cases s old)) i ∷ redirected_here old new slots p got (λ j h. let z : suc j ≡ suc p = only (suc j) h in omega (arith, z)) i
  where
    keeps : s ≢ old → (((nat_eq s old ≡ true) × (s ≡ old)) ⊎ ((nat_eq s old ≡ false) × (s ≢ old))) → cond (nat_eq s old) new s ≡ s
    keeps off (inl e) = absurd (off e.1)
    keeps off (inr e) = ap (λ b. cond b new s) e.0

-- a slot stands at the place of its key alone, where the keys rise
pub only_at : {K X : Type 0} (R : K → K → Ordering) (o : IsTotalOrder R) (same : map.IsAntisymmetric R) (f : ℕ → K × X) (slots : List ℕ) → entries.is_sorted R (map f slots) ≡ true
    → (x j : ℕ) → slice_get slots j ≡ Some x → j ≡ place_in_order R (f x).0 (map f slots)
only_at R o same f slots up x j got = sym (place_at R o same (map f slots) up j (f x) (slice_get-map f slots j ∙ ap (option_map f) got))

-- what a look at the place of a slot's key leaves to do
pub redirect_is : {K X : Type 0} (R : K → K → Ordering) (o : IsTotalOrder R) (same : map.IsAntisymmetric R) (f : ℕ → K × X) (slots : List ℕ) → entries.is_sorted R (map f slots) ≡ true
    → (old new p : ℕ) → p ≡ place_in_order R (f old).0 (map f slots) → slice_get slots p ≡ Some old → set slots p new ≡ redirected old new slots
redirect_is R o same f slots up old new p at got = redirected_here old new slots p got (λ j h. only_at R o same f slots up old j h ∙ sym at)

pub redirect_not : {K X : Type 0} (R : K → K → Ordering) (o : IsTotalOrder R) (same : map.IsAntisymmetric R) (f : ℕ → K × X) (slots : List ℕ) → entries.is_sorted R (map f slots) ≡ true
    → (old new p : ℕ) → p ≡ place_in_order R (f old).0 (map f slots) → (slice_get slots p ≡ Some old → ⊥) → slots ≡ redirected old new slots
redirect_not R o same f slots up old new p at never =
    sym (redirected_none old new slots (absent_if old slots (λ j h. never (subst (λ q. slice_get slots q ≡ Some old) (only_at R o same f slots up old j h ∙ sym at) h))))

-- a slot stands at a place, or doesn't
pub slot_cases : (slots : List ℕ) (i x : ℕ) → (slice_get slots i ≡ Some x) ⊎ (slice_get slots i ≡ Some x → ⊥)
slot_cases slots i x = elim (slice_get slots i) as (λ o. (o ≡ Some x) ⊎ (o ≡ Some x → ⊥)) [
  | None ↦ inr (λ e. none_some x e)
  | Some y ↦ elim (nat_cases y x) [ inl e ↦ inl (ap (λ z. Some z) e.1) | inr ne ↦ inr (λ e. ne.1 (some_is y x e)) ]
]
