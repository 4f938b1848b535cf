-- The shares of views, added up.
use Rattle.std.proofs.Common.{◌≡◌, ◌≢◌, ℕ, zero, suc, ◌+◌, ◌-◌, ◌*◌, ◌^◌, ◌<◌, ◌≤◌, set, max, List, [], ◌∷◌, ◌++◌, refl, ap, sym, ◌∙◌, subst, arith}
use Rattle.std.proofs.lemmas.Nat.{pow-add, pow_pos}
use Rattle.std.proofs.Math.Nat.{mul_assoc, mul_right_comm, mul-pos, add-mul}
use Rattle.std.specs.Prelude.{All}
use mathlib.Core.Option.{some, some-ne-none, some-injective}
use lib.ListN.{get_elem?}
use Rattle.atomic_table.proofs.Lists.{set_else}
use Rattle.kb_turn.specs.declared.view.View.{View}
use Rattle.kb_turn.specs.Views.{weight, total, Weighed, joining}
use Rattle.kb_turn.proofs.Lists.{all_snoc}

module _ {E : Type 0} where
  pub total_set : (e : ℕ) (vs : List (View E)) (i : ℕ) (v w : View E) → get_elem? vs i ≡ some v → total e (set vs i w) + weight e v ≡ total e vs + weight e w
  total_set e [] i v w at = absurd (some-ne-none v (sym at))
  total_set e (x ∷ xs) zero v w at = let same : weight e x ≡ weight e v = ap (weight e) (some-injective x v at) in omega arith
  total_set e (x ∷ xs) (suc i) v w at = let h = total_set e xs i v w at in omega arith

  pub total_snoc : (e : ℕ) (vs : List (View E)) (w : View E) → total e (vs ++ w ∷ []) ≡ total e vs + weight e w
  total_snoc e [] w = omega arith
  total_snoc e (x ∷ xs) w = let h = total_snoc e xs w in omega arith

  weight_at : (e : ℕ) (vs : List (View E)) (i : ℕ) (v : View E) → get_elem? vs i ≡ some v → weight e v ≤ total e vs
  weight_at e [] i v at = absurd (some-ne-none v (sym at))
  weight_at e (x ∷ xs) zero v at = let same : weight e x ≡ weight e v = ap (weight e) (some-injective x v at) in omega arith
  weight_at e (x ∷ xs) (suc i) v at = let h = weight_at e xs i v at in omega arith

  pub weight_up : (e : ℕ) (v : View E) → v.halvings ≤ e → weight (e + 1) v ≡ 2 * weight e v
  weight_up e v le =
      let n : ℕ = e - v.halvings in let is : (e + 1) - v.halvings ≡ n + 1 = omega arith in let p : 2 ^ (n + 1) ≡ 2 ^ n * 2 ^ 1 = pow-add 2 n 1 in
      let a : ℕ = 2 ^ n in let two : 2 ^ (n + 1) ≡ a * 2 = p in
      ap (λ (k : ℕ). v.parts * 2 ^ k) is ∙ (ap (λ (k : ℕ). v.parts * k) two ∙ (sym (mul_assoc v.parts a 2) ∙ (let b : ℕ = v.parts * a in omega arith)))

  pub total_up : (e : ℕ) (vs : List (View E)) → All (λ v. v.halvings ≤ e) vs → total (e + 1) vs ≡ 2 * total e vs
  total_up e [] h = refl
  total_up e (x ∷ xs) h = let a = weight_up e x (h 0 x (omega arith)) in let b = total_up e xs (λ k d lt. h (suc k) d (omega arith)) in omega arith

  all_at : (e : ℕ) (vs : List (View E)) (i : ℕ) (v : View E) → All (λ z. z.halvings ≤ e) vs → get_elem? vs i ≡ some v → v.halvings ≤ e
  all_at e [] i v h at = absurd (some-ne-none v (sym at))
  all_at e (x ∷ xs) zero v h at = subst (λ (z : View E). z.halvings ≤ e) (some-injective x v at) (h 0 x (omega arith))
  all_at e (x ∷ xs) (suc i) v h at = all_at e xs i v (λ k d lt. h (suc k) d (omega arith)) at

  all_set : (e : ℕ) (vs : List (View E)) (i : ℕ) (w : View E) → All (λ z. z.halvings ≤ e) vs → w.halvings ≤ e → All (λ z. z.halvings ≤ e) (set vs i w)
  all_set e [] i w h le k d lt = absurd (omega arith)
  all_set e (x ∷ xs) zero w h le zero d lt = le
  all_set e (x ∷ xs) zero w h le (suc k) d lt = h (suc k) d (omega arith)
  all_set e (x ∷ xs) (suc i) w h le zero d lt = h 0 x (omega arith)
  all_set e (x ∷ xs) (suc i) w h le (suc k) d lt = all_set e xs i w (λ l c m. h (suc l) c (omega arith)) le k d (omega arith)

  all_up : (e : ℕ) (vs : List (View E)) → All (λ z. z.halvings ≤ e) vs → All (λ z. z.halvings ≤ e + 1) vs
  all_up e vs h k d lt = let a = h k d lt in omega arith

  -- a view whose share stays
  pub weighed_set : (n : ℕ) (vs : List (View E)) (id : ℕ) (v w : View E) → get_elem? vs id ≡ some v → w.parts ≡ v.parts → w.halvings ≡ v.halvings → Weighed n vs → Weighed n (set vs id w)
  weighed_set n vs id v w at parts halvings h = let e = h.0 in let le = all_at e vs id v h.1 at in
      let same : weight e w ≡ weight e v = ap (λ (k : ℕ). k * 2 ^ (e - w.halvings)) parts ∙ ap (λ (k : ℕ). v.parts * 2 ^ (e - k)) halvings in
      let t = total_set e vs id v w at in let sum = h.2 in (e, all_set e vs id w h.1 (omega arith), omega arith)

  same_weight : (e : ℕ) (v : View E) (p h : ℕ) → v.parts ≡ p → v.halvings ≡ h → weight e v ≡ p * 2 ^ (e - h)
  same_weight e v p h parts halvings = ap (λ (k : ℕ). k * 2 ^ (e - v.halvings)) parts ∙ ap (λ (k : ℕ). p * 2 ^ (e - k)) halvings

  -- a view whose share is halved, and one that has the other half
  pub weighed_split : (n : ℕ) (vs : List (View E)) (id : ℕ) (v l r : View E) → get_elem? vs id ≡ some v → l.parts ≡ v.parts → l.halvings ≡ v.halvings + 1 → r.parts ≡ v.parts → r.halvings ≡ v.halvings + 1
      → Weighed n vs → Weighed n (set vs id l ++ r ∷ [])
  weighed_split n vs id v l r at lp lh rp rh h = let e = h.0 in let le = all_at e vs id v h.1 at in
      let is : (e + 1) - (v.halvings + 1) ≡ e - v.halvings = omega arith in
      let same : v.parts * 2 ^ ((e + 1) - (v.halvings + 1)) ≡ weight e v = ap (λ (k : ℕ). v.parts * 2 ^ k) is in
      let left : weight (e + 1) l ≡ weight e v = same_weight (e + 1) l v.parts (v.halvings + 1) lp lh ∙ same in
      let right : weight (e + 1) r ≡ weight e v = same_weight (e + 1) r v.parts (v.halvings + 1) rp rh ∙ same in
      let double = weight_up e v le in let up = total_up e vs h.1 in let a = total_set (e + 1) vs id v l at in let b = total_snoc (e + 1) (set vs id l) r in let sum = h.2 in
      let two : 2 ^ (e + 1) ≡ 2 ^ e * 2 = pow-add 2 e 1 in let q : ℕ = 2 ^ e in
      let whole : n * 2 ^ (e + 1) ≡ 2 * (n * q) = ap (λ (k : ℕ). n * k) two ∙ (sym (mul_assoc n q 2) ∙ (let z : ℕ = n * q in omega arith)) in
      let sum' : total e vs ≡ n * q = sum in let z : ℕ = n * q in
      (e + 1, all_snoc (λ z. z.halvings ≤ e + 1) (set vs id l) r (all_set (e + 1) vs id l (all_up e vs h.1) (omega arith)) (omega arith), (let t : total (e + 1) (set vs id l ++ r ∷ []) ≡ 2 * z = omega arith in t ∙ sym whole))

  -- one view more, with no share
  pub weighed_more : (n : ℕ) (vs : List (View E)) (r : View E) → r.parts ≡ 0 → r.halvings ≡ 0 → Weighed n vs → Weighed n (vs ++ r ∷ [])
  weighed_more n vs r rp rh h = let e = h.0 in let none' : weight e r ≡ 0 * 2 ^ (e - 0) = same_weight e r 0 0 rp rh in let q : ℕ = 2 ^ (e - 0) in let none'' : weight e r ≡ 0 = none' ∙ (let z : 0 * q ≡ 0 = omega arith in z) in
      let b = total_snoc e vs r in let sum = h.2 in
      (e, all_snoc (λ z. z.halvings ≤ e) vs r h.1 (omega arith), (let t : total e (vs ++ r ∷ []) ≡ total e vs = omega arith in t ∙ sum))

  whole_weight : (e : ℕ) (v : View E) (p : ℕ) → v.parts ≡ p → v.halvings ≡ 0 → weight e v ≡ p * 2 ^ e
  whole_weight e v p parts halvings = same_weight e v p 0 parts halvings ∙ (let z : e - 0 ≡ e = omega arith in ap (λ (k : ℕ). p * 2 ^ k) z)

  -- a view without halves gives one share away
  pub weighed_hand : (n : ℕ) (vs : List (View E)) (id : ℕ) (v l r : View E) → get_elem? vs id ≡ some v → 0 < v.parts → v.halvings ≡ 0 → l.parts ≡ v.parts - 1 → l.halvings ≡ 0 → r.parts ≡ 1 → r.halvings ≡ 0
      → Weighed n vs → Weighed n (set vs id l ++ r ∷ [])
  weighed_hand n vs id v l r at pos vh lp lh rp rh h = let e = h.0 in let q : ℕ = 2 ^ e in let p : ℕ = v.parts in
      let old : weight e v ≡ p * q = whole_weight e v p refl vh in let left : weight e l ≡ (p - 1) * q = whole_weight e l (p - 1) lp lh in let right : weight e r ≡ 1 * q = whole_weight e r 1 rp rh in
      let is : (p - 1) + 1 ≡ p = omega arith in let split : (p - 1) * q + 1 * q ≡ p * q = sym (add-mul (p - 1) 1 q) ∙ ap (λ (k : ℕ). k * q) is in
      let a = total_set e vs id v l at in let b = total_snoc e (set vs id l) r in let sum = h.2 in let x : ℕ = p * q in let y : ℕ = (p - 1) * q in let one : 1 * q ≡ q = omega arith in
      let old' : weight e v ≡ x = old in let left' : weight e l ≡ y = left in let split' : y + q ≡ x = ap (λ (k : ℕ). y + k) (sym one) ∙ split in
      (e, all_snoc (λ z. z.halvings ≤ e) (set vs id l) r (all_set e vs id l h.1 (omega arith)) (omega arith), (let right' : weight e r ≡ q = right ∙ one in let t : total e (set vs id l ++ r ∷ []) ≡ total e vs = omega arith in t ∙ sum))

  -- the share of two views that are joined
  pub weight_joined : (e : ℕ) (v w : View E) → v.halvings ≤ e → w.halvings ≤ e → weight e (joining v w) ≡ weight e v + weight e w
  weight_joined e v w a b = let m : ℕ = max v.halvings w.halvings in let x : ℕ = m - v.halvings in let y : ℕ = m - w.halvings in let z : ℕ = e - m in
      let le : m ≤ e = omega arith in
      let first : x + z ≡ e - v.halvings = omega arith in let second : y + z ≡ e - w.halvings = omega arith in
      let one : v.parts * 2 ^ x * 2 ^ z ≡ v.parts * 2 ^ (e - v.halvings) = mul_assoc v.parts (2 ^ x) (2 ^ z) ∙ ap (λ (k : ℕ). v.parts * k) (sym (pow-add 2 x z) ∙ ap (λ (k : ℕ). 2 ^ k) first) in
      let two : w.parts * 2 ^ y * 2 ^ z ≡ w.parts * 2 ^ (e - w.halvings) = mul_assoc w.parts (2 ^ y) (2 ^ z) ∙ ap (λ (k : ℕ). w.parts * k) (sym (pow-add 2 y z) ∙ ap (λ (k : ℕ). 2 ^ k) second) in
      add-mul (v.parts * 2 ^ x) (w.parts * 2 ^ y) (2 ^ z) ∙ (λ i. one i + two i)

  pub weighed_join : (n : ℕ) (vs : List (View E)) (id other : ℕ) (v w x : View E) → get_elem? vs id ≡ some v → get_elem? (set vs id (joining v w)) other ≡ some w → ¬ (other ≡ id) → x.parts ≡ 0 → x.halvings ≡ 0
      → Weighed n vs → Weighed n (set (set vs id (joining v w)) other x)
  weighed_join n vs id other v w x at at' ne xp xh h = let e = h.0 in let j : View E = joining v w in let le = all_at e vs id v h.1 at in
      let at'' : get_elem? vs other ≡ some w = sym (set_else vs id other j ne) ∙ at' in let le' = all_at e vs other w h.1 at'' in
      let a = total_set e vs id v j at in let b = total_set e (set vs id j) other w x at' in let sum = h.2 in let both = weight_joined e v w le le' in
      let none' : weight e x ≡ 0 = whole_weight e x 0 xp xh ∙ (let q : ℕ = 2 ^ e in omega arith) in
      let less : max v.halvings w.halvings ≤ e = omega arith in
      (e, all_set e (set vs id j) other x (all_set e vs id j h.1 less) (omega arith), (let t : total e (set (set vs id j) other x) ≡ total e vs = omega arith in t ∙ sum))

  -- two views have no more than all
  pub two_weights : (e : ℕ) (vs : List (View E)) (i j : ℕ) (v w : View E) → i ≢ j → get_elem? vs i ≡ some v → get_elem? vs j ≡ some w → weight e v + weight e w ≤ total e vs
  two_weights e [] i j v w ne a b = absurd (some-ne-none v (sym a))
  two_weights e (x ∷ xs) zero zero v w ne a b = absurd (ne refl)
  two_weights e (x ∷ xs) zero (suc j) v w ne a b = let same : weight e x ≡ weight e v = ap (weight e) (some-injective x v a) in let h = weight_at e xs j w b in omega arith
  two_weights e (x ∷ xs) (suc i) zero v w ne a b = let same : weight e x ≡ weight e w = ap (weight e) (some-injective x w b) in let h = weight_at e xs i v a in omega arith
  two_weights e (x ∷ xs) (suc i) (suc j) v w ne a b = let h = two_weights e xs i j v w (λ e'. ne (ap suc e')) a b in omega arith

  weight_raise : (e k : ℕ) (v : View E) → v.halvings ≤ e → weight (e + k) v ≡ weight e v * 2 ^ k
  weight_raise e k v le = let n : ℕ = e - v.halvings in let is : (e + k) - v.halvings ≡ n + k = omega arith in
      ap (λ (z : ℕ). v.parts * 2 ^ z) is ∙ (ap (λ (z : ℕ). v.parts * z) (pow-add 2 n k) ∙ sym (mul_assoc v.parts (2 ^ n) (2 ^ k)))

  total_raise : (e k : ℕ) (vs : List (View E)) → All (λ v. v.halvings ≤ e) vs → total (e + k) vs ≡ total e vs * 2 ^ k
  total_raise e k [] h = let q : ℕ = 2 ^ k in omega arith
  total_raise e k (x ∷ xs) h = (λ i. weight_raise e k x (h 0 x (omega arith)) i + total_raise e k xs (λ l d lt. h (suc l) d (omega arith)) i) ∙ sym (add-mul (weight e x) (total e xs) (2 ^ k))

  -- a view that has all shares leaves none to another
  pub no_other : (n e : ℕ) (vs : List (View E)) (i j : ℕ) (v w : View E) → Weighed n vs → i ≢ j → get_elem? vs i ≡ some v → get_elem? vs j ≡ some w → v.halvings ≤ e → weight e v ≡ n * 2 ^ e → 0 < w.parts → ⊥
  no_other n e vs i j v w h ne a b le all pos = let d = h.0 in let m : ℕ = e + d in
      let mine : weight m v ≡ n * 2 ^ e * 2 ^ d = weight_raise e d v le ∙ ap (λ (k : ℕ). k * 2 ^ d) all in
      let whole : total (d + e) vs ≡ n * 2 ^ d * 2 ^ e = total_raise d e vs h.1 ∙ ap (λ (k : ℕ). k * 2 ^ e) h.2 in
      let swap : n * 2 ^ d * 2 ^ e ≡ n * 2 ^ e * 2 ^ d = mul_right_comm n (2 ^ d) (2 ^ e) in
      let order : d + e ≡ m = omega arith in
      let whole' : total m vs ≡ n * 2 ^ e * 2 ^ d = ap (λ (k : ℕ). total k vs) (sym order) ∙ (whole ∙ swap) in
      let both = two_weights m vs i j v w ne a b in
      let some_left : 0 < weight m w = mul-pos pos (pow_pos (m - w.halvings)) in
      let x : ℕ = n * 2 ^ e * 2 ^ d in let p : weight m v ≡ x = mine in let q : total m vs ≡ x = whole' in omega arith
