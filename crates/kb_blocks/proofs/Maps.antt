-- Maps that a `BTreeMap`'s entries make.
use Rattle.std.proofs.Common.{◌≡◌, ℕ, ◌+◌, ◌-◌, List, [], ◌∷◌, Bool, true, false, cond, refl, ap, sym, ◌∙◌, arith, map, Option, Some, None}
use Rattle.std.specs.Prelude.{is_some}
use Rattle.std.specs.declared.cmp.Ordering.{Ordering}
use Rattle.std.specs.Option.{option_map}
use Rattle.std.specs.FinMap.{FinMap, find, get, insert, remove, len, from_entries, get-from_entries, get-insert, get-remove, len-insert, len-remove, same_map, IsAntisymmetric}
use Rattle.std.specs.Cmp.{IsTotalOrder, eq_by_cmp_equiv}
use Rattle.std.specs.BTreeMap.{is_at}
use Rattle.std.specs.Map.{lookup}

module _ {K A X : Type 0} (R : K → K → Ordering) (total : IsTotalOrder R) (exact : IsAntisymmetric R) (f : A → X) where
  abbrev pub viewed : List (K × A) → List (K × X)
  viewed es = map (λ e. (e.0, f e.1)) es

  pub find-viewed : (es : List (K × A)) (q : K) → find R q (viewed es) ≡ option_map f (lookup (is_at (R q)) es)
  find-viewed [] q = refl
  find-viewed (e ∷ es) q = ap (cond (is_at (R q) e.0) (Some (f e.1))) (find-viewed es q) ∙ outside (is_at (R q) e.0) e.1 (lookup (is_at (R q)) es)
    where
      outside : (b : Bool) (a : A) (o : Option A) → cond b (Some (f a)) (option_map f o) ≡ option_map f (cond b (Some a) o)
      outside true a o = refl
      outside false a o = refl

  pub get-viewed : (es : List (K × A)) (q : K) → get (from_entries {R = R} (viewed es)) q ≡ option_map f (lookup (is_at (R q)) es)
  get-viewed es q = get-from_entries total (viewed es) q ∙ find-viewed es q

  -- entries that differ at one key make maps that differ there
  pub insert-viewed : (es fs : List (K × A)) (k : K) (a : A) → ((q : K) → lookup (is_at (R q)) fs ≡ cond (is_at (R k) q) (Some a) (lookup (is_at (R q)) es)) → from_entries {R = R} (viewed fs) ≡ insert (from_entries (viewed es)) k (f a)
  insert-viewed es fs k a h = same_map total exact _ _ (λ q.
      get-viewed fs q ∙ ap (option_map f) (h q) ∙ outside (is_at (R k) q) (lookup (is_at (R q)) es)
      ∙ ap (λ b. cond b (Some (f a)) (option_map f (lookup (is_at (R q)) es))) ((eq_by_cmp_equiv total).symm k q)
      ∙ sym (get-insert total (from_entries (viewed es)) k (f a) q ∙ ap (cond (is_at (R q) k) (Some (f a))) (get-viewed es q)))
    where
      outside : (b : Bool) (o : Option A) → option_map f (cond b (Some a) o) ≡ cond b (Some (f a)) (option_map f o)
      outside true o = refl
      outside false o = refl

  -- entries that lack one key make a map that lacks it
  pub remove-viewed : (es fs : List (K × A)) (k : K) → ((q : K) → lookup (is_at (R q)) fs ≡ cond (is_at (R k) q) None (lookup (is_at (R q)) es)) → from_entries {R = R} (viewed fs) ≡ remove (from_entries (viewed es)) k
  remove-viewed es fs k h = same_map total exact _ _ (λ q.
      get-viewed fs q ∙ ap (option_map f) (h q) ∙ outside (is_at (R k) q) (lookup (is_at (R q)) es)
      ∙ ap (λ b. cond b None (option_map f (lookup (is_at (R q)) es))) ((eq_by_cmp_equiv total).symm k q)
      ∙ sym (get-remove total (from_entries (viewed es)) k q ∙ ap (cond (is_at (R q) k) None) (get-viewed es q)))
    where
      outside : (b : Bool) (o : Option A) → option_map f (cond b None o) ≡ cond b None (option_map f o)
      outside true o = refl
      outside false o = refl

  pub none_viewed : (o : Option A) → option_map f o ≡ None → o ≡ None
  none_viewed None e = refl
  none_viewed (Some a) e = cc

  pub some_viewed : (o : Option A) → is_some (option_map f o) ≡ is_some o
  some_viewed None = refl
  some_viewed (Some a) = refl

  -- one key more, and one key less
  pub len-insert_new : (m : FinMap R X) (k : K) (v : X) → get m k ≡ None → len (insert m k v) ≡ len m + 1
  len-insert_new m k v none = len-insert total m k v ∙ ap (λ o. cond (is_some o) (len m) (len m + 1)) none

  pub len-remove_as : (m : FinMap R X) (k : K) (b : Bool) (n : ℕ) → is_some (get m k) ≡ b → n + cond b 1 0 ≡ len m → len (remove m k) ≡ n
  len-remove_as m k b n is e = len-remove total m k ∙ ap (λ c. cond c (len m - 1) (len m)) is ∙ less b n (len m) e
    where
      less : (b : Bool) (n l : ℕ) → n + cond b 1 0 ≡ l → cond b (l - 1) l ≡ n
      less true n l e = omega arith
      less false n l e = omega arith
