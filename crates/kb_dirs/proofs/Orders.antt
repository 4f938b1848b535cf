-- Entries in order, one more behind them, and whether the last stands below a name.
use Rattle.std.proofs.Common.{◌≡◌, ℕ, zero, suc, ◌+◌, ◌-◌, ◌<◌, true, List, [], ◌∷◌, ◌++◌, length, take, drop, get_or, Some, refl, ap, sym, subst, ◌∙◌, arith, append_assoc, add-one, drop-cons}
use Rattle.std.specs.List.{AllByRecursion, flat_map}
use Rattle.std.specs.Prelude.{slice_get}
use Rattle.std.specs.Ordering.{nat_cmp, is_lt}
use Rattle.std.specs.Cmp.Lexicographic.{slice_cmp}
use Rattle.std.specs.declared.cmp.Ordering.{Ordering}
use Rattle.std.specs.declared.cmp.Ordering.TheVariants.{Less, Equal, Greater}
use Rattle.kb_dirs.specs.declared.entries.Entry.{Entry}
use Rattle.kb_dirs.specs.Dirs.{AreOrdered}
use Rattle.kb_dirs.specs.Parses.{is_above}

is_less : (o : Ordering) → is_lt o ≡ true → o ≡ Less
is_less Less h = refl
is_less Equal h = cc
is_less Greater h = cc

-- an entry whose name stands behind the last one keeps the order
pub ordered_push : (es : List Entry) (e : Entry) → AreOrdered es → is_above es e.name ≡ true → AreOrdered (es ++ e ∷ [])
ordered_push [] e o h = tt
ordered_push (f ∷ []) e o h = (is_less (slice_cmp nat_cmp f.name e.name) h, tt)
ordered_push (f ∷ g ∷ es) e o h = (o.0, ordered_push (g ∷ es) e o.1 h)

-- in entries in order each name stands behind those before it
pub ordered_at : (es : List Entry) (e : Entry) (more : List Entry) → AreOrdered (es ++ e ∷ more) → is_above es e.name ≡ true
ordered_at [] e more o = refl
ordered_at (f ∷ []) e more o = ap is_lt o.0
ordered_at (f ∷ g ∷ es) e more o = ordered_at (g ∷ es) e more o.1

-- the last entry decides
pub above_last : (es : List Entry) (last : Entry) (name : List ℕ) → slice_get es (length es - 1) ≡ Some last → is_above es name ≡ is_lt (slice_cmp nat_cmp last.name name)
above_last [] last name h = cc
above_last (e ∷ []) last name h = let same : e ≡ last = cc in ap (λ (x : Entry). is_lt (slice_cmp nat_cmp x.name name)) same
above_last (e ∷ f ∷ es) last name h =
    let behind : suc (suc (length es)) - 1 ≡ suc (suc (length es) - 1) = omega arith in
    above_last (f ∷ es) last name (subst (λ n. slice_get (e ∷ f ∷ es) n ≡ Some last) behind h)

-- one entry more is written
pub one_more : {X : Type 0} (f : X → List ℕ) (xs : List X) (i : ℕ) (x : X) (out new whole : List ℕ) → i < length xs → x ≡ get_or xs i x → new ≡ out ++ f x → out ++ flat_map f (drop i xs) ≡ whole → new ++ flat_map f (drop (i + 1) xs) ≡ whole
one_more f xs i x out new whole h is written so =
    let parts = drop-cons xs i x h in
    ap (λ t. t ++ flat_map f (drop (i + 1) xs)) written ∙ append_assoc out (f x) (flat_map f (drop (i + 1) xs))
    ∙ ap (λ y. out ++ (f y ++ flat_map f (drop (i + 1) xs))) is
    ∙ rw add-one (ap (λ t. out ++ flat_map f t) (sym parts)) ∙ so

-- one entry more meets a fact
pub all_take : {X : Type 0} (P : X → Type 0) (xs : List X) (i : ℕ) (x : X) → i < length xs → x ≡ get_or xs i x → P x → AllByRecursion P (take i xs) → AllByRecursion P (take (i + 1) xs)
all_take P [] i x h is p a = absurd (omega arith)
all_take P (y ∷ ys) zero x h is p a = (subst P is p, tt)
all_take P (y ∷ ys) (suc i) x h is p a =
    let more : suc i + 1 ≡ suc (i + 1) = omega arith in
    subst (λ n. AllByRecursion P (take n (y ∷ ys))) (sym more) (a.0, all_take P ys i x (omega arith) is p a.1)

pub all_push : {X : Type 0} (P : X → Type 0) (xs : List X) (x : X) → AllByRecursion P xs → P x → AllByRecursion P (xs ++ x ∷ [])
all_push P [] x a p = (p, tt)
all_push P (y ∷ ys) x a p = (a.0, all_push P ys x a.1 p)
