-- A queue whose first items have left.
use Rattle.std.proofs.Common.{◌≡◌, ℕ, ◌+◌, ◌≤◌, ◌++◌, List, [], ◌∷◌, length, drop, sym, drop-drop}
use Rattle.std.proofs.lemmas.List.{drop-append-le}

-- more of them leave
pub left : {T : Type 0} (n gone : ℕ) (items : List T) → drop (gone + n) items ≡ drop n (drop gone items)
left n gone items = sym (drop-drop n gone items)

-- one comes behind the others
pub come : {T : Type 0} (gone : ℕ) (items : List T) (x : T) → gone ≤ length items → drop gone (items ++ x ∷ []) ≡ drop gone items ++ x ∷ []
come gone items x within = drop-append-le gone items (x ∷ []) within
