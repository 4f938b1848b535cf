-- Numbers in a row.
use Rattle.std.proofs.Common.{◌≡◌, ℕ, zero, suc, ◌+◌, ◌≤◌, [], ◌∷◌, ◌++◌, ap, arith}
use Rattle.std.specs.List.{range_with_len}
use Rattle.kb_tree.specs.Slots.{AreWithin}

pub range_more : (a n m : ℕ) → a + n ≡ m → range_with_len a (suc n) ≡ range_with_len a n ++ m ∷ []
range_more a zero m e = let is : a ≡ m = omega (arith, e) in ap (λ x. x ∷ []) is
range_more a (suc n) m e = ap (λ l. a ∷ l) (range_more (a + 1) n m (omega (arith, e)))

pub within_range : (n a m : ℕ) → a + m ≤ n → AreWithin n (range_with_len a m)
within_range n a zero le = tt
within_range n a (suc m) le = (omega (arith, le), within_range n (a + 1) m (omega (arith, le)))
