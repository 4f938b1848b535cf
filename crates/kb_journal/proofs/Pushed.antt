-- One piece more.
use Rattle.std.proofs.Common.{◌≡◌, ℕ, ◌+◌, ◌-◌, ◌≤◌, List, [], ◌∷◌, ◌++◌, length, take, drop, sym, ap, ◌∙◌, arith, length-append}
use Rattle.std.specs.Prelude.{slice_range}
use Rattle.std.proofs.lemmas.List.{drop_at, take_all, take-append-le, drop-append-le, length-drop}
use Rattle.kb_log.specs.Pieces.{pieces, AreEnds}

ends_within : (from : ℕ) (bytes ends : List ℕ) → AreEnds from bytes ends → from ≤ length bytes
ends_within from bytes [] are = omega arith
ends_within from bytes (to ∷ ends) are = omega (arith, ends_within to bytes ends are.1)

pub ends_push : (from : ℕ) (bytes ends p : List ℕ) → AreEnds from bytes ends → AreEnds from (bytes ++ p) (ends ++ (length bytes + length p) ∷ [])
ends_push from bytes [] p are = (omega arith, sym (length-append bytes p))
ends_push from bytes (to ∷ ends) p are = (are.0, ends_push to bytes ends p are.1)

-- a piece of the front stays
range_front : (bytes p : List ℕ) (from to : ℕ) → from ≤ to → to ≤ length bytes → slice_range (bytes ++ p) from to ≡ slice_range bytes from to
range_front bytes p from to a b =
    ap (λ (l : List ℕ). take (to - from) l) (drop-append-le from bytes p (omega arith)) ∙ take-append-le (to - from) (drop from bytes) p (omega (arith, length-drop from bytes))

pub pieces_push : (from : ℕ) (bytes ends p : List ℕ) → AreEnds from bytes ends → pieces from (bytes ++ p) (ends ++ (length bytes + length p) ∷ []) ≡ pieces from bytes ends ++ p ∷ []
pieces_push from bytes [] p are =
    ap (λ (l : List ℕ). l ∷ []) (ap (λ (l : List ℕ). take (length bytes + length p - from) l) (drop_at bytes p from (sym are)) ∙ take_all (length bytes + length p - from) p (omega arith))
pieces_push from bytes (to ∷ ends) p are =
    (λ i. range_front bytes p from to are.0 (ends_within to bytes ends are.1) i ∷ pieces_push to bytes ends p are.1 i)

-- the same, of buffers that were changed so
pub pushed_ends : (bytes ends p new_bytes new_ends : List ℕ) (end : ℕ) → new_bytes ≡ bytes ++ p → new_ends ≡ ends ++ end ∷ [] → end ≡ length bytes + length p → AreEnds 0 bytes ends → AreEnds 0 new_bytes new_ends
pushed_ends bytes ends p new_bytes new_ends end b e is are = rw (b, e, is) (ends_push 0 bytes ends p are)

pub pushed_pieces : (bytes ends p new_bytes new_ends : List ℕ) (end : ℕ) → new_bytes ≡ bytes ++ p → new_ends ≡ ends ++ end ∷ [] → end ≡ length bytes + length p → AreEnds 0 bytes ends → pieces 0 new_bytes new_ends ≡ pieces 0 bytes ends ++ p ∷ []
pushed_pieces bytes ends p new_bytes new_ends end b e is are = rw (b, e, is) (pieces_push 0 bytes ends p are)
