-- Bytes that pointers hold in order.
use Rattle.std.proofs.Common.{◌≡◌, ℕ, zero, suc, ◌+◌, ◌-◌, ◌*◌, ◌<◌, ◌≤◌, min, List, [], ◌∷◌, ◌++◌, length, take, drop, refl, ap, sym, subst, ◌∙◌, arith}
use Rattle.std.specs.List.{AllByRecursion}
use Rattle.std.proofs.lemmas.List.{take_min, drop_min}
use Rattle.std.proofs.Math.Nat.{lt_of_mul-lt-mul_right}
use Rattle.kb_blocks.specs.declared.pointer.Ptr.{Ptr}
use Rattle.kb_files.specs.Files.{Vault, InOrder, HoldsAt, AreFit, index_text, span}

pub all_push : {X : Type 0} (P : X → Type 0) (xs : List X) (x : X) → AllByRecursion P xs → P x → AllByRecursion P (xs ++ x ∷ [])
all_push P [] x a p = (p, tt)
all_push P (y ∷ ys) x a p = (a.0, all_push P ys x a.1 p)

-- one part more in front
pub in_order_front : (holds : Vault) (size : ℕ) (p : Ptr) (tail : List Ptr) (rest : List ℕ) → 0 < length rest → holds p (take (min size (length rest)) rest) → InOrder holds size tail (drop (min size (length rest)) rest) → InOrder holds size (p ∷ tail) rest
in_order_front holds size p tail rest some here there =
    (some, subst (holds p) (take_min size rest) here, subst (InOrder holds size tail) (drop_min size rest) there)

-- the block of the pointers holds what they hold
pub holds_index : (vault : Vault) (level n : ℕ) (p : Ptr) (ps : List Ptr) (bytes text : List ℕ) → level ≡ suc n → AreFit ps → text ≡ index_text level ps → vault p text → InOrder (HoldsAt vault n) (span n) ps bytes → HoldsAt vault level p bytes
holds_index vault level n p ps bytes text e fit t v order =
    subst (λ k. HoldsAt vault k p bytes) (sym e) (ps, fit, subst (vault p) (t ∙ ap (λ k. index_text k ps) e) v, order)

pub span-above : (level : ℕ) → 0 < level → span level ≡ 64 * span (level - 1)
span-above zero h = absurd (omega arith)
span-above (suc n) h = let e : n ≡ suc n - 1 = omega arith in ap (λ k. 64 * span k) e

-- there is room for a pointer while bytes are left
pub few_more : (n size rest whole : ℕ) → 0 < rest → n * size + rest ≡ whole → whole ≤ 64 * size → n < 64
few_more n size rest whole some count fits = lt_of_mul-lt-mul_right size (omega arith)

pub count_more : (n size rest whole : ℕ) → n * size + rest ≡ whole → 0 < rest - min size rest → (n + 1) * size + (rest - min size rest) ≡ whole
count_more n size rest whole count more = omega arith

pub some_before : (n rest whole : ℕ) → rest ≡ 0 → (n ≡ 0 → rest ≡ whole) → 0 < whole → 0 < n
some_before zero rest whole ended begun full = let h = begun refl in absurd (omega arith)
some_before (suc n) rest whole ended begun full = omega arith
