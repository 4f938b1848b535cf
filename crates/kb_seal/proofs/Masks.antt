-- A text with a pad laid over its first bytes.
use Rattle.std.proofs.Common.{◌≡◌, ℕ, zero, suc, ◌+◌, ◌<◌, List, [], ◌∷◌, length, get_or, refl, ap, sym, ◌∙◌, arith, map, ◌++◌, ◌≤◌, take, drop}
use Rattle.std.proofs.lemmas.List.{length-take-le}
use Rattle.std.proofs.Math.ListN.{set}
use Rattle.std.specs.Prelude.{bit_xor}
use Rattle.kb_seal.specs.Sealing.{masked}

abbrev pub half : (ℕ → ℕ) → ℕ → ℕ → List ℕ → List ℕ
half pad zero at s = s
half pad (suc n) at [] = []
half pad (suc n) at (b ∷ bs) = bit_xor b (pad at) ∷ half pad n (at + 1) bs

pub length-half : (pad : ℕ → ℕ) (n at : ℕ) (s : List ℕ) → length (half pad n at s) ≡ length s
length-half pad zero at s = refl
length-half pad (suc n) at [] = refl
length-half pad (suc n) at (b ∷ bs) = ap suc (length-half pad n (at + 1) bs)

pub half_whole : (pad : ℕ → ℕ) (at : ℕ) (s : List ℕ) → half pad (length s) at s ≡ masked pad at s
half_whole pad at [] = refl
half_whole pad at (b ∷ bs) = ap (λ r. bit_xor b (pad at) ∷ r) (half_whole pad (at + 1) bs)

-- one byte more
pub half_more : (pad : ℕ → ℕ) (n at : ℕ) (s : List ℕ) → n < length s → set (half pad n at s) n (bit_xor (get_or (half pad n at s) n 0) (pad (at + n))) ≡ half pad (suc n) at s
half_more pad zero at [] h = absurd (omega arith)
half_more pad zero at (b ∷ bs) h = let e : at + 0 ≡ at = omega arith in ap (λ k. bit_xor b (pad k) ∷ bs) e
half_more pad (suc n) at [] h = absurd (omega arith)
half_more pad (suc n) at (b ∷ bs) h =
    let less : n < length bs = omega arith in
    let e : at + suc n ≡ at + 1 + n = omega arith in
    ap (λ r. bit_xor b (pad at) ∷ r) (ap (λ k. set (half pad n (at + 1) bs) n (bit_xor (get_or (half pad n (at + 1) bs) n 0) (pad k))) e ∙ half_more pad n (at + 1) bs less)

pub masked-map : (mask at : ℕ) (s : List ℕ) → masked (λ _. mask) at s ≡ map (λ b. bit_xor b mask) s
masked-map mask at [] = refl
masked-map mask at (b ∷ bs) = ap (λ r. bit_xor b mask ∷ r) (masked-map mask (at + 1) bs)

-- the first so many bytes of a text, over another
abbrev pub over : ℕ → List ℕ → List ℕ → List ℕ
over zero k s = s
over (suc n) [] s = s
over (suc n) (x ∷ k) [] = []
over (suc n) (x ∷ k) (b ∷ s) = x ∷ over n k s

pub over_more : (n : ℕ) (k s : List ℕ) → n < length k → n < length s → set (over n k s) n (get_or k n 0) ≡ over (suc n) k s
over_more n [] s h l = absurd (omega arith)
over_more n (x ∷ k) [] h l = absurd (omega arith)
over_more zero (x ∷ k) (b ∷ s) h l = refl
over_more (suc n) (x ∷ k) (b ∷ s) h l =
    let h' : n < length k = omega arith in
    let l' : n < length s = omega arith in
    ap (λ r. x ∷ r) (over_more n k s h' l')

pub over_whole : (k s : List ℕ) → length k ≤ length s → over (length k) k s ≡ k ++ drop (length k) s
over_whole [] s h = refl
over_whole (x ∷ k) [] h = absurd (omega arith)
over_whole (x ∷ k) (b ∷ s) h = let h' : length k ≤ length s = omega arith in ap (λ r. x ∷ r) (over_whole k s h')

-- a text with one byte more, under a pad
masked_snoc : (pad : ℕ → ℕ) (at : ℕ) (s : List ℕ) (b : ℕ) → masked pad at (s ++ b ∷ []) ≡ masked pad at s ++ bit_xor b (pad (at + length s)) ∷ []
masked_snoc pad at [] b = let e : at + 0 ≡ at = omega arith in ap (λ k. bit_xor b (pad k) ∷ []) (sym e)
masked_snoc pad at (x ∷ s) b =
    let e : at + 1 + length s ≡ at + length (x ∷ s) = omega arith in
    ap (λ r. bit_xor x (pad at) ∷ r) (masked_snoc pad (at + 1) s b ∙ ap (λ k. masked pad (at + 1) s ++ bit_xor b (pad k) ∷ []) e)

take_more : (n : ℕ) (s : List ℕ) → n < length s → take (suc n) s ≡ take n s ++ get_or s n 0 ∷ []
take_more n [] h = absurd (omega arith)
take_more zero (x ∷ s) h = refl
take_more (suc n) (x ∷ s) h = let h' : n < length s = omega arith in ap (λ r. x ∷ r) (take_more n s h')

-- the next byte of a text under a pad
pub masked_next : (pad : ℕ → ℕ) (n : ℕ) (s : List ℕ) → n < length s → masked pad 0 (take (n + 1) s) ≡ masked pad 0 (take n s) ++ bit_xor (get_or s n 0) (pad n) ∷ []
masked_next pad n s h =
    let long : n ≤ length s = omega arith in
    let e : 0 + length (take n s) ≡ n = ap (λ k. 0 + k) (length-take-le n s long) ∙ (omega arith) in
    let one : n + 1 ≡ suc n = omega arith in
    ap (λ k. masked pad 0 (take k s)) one ∙ ap (masked pad 0) (take_more n s h) ∙ masked_snoc pad 0 (take n s) (get_or s n 0) ∙ ap (λ k. masked pad 0 (take n s) ++ bit_xor (get_or s n 0) (pad k) ∷ []) e
