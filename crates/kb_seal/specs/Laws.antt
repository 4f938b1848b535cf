-- The laws of sealing by HMAC.
use Rattle.std.specs.Prelude.{◌≡◌, ℕ, suc, List, [], ◌∷◌, ◌++◌, ◌+◌, length, bit_xor, refl}
use Rattle.std.proofs.Common.{sym, ap, ◌∙◌, arith, length-append, add_comm}
use Rattle.std.specs.Int.Bits.{xor_assoc, xor_self, xor_zero_r}
use Rattle.sha2.proofs.Facts256.{length-sha256}
use Rattle.kb_seal.specs.Hmac.{hmac}
use Rattle.kb_seal.specs.Sealing.{tag_of, pad_at, masked, seal_by_hmac}

pub length-hmac : (key m : List ℕ) → length (hmac key m) ≡ 32
unfolding hmac
length-hmac key m = length-sha256 _

pub xor_again : (a b : ℕ) → bit_xor (bit_xor a b) b ≡ a
xor_again a b = xor_assoc a b b ∙ ap (bit_xor a) (xor_self b) ∙ xor_zero_r a

pub length-masked : (pad : ℕ → ℕ) (at : ℕ) (s : List ℕ) → length (masked pad at s) ≡ length s
length-masked pad at [] = refl
length-masked pad at (b ∷ bs) = ap suc (length-masked pad (at + 1) bs)

-- a pad that is laid over twice is taken away
pub masked_again : (pad : ℕ → ℕ) (at : ℕ) (s : List ℕ) → masked pad at (masked pad at s) ≡ s
masked_again pad at [] = refl
masked_again pad at (b ∷ bs) = let h = xor_again b (pad at) in let t = masked_again pad (at + 1) bs in cc

pub append_inverts : (a b x y : List ℕ) → length a ≡ length b → a ++ x ≡ b ++ y → (a ≡ b) × (x ≡ y)
append_inverts [] [] x y l e = (refl, e)
append_inverts [] (b ∷ bs) x y l e = absurd (omega arith)
append_inverts (a ∷ at) [] x y l e = absurd (omega arith)
append_inverts (a ∷ at) (b ∷ bs) x y l e =
    let l' : length at ≡ length bs = omega arith in
    let e' : at ++ x ≡ bs ++ y = cc in
    let h : a ≡ b = cc in
    let r = append_inverts at bs x y l' e' in
    (cc, r.1)

pub seal-one_plain : (key p q : List ℕ) → seal_by_hmac key p ≡ seal_by_hmac key q → p ≡ q
unfolding seal_by_hmac
seal-one_plain key p q e =
    let parts = append_inverts (tag_of key p) (tag_of key q) _ _ (length-hmac key _ ∙ sym (length-hmac key _)) e in
    let same : masked (pad_at key (tag_of key p)) 0 p ≡ masked (pad_at key (tag_of key p)) 0 q = parts.1 ∙ ap (λ t. masked (pad_at key t) 0 q) (sym parts.0) in
    sym (masked_again (pad_at key (tag_of key p)) 0 p) ∙ ap (masked (pad_at key (tag_of key p)) 0) same ∙ masked_again (pad_at key (tag_of key p)) 0 q

pub length-seal : (key p : List ℕ) → length (seal_by_hmac key p) ≡ length p + 32
unfolding seal_by_hmac
length-seal key p = length-append (tag_of key p) _ ∙ ap (λ n. n + length (masked (pad_at key (tag_of key p)) 0 p)) (length-hmac key _) ∙ ap (λ n. 32 + n) (length-masked _ 0 p) ∙ add_comm 32 (length p)
