-- Texts laid over others.
use Rattle.std.proofs.Common.{◌≡◌, ℕ, zero, suc, ◌<◌, ◌++◌, List, [], ◌∷◌, length, take, drop, get_or, refl, ap, ◌∙◌, arith, append-nil}
use Rattle.std.proofs.Math.ListN.{set, drop_of_length-le}
use Rattle.std.proofs.lemmas.List.{take_all}
use Rattle.std.specs.Prelude.{bit_xor}
use Rattle.kb_seal.specs.Laws.{xor_again}
use Rattle.kb_keys.specs.Secrets.{xored}

-- one byte more is laid over
pub xored_more : (i : ℕ) (out text mask : List ℕ) → i < length out → i < length text → i < length mask
    → take (suc i) (set out i (bit_xor (get_or text i 0) (get_or mask i 0))) ++ xored (drop (suc i) text) (drop (suc i) mask) ≡ take i out ++ xored (drop i text) (drop i mask)
xored_more i [] text mask a b c = absurd (omega arith)
xored_more i (o ∷ os) [] mask a b c = absurd (omega arith)
xored_more i (o ∷ os) (t ∷ ts) [] a b c = absurd (omega arith)
xored_more zero (o ∷ os) (t ∷ ts) (m ∷ ms) a b c = refl
xored_more (suc i) (o ∷ os) (t ∷ ts) (m ∷ ms) a b c = ap (λ l. o ∷ l) (xored_more i os ts ms (omega arith) (omega arith) (omega arith))

pub xored_whole : (i : ℕ) (out text mask : List ℕ) → i ≡ length out → i ≡ length text → take i out ++ xored (drop i text) (drop i mask) ≡ out
xored_whole i out text mask a b =
    ap (λ l. take i out ++ xored l (drop i mask)) (drop_of_length-le text (omega arith)) ∙ append-nil (take i out) ∙ take_all i out (omega arith)

pub length-xored : (text mask : List ℕ) → length text ≡ length mask → length (xored text mask) ≡ length text
length-xored [] mask h = refl
length-xored (t ∷ ts) [] h = absurd (omega arith)
length-xored (t ∷ ts) (m ∷ ms) h = ap suc (length-xored ts ms (omega arith))

-- what is laid over twice is taken away
pub xored_again : (text mask : List ℕ) → length text ≡ length mask → xored (xored text mask) mask ≡ text
xored_again [] mask h = refl
xored_again (t ∷ ts) [] h = absurd (omega arith)
xored_again (t ∷ ts) (m ∷ ms) h = let a = xor_again t m in let b = xored_again ts ms (omega arith) in cc
