-- What sealing and opening compute is sealing.
use Rattle.std.proofs.Common.{◌≡◌, ℕ, List, ◌++◌, ◌≤◌, length, take, drop, ap, sym, ◌∙◌, arith}
use Rattle.std.proofs.lemmas.List.{take-append-drop, length-take-le}
use Rattle.kb_seal.specs.Sealing.{tag_of, pad_at, masked, seal_by_hmac}
use Rattle.kb_seal.specs.Laws.{append_inverts, length-hmac, masked_again, length-seal}

pub seals : (key p tag text out : List ℕ) → tag ≡ tag_of key p → text ≡ masked (pad_at key tag) 0 p → out ≡ tag ++ text → out ≡ seal_by_hmac key p
unfolding seal_by_hmac
seals key p tag text out t m e = e ∙ ap (λ x. tag ++ x) m ∙ ap (λ t. t ++ masked (pad_at key t) 0 p) t

pub opens : (key s p tag : List ℕ) → tag ≡ take 32 s → p ≡ masked (pad_at key tag) 0 (drop 32 s) → tag_of key p ≡ tag → s ≡ seal_by_hmac key p
opens key s p tag t m e = seals key p tag (drop 32 s) s (sym e) (sym (ap (masked (pad_at key tag) 0) m ∙ masked_again (pad_at key tag) 0 (drop 32 s))) (sym (ap (λ a. a ++ drop 32 s) t ∙ take-append-drop 32 s))

pub again : (key s p tag plain : List ℕ) → tag ≡ take 32 s → p ≡ masked (pad_at key tag) 0 (drop 32 s) → s ≡ seal_by_hmac key plain → tag_of key p ≡ tag
unfolding seal_by_hmac
again key s p tag plain t m e =
    let long = ap length e ∙ length-seal key plain in
    let enough : 32 ≤ length s = omega arith in
    let parts = append_inverts (take 32 s) (tag_of key plain) (drop 32 s) (masked (pad_at key (tag_of key plain)) 0 plain) (length-take-le 32 s enough ∙ sym (length-hmac key _)) (take-append-drop 32 s ∙ e) in
    let same : tag ≡ tag_of key plain = t ∙ parts.0 in
    let back : p ≡ plain = m ∙ ap (λ x. masked (pad_at key x) 0 (drop 32 s)) same ∙ ap (masked (pad_at key (tag_of key plain)) 0) parts.1 ∙ masked_again (pad_at key (tag_of key plain)) 0 plain in
    ap (tag_of key) back ∙ sym same
