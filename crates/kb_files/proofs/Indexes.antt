-- Pointers and their spelling.
use Rattle.std.proofs.Common.{◌≡◌, ℕ, zero, suc, ◌+◌, ◌-◌, ◌*◌, ◌<◌, ◌≤◌, ◌^◌, List, [], ◌∷◌, ◌++◌, length, take, drop, get_or, refl, ap, sym, subst, ◌∙◌, arith, length-append}
use Rattle.std.specs.List.{AllByRecursion}
use Rattle.std.specs.Int.{w32, to_be_bytes, from_be_bytes}
use Rattle.std.proofs.lemmas.List.{take_at, drop_at, take-append-drop, length-take-le, length-drop, take_all, take_rest, get_or-drop}
use Rattle.std.proofs.lemmas.Nat.{be_bytes_4, from_be_bytes-to_be_bytes_4}
use Rattle.kb_blocks.specs.declared.pointer.Ptr.{Ptr}
use Rattle.kb_files.specs.Files.{IsFit, AreFit, pointer, pointers, ptr_at, ptrs_of, index_text}

abbrev pub IsBytes : List ℕ → Type 0
IsBytes bytes = (i : ℕ) → get_or bytes i 0 < 256

pub length-pointer : (p : Ptr) → IsFit p → length (pointer p) ≡ 36
length-pointer p fit = length-append p.id (to_be_bytes w32 p.generation) ∙ ap (λ n. n + 4) fit.id

pub ptr_at-pointer : (p : Ptr) → IsFit p → ptr_at (pointer p) ≡ p
ptr_at-pointer p fit =
    let front : take 32 (pointer p) ≡ p.id = take_at p.id (to_be_bytes w32 p.generation) 32 fit.id in
    let back : drop 32 (pointer p) ≡ to_be_bytes w32 p.generation = drop_at p.id (to_be_bytes w32 p.generation) 32 fit.id in
    let number : from_be_bytes w32 (take 4 (drop 32 (pointer p))) ≡ p.generation = ap (λ b. from_be_bytes w32 (take 4 b)) back ∙ from_be_bytes-to_be_bytes_4 p.generation fit.generation in
    ap (λ id. record { id = id; generation = from_be_bytes w32 (take 4 (drop 32 (pointer p))) }) front ∙ ap (λ n. record p { generation = n }) number

-- what is spelled is read
pub ptrs_of-pointers : (ps : List Ptr) → AllByRecursion IsFit ps → ptrs_of (length ps) (pointers ps) ≡ ps
ptrs_of-pointers [] fit = refl
ptrs_of-pointers (p ∷ ps) fit =
    let size = length-pointer p fit.0 in
    ap (λ b. ptr_at b ∷ ptrs_of (length ps) (drop 36 (pointer p ++ pointers ps))) (take_at (pointer p) (pointers ps) 36 size)
    ∙ ap (λ q. q ∷ ptrs_of (length ps) (drop 36 (pointer p ++ pointers ps))) (ptr_at-pointer p fit.0)
    ∙ ap (λ b. p ∷ ptrs_of (length ps) b) (drop_at (pointer p) (pointers ps) 36 size)
    ∙ ap (λ qs. p ∷ qs) (ptrs_of-pointers ps fit.1)

pub length-ptrs_of : (n : ℕ) (bytes : List ℕ) → length (ptrs_of n bytes) ≡ n
length-ptrs_of zero bytes = refl
length-ptrs_of (suc n) bytes = ap suc (length-ptrs_of n (drop 36 bytes))

pub length-pointers : (ps : List Ptr) → AllByRecursion IsFit ps → length (pointers ps) ≡ 36 * length ps
length-pointers [] fit = refl
length-pointers (p ∷ ps) fit = let h = length-pointer p fit.0 in let t = length-pointers ps fit.1 in let a = length-append (pointer p) (pointers ps) in omega arith

pub IsBytes-take : (n : ℕ) (bytes : List ℕ) → IsBytes bytes → IsBytes (take n bytes)
IsBytes-take zero bytes fits i = omega arith
IsBytes-take (suc n) [] fits i = omega arith
IsBytes-take (suc n) (b ∷ bytes) fits zero = fits 0
IsBytes-take (suc n) (b ∷ bytes) fits (suc i) = IsBytes-take n bytes (λ j. fits (suc j)) i

pub IsBytes-drop : (n : ℕ) (bytes : List ℕ) → IsBytes bytes → IsBytes (drop n bytes)
IsBytes-drop n bytes fits i = rw (get_or-drop n bytes i 0) (fits (n + i))

-- what is read is spelled so
pub pointer-ptr_at : (bytes : List ℕ) → IsBytes bytes → length bytes ≡ 36 → (pointer (ptr_at bytes) ≡ bytes) × IsFit (ptr_at bytes)
pointer-ptr_at bytes fits size =
    let four : length (drop 32 bytes) ≡ 4 = omega (arith, length-drop 32 bytes) in
    let all : take 4 (drop 32 bytes) ≡ drop 32 bytes = take_all 4 (drop 32 bytes) (omega arith) in
    let small = IsBytes-drop 32 bytes fits in
    let number : to_be_bytes w32 (from_be_bytes w32 (take 4 (drop 32 bytes))) ≡ drop 32 bytes = be_bytes_4 (drop 32 bytes) _ four small (ap (from_be_bytes w32) all) in
    (ap (λ b. take 32 bytes ++ b) number ∙ take-append-drop 32 bytes, record { id = length-take-le 32 bytes (omega arith); generation = below (take 4 (drop 32 bytes)) (IsBytes-take 4 (drop 32 bytes) small) })
  where
    below : (b : List ℕ) → IsBytes b → from_be_bytes w32 b < 2 ^ 32
    below b fits = omega (arith, fits 0, fits 1, fits 2, fits 3)

pub pointers-ptrs_of : (n : ℕ) (bytes : List ℕ) → IsBytes bytes → length bytes ≡ 36 * n → (pointers (ptrs_of n bytes) ≡ bytes) × AllByRecursion IsFit (ptrs_of n bytes)
pointers-ptrs_of zero [] fits size = (refl, tt)
pointers-ptrs_of zero (b ∷ bytes) fits size = absurd (omega arith)
pointers-ptrs_of (suc n) bytes fits size =
    let first = pointer-ptr_at (take 36 bytes) (IsBytes-take 36 bytes fits) (length-take-le 36 bytes (omega arith)) in
    let others = pointers-ptrs_of n (drop 36 bytes) (IsBytes-drop 36 bytes fits) (omega (arith, length-drop 36 bytes)) in
    (ap (λ b. b ++ pointers (ptrs_of n (drop 36 bytes))) first.0 ∙ ap (λ b. take 36 bytes ++ b) others.0 ∙ take-append-drop 36 bytes, (first.1, others.1))

-- a text by its first three bytes
pub by_head : (text : List ℕ) (level : ℕ) → 3 ≤ length text → get_or text 0 0 ≡ 73 → get_or text 1 0 ≡ level → text ≡ 73 ∷ level ∷ get_or text 2 0 ∷ drop 3 text
by_head [] level h a b = absurd (omega arith)
by_head (x ∷ []) level h a b = absurd (omega arith)
by_head (x ∷ y ∷ []) level h a b = absurd (omega arith)
by_head (x ∷ y ∷ z ∷ text) level h a b = ap (λ n. n ∷ y ∷ z ∷ text) a ∙ ap (λ n. 73 ∷ n ∷ z ∷ text) b

pub index_read : (text : List ℕ) (level : ℕ) (ps : List Ptr) → IsBytes text → 3 ≤ length text → get_or text 0 0 ≡ 73 → get_or text 1 0 ≡ level
    → (get_or text 2 0 ≡ 0 → ⊥) → get_or text 2 0 ≤ 64 → length (take (length text - 3) (drop 3 text)) ≡ 36 * get_or text 2 0
    → ps ≡ ptrs_of (get_or text 2 0) (take (length text - 3) (drop 3 text)) → AreFit ps × (text ≡ index_text level ps)
index_read text level ps fits h a b some few size is =
    let n = get_or text 2 0 in
    let body : take (length text - 3) (drop 3 text) ≡ drop 3 text = take_rest text 3 in
    let made : ps ≡ ptrs_of n (drop 3 text) = is ∙ ap (ptrs_of n) body in
    let both = pointers-ptrs_of n (drop 3 text) (IsBytes-drop 3 text fits) (sym (ap length body) ∙ size) in
    let long : length ps ≡ n = ap length made ∙ length-ptrs_of n (drop 3 text) in
    let back : pointers ps ≡ drop 3 text = ap pointers made ∙ both.0 in (
      record { some = positive n (length ps) long some; few = omega arith; each = subst (AllByRecursion IsFit) (sym made) both.1 },
      by_head text level h a b ∙ ap (λ k. 73 ∷ level ∷ k ∷ drop 3 text) (sym long) ∙ ap (λ t. 73 ∷ level ∷ length ps ∷ t) (sym back),
    )
  where
    positive : (n k : ℕ) → k ≡ n → (n ≡ 0 → ⊥) → 0 < k
    positive zero k e h = absurd (h refl)
    positive (suc n) k e h = omega arith

pub index_sizes : (text : List ℕ) (level : ℕ) (ps : List Ptr) → AreFit ps → text ≡ index_text level ps → (get_or text 2 0 ≡ length ps) × (length (take (length text - 3) (drop 3 text)) ≡ 36 * length ps)
index_sizes text level ps fit e =
    (ap (λ t. get_or t 2 0) e, ap length (take_rest text 3) ∙ ap (λ t. length (drop 3 t)) e ∙ length-pointers ps fit.each)
