-- A text that is cut into its fields.
use Rattle.std.proofs.Common.{◌≡◌, ℕ, ◌+◌, ◌-◌, ◌≤◌, List, [], ◌∷◌, ◌++◌, length, get_or, drop, sym, ap, ◌∙◌, arith}
use Rattle.std.specs.Prelude.{slice_range}
use Rattle.std.proofs.lemmas.List.{take-append-drop, drop-drop, drop_more, length-drop, nil_from_length, append-nil}

-- the field from one place to another, and what is behind it
pub cut_at : (bytes field : List ℕ) (i j : ℕ) → i ≤ j → field ≡ slice_range bytes i j → drop i bytes ≡ field ++ drop j bytes
cut_at bytes field i j le is =
    let behind : drop (j - i) (drop i bytes) ≡ drop j bytes = drop-drop (j - i) i bytes ∙ ap (λ (n : ℕ). drop n bytes) (let e : i + (j - i) ≡ j = omega arith in e) in
    sym (take-append-drop (j - i) (drop i bytes)) ∙ ap (λ (l : List ℕ). l ++ drop (j - i) (drop i bytes)) (sym is) ∙ ap (λ (l : List ℕ). field ++ l) behind

pub ends_at : (bytes : List ℕ) (n : ℕ) → length bytes ≡ n → drop n bytes ≡ []
ends_at bytes n is = nil_from_length (drop n bytes) (omega (arith, length-drop n bytes))

pub last_at : (bytes : List ℕ) (n : ℕ) → length bytes ≡ n + 1 → drop n bytes ≡ get_or bytes n 0 ∷ []
last_at bytes n is = drop_more bytes n 0 (omega arith) ∙ ap (λ (l : List ℕ). get_or bytes n 0 ∷ l) (ends_at bytes (n + 1) is)

pub cut_two : (bytes a b : List ℕ) → length bytes ≡ 36 → a ≡ slice_range bytes 0 4 → b ≡ slice_range bytes 4 36 → bytes ≡ a ++ b
cut_two bytes a b long is_a is_b =
    cut_at bytes a 0 4 (omega arith) is_a ∙ ap (λ (l : List ℕ). a ++ l) (cut_at bytes b 4 36 (omega arith) is_b ∙ ap (λ (l : List ℕ). b ++ l) (ends_at bytes 36 long) ∙ simp append-nil)

pub cut_three : (bytes a b c : List ℕ) → length bytes ≡ 40 → a ≡ slice_range bytes 0 4 → b ≡ slice_range bytes 4 36 → c ≡ slice_range bytes 36 40 → bytes ≡ a ++ (b ++ c)
cut_three bytes a b c long is_a is_b is_c =
    cut_at bytes a 0 4 (omega arith) is_a
    ∙ ap (λ (l : List ℕ). a ++ l) (cut_at bytes b 4 36 (omega arith) is_b ∙ ap (λ (l : List ℕ). b ++ l) (cut_at bytes c 36 40 (omega arith) is_c ∙ ap (λ (l : List ℕ). c ++ l) (ends_at bytes 40 long) ∙ simp append-nil))

pub cut_four : (bytes a b c d : List ℕ) → length bytes ≡ 41 → a ≡ slice_range bytes 0 4 → b ≡ slice_range bytes 4 36 → c ≡ slice_range bytes 36 40 → get_or bytes 40 0 ∷ [] ≡ d → bytes ≡ a ++ (b ++ (c ++ d))
cut_four bytes a b c d long is_a is_b is_c is_d =
    cut_at bytes a 0 4 (omega arith) is_a
    ∙ ap (λ (l : List ℕ). a ++ l) (cut_at bytes b 4 36 (omega arith) is_b ∙ ap (λ (l : List ℕ). b ++ l) (cut_at bytes c 36 40 (omega arith) is_c ∙ ap (λ (l : List ℕ). c ++ l) (last_at bytes 40 long ∙ is_d)))
