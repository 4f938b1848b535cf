-- Conflicted names of different numbers differ.
use Rattle.std.proofs.Common.{◌≡◌, ℕ, ◌+◌, ◌-◌, ◌/◌, ◌%◌, ◌^◌, ◌<◌, ◌≤◌, nat_le, nat_eq, Bool, true, false, not, ◌&&◌, cond, List, [], ◌∷◌, ◌++◌, length, codes, decimal, refl, sym, subst, ◌∙◌, arith, append_assoc}
use Rattle.std.specs.List.{list_all}
use Rattle.std.proofs.lemmas.Bool.{ne_eqb, leb-true, not_from_false, false≢true}
use Rattle.std.proofs.lemmas.List.{append_cancel_right}
use Rattle.std.proofs.lemmas.List.Folds.{list_all-append, list_all_at}
use Rattle.std.proofs.lemmas.Fmt.{decimal_by_steps, decimal_injective}
use Rattle.kb_name.specs.Conflicted.{Day, day_of, day_text, extension, stem, cut_to, dated, added, conflicted_text}

abbrev pub is_digit : ℕ → Bool
is_digit b = nat_le 48 b && nat_le b 57

digit_is : (n : ℕ) → n < 10 → is_digit (48 + n) ≡ true
digit_is n h = grind arith

pub digits_of_number : (n : ℕ) → n < 2 ^ 64 → list_all is_digit (decimal n) ≡ true
digits_of_number = decimal_by_steps (λ n ds. list_all is_digit ds ≡ true)
    (λ n h. rw (digit_is n h) refl)
    (λ n ds h was. rw (list_all-append is_digit ds ((48 + n % 10) ∷ []), was, digit_is (n % 10) (omega arith)) refl)

abbrev no_space : ℕ → Bool
no_space b = not (nat_eq b 32)

pub weaker : (p q : ℕ → Bool) → ((b : ℕ) → p b ≡ true → q b ≡ true) → (bs : List ℕ) → list_all p bs ≡ true → list_all q bs ≡ true
weaker p q h [] e = refl
weaker p q h (b ∷ bs) e =
    elim (p b) as (λ t. p b ≡ t → list_all q (b ∷ bs) ≡ true) [
      | true ↦ λ t. rw (h b t) (weaker p q h bs (rw t at e))
      | false ↦ λ t. let f : false ≡ true = rw t at e in cc
    ] refl

digit_no_space : (b : ℕ) → is_digit b ≡ true → no_space b ≡ true
digit_no_space b h = grind arith

never : (t : Bool) → (t && false) ≡ true → ⊥
never true e = cc
never false e = cc

-- what a text without a space is not: one with a space
has_space : (a u v : List ℕ) → list_all no_space u ≡ true → u ≡ a ++ 32 ∷ v → ⊥
has_space a u v p e =
    let all : list_all no_space (a ++ 32 ∷ v) ≡ true = rw (← e) p in
    never (list_all no_space a) (sym (list_all-append no_space a (32 ∷ v)) ∙ all)

-- what follows the last space of a text
word_same : (a b u v : List ℕ) → list_all no_space u ≡ true → list_all no_space v ≡ true → a ++ 32 ∷ u ≡ b ++ 32 ∷ v → u ≡ v
word_same [] [] u v pu pv e = cc
word_same [] (y ∷ b) u v pu pv e = let inside : u ≡ b ++ 32 ∷ v = cc in absurd (has_space b u v pu inside)
word_same (x ∷ a) [] u v pu pv e = let inside : v ≡ a ++ 32 ∷ u = cc in absurd (has_space a v u pv inside)
word_same (x ∷ a) (y ∷ b) u v pu pv e = let rest : a ++ 32 ∷ u ≡ b ++ 32 ∷ v = cc in word_same a b u v pu pv rest

-- the last word within the parentheses: the day of the first copy, and the number of a later one
abbrev last_word : Day → ℕ → List ℕ
last_word d k = cond (nat_le k 1) (day_text d) (decimal k)

digit_apart : (n : ℕ) → no_space (48 + n) ≡ true
digit_apart n = not_from_false (nat_eq (48 + n) 32) (ne_eqb (48 + n) 32 (λ e. omega arith))

day_no_space : (d : Day) → list_all no_space (day_text d) ≡ true
day_no_space d =
    rw (digit_apart (d.year / 100 / 10), digit_apart ((d.year / 100) % 10), digit_apart ((d.year % 100) / 10), digit_apart ((d.year % 100) % 10), digit_apart (d.month / 10), digit_apart (d.month % 10), digit_apart (d.day / 10), digit_apart (d.day % 10)) refl

word_no_space : (d : Day) (k : ℕ) → k < 2 ^ 64 → list_all no_space (last_word d k) ≡ true
word_no_space d k h =
    elim (nat_le k 1) as (λ b. list_all no_space (cond b (day_text d) (decimal k)) ≡ true) [
      | true ↦ day_no_space d
      | false ↦ weaker is_digit no_space digit_no_space (decimal k) (digits_of_number k h)
    ]

-- what stands before that word
front_of : (c x : List ℕ) (d : Day) (k : ℕ) → (front : List ℕ) × ((c ++ (x ++ dated d k)) ≡ (front ++ 32 ∷ last_word d k) ++ 41 ∷ [])
front_of c x d k =
    elim (nat_le k 1) as (λ b. nat_le k 1 ≡ b → (front : List ℕ) × ((c ++ (x ++ dated d k)) ≡ (front ++ 32 ∷ last_word d k) ++ 41 ∷ [])) [
      | true ↦ λ t. ((c ++ x) ++ codes " copy", rw t (simp append_assoc))
      | false ↦ λ t. ((c ++ x) ++ (codes " copy " ++ day_text d), rw t (simp append_assoc))
    ] refl

-- a day is no number
day_is_no_number : (d : Day) (k : ℕ) → k < 2 ^ 64 → day_text d ≡ decimal k → ⊥
day_is_no_number d k h e =
    let all : list_all is_digit (day_text d) ≡ true = subst (λ bs. list_all is_digit bs ≡ true) (sym e) (digits_of_number k h) in
    let dash : list_all is_digit (day_text d) ≡ false = list_all_at is_digit (day_text d) 4 0 (omega arith) refl in
    false≢true (sym dash ∙ all)

words_differ : (d : Day) (j k : ℕ) → 1 ≤ j → 1 ≤ k → j < 2 ^ 64 → k < 2 ^ 64 → last_word d j ≡ last_word d k → j ≡ k
words_differ d j k lj lk hj hk e =
    elim (nat_le j 1) as (λ b. nat_le j 1 ≡ b → j ≡ k) [
      | true ↦ λ tj. elim (nat_le k 1) as (λ b. nat_le k 1 ≡ b → j ≡ k) [
        | true ↦ λ tk. omega (arith, leb-true j 1 tj, leb-true k 1 tk)
        | false ↦ λ tk. absurd (day_is_no_number d k hk (rw (tj, tk) at e))
      ] refl
      | false ↦ λ tj. elim (nat_le k 1) as (λ b. nat_le k 1 ≡ b → j ≡ k) [
        | true ↦ λ tk. absurd (day_is_no_number d j hj (sym (rw (tj, tk) at e)))
        | false ↦ λ tk. decimal_injective j k hj hk (rw (tj, tk) at e)
      ] refl
    ] refl

-- conflicted names of one name, device and moment with different numbers differ
pub differ : (name device : List ℕ) (moment j k : ℕ) → 1 ≤ j → 1 ≤ k → j < 2 ^ 64 → k < 2 ^ 64 → conflicted_text name device moment j ≡ conflicted_text name device moment k → j ≡ k
differ name device moment j k lj lk hj hk e =
    let d = day_of moment in
    let x = codes ".conflicted (" ++ device in
    let cj = cut_to (255 - length (added device moment j) - length (extension name)) (stem name) in
    let ck = cut_to (255 - length (added device moment k) - length (extension name)) (stem name) in
    let fj = front_of cj x d j in
    let fk = front_of ck x d k in
    let whole : cj ++ added device moment j ≡ ck ++ added device moment k = append_cancel_right _ _ (extension name) e in
    let closed : (fj.0 ++ 32 ∷ last_word d j) ++ 41 ∷ [] ≡ (fk.0 ++ 32 ∷ last_word d k) ++ 41 ∷ [] = sym fj.1 ∙ (whole ∙ fk.1) in
    words_differ d j k lj lk hj hk (word_same fj.0 fk.0 _ _ (word_no_space d j hj) (word_no_space d k hk) (append_cancel_right _ _ (41 ∷ []) closed))
