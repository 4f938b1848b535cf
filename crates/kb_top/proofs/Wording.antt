-- What words ask for, by how many there are.
use Rattle.std.proofs.Common.{◌≡◌, ℕ, List, [], ◌∷◌, length, get_or, sym, ap, ◌∙◌, arith}
use Rattle.std.specs.Prelude.{map, codes, decimal}
use Rattle.std.specs.String.{string_bytes}
use Rattle.std.specs.declared.string.String.{String}
use Rattle.std.proofs.lemmas.Fmt.{decimal_injective}
use Rattle.kb_top.specs.Outcomes.{IsRun, IsGen}

pub one : {A B : Type 0} (f : A → B) (xs : List A) (x : A) → length xs ≡ 1 → x ≡ get_or xs 0 x → map f xs ≡ f x ∷ []
one f [] x n e = absurd (omega arith)
one f (y ∷ []) x n e = ap (λ z. f z ∷ []) (sym e)
one f (y ∷ z ∷ xs) x n e = absurd (omega arith)

pub two : {A B : Type 0} (f : A → B) (xs : List A) (x y : A) → length xs ≡ 2 → x ≡ get_or xs 0 x → y ≡ get_or xs 1 y → map f xs ≡ f x ∷ f y ∷ []
two f [] x y n e g = absurd (omega arith)
two f (u ∷ []) x y n e g = absurd (omega arith)
two f (u ∷ v ∷ []) x y n e g = ap (λ z. f z ∷ f v ∷ []) (sym e) ∙ ap (λ z. f x ∷ f z ∷ []) (sym g)
two f (u ∷ v ∷ w ∷ xs) x y n e g = absurd (omega arith)

module _ {A : Type 0} (words : List (String A)) where
  pub not_both : (n : ℕ) → IsRun words → IsGen words n → ⊥
  not_both n run gen = (let e : codes "run" ∷ [] ≡ codes "gen" ∷ decimal n ∷ [] = sym run ∙ gen.words_are in cc)

  pub same_number : (m n : ℕ) → IsGen words m → IsGen words n → m ≡ n
  same_number m n first second =
      let e : codes "gen" ∷ decimal m ∷ [] ≡ codes "gen" ∷ decimal n ∷ [] = sym first.words_are ∙ second.words_are in
      let same : decimal m ≡ decimal n = cc in
      decimal_injective m n (omega (arith, first.to)) (omega (arith, second.to)) same
