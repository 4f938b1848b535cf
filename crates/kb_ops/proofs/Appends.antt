-- Writing in turn.
use Rattle.std.proofs.Common.{◌≡◌, ℕ, List, ◌++◌, ap, ◌∙◌, append_assoc}

pub in_turn : (o p q a b : List ℕ) → p ≡ o ++ a → q ≡ p ++ b → q ≡ o ++ (a ++ b)
in_turn o p q a b x y = y ∙ ap (λ t. t ++ b) x ∙ append_assoc o a b
