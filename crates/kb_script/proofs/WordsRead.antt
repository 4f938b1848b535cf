-- What a chain of texts leaves in a vector that it extends.
use Rattle.std.proofs.Common.{◌≡◌, ℕ, List, Option, Result, OnOk}
use Rattle.std.specs.Borrow.{Bor}
use Rattle.std.specs.Result.{MatchResult}
use Rattle.std.specs.Iterator.{Drains, Yields}
use Rattle.std.proofs.lemmas.Iterator.{YieldsList}
use Rattle.std.proofs.lemmas.Iterator.Adapters.{fact_from_extend}
use Rattle.std.proofs.lemmas.Iterator.Consumers.{YieldsList-at}
use Rattle.kb_name.specs.Texts.{texts}

pub texts_from_extend : {T E Q : Type 0} {steps : T → Option (Bor (List ℕ)) → T → Type 0} {all : List (List ℕ)} {P : List (Bor (List ℕ)) → Type 0} {s : T} (r : Result (Unit {0}) E)
    → ((it : T) × (xs : List (Bor (List ℕ))) × (it ≡ s) × P xs × MatchResult r (λ _. Drains steps it xs) (λ _. (t : T) × Yields steps it xs t))
    → YieldsList steps (λ x. x.now) s all → ((xs : List (Bor (List ℕ))) → texts xs ≡ all → P xs → Q) → OnOk r Q
texts_from_extend r ran road says = fact_from_extend (λ (x : Bor (List ℕ)). x.now) r ran (λ it b. YieldsList-at b road) says
