-- A text without `%` is decoded to itself.
use Rattle.std.proofs.Common.{◌≡◌, ◌≢◌, ℕ, true, not, List, [], ◌∷◌, ◌∙◌, ap}
use Rattle.std.specs.Prelude.{nat_eq}
use Rattle.std.proofs.lemmas.Bool.{and_parts, eqb-false, not-true}
use Rattle.percent_encoding.specs.Percent.{percent_decode}
use Rattle.percent_encoding.proofs.PercentLemmas.{percent_decode-nil, percent_decode_not_percent}
use Rattle.kb_name.specs.Texts.{is_bare}

pub bare_stays : (bs : List ℕ) → is_bare bs ≡ true → percent_decode bs ≡ bs
bare_stays [] e = percent_decode-nil
bare_stays (b ∷ bs) e =
    let parts = and_parts (not (nat_eq b 37)) (is_bare bs) e in
    let other : b ≢ 37 = eqb-false b 37 (not-true (nat_eq b 37) parts.0) in
    percent_decode_not_percent b bs other ∙ ap (λ (x : List ℕ). b ∷ x) (bare_stays bs parts.1)
