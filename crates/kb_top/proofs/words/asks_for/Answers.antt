use Rattle.std.proofs.Common.{◌≡◌, true, [], ◌∷◌, ap, ◌∙◌, sym, refl, arith}
use Rattle.std.specs.Prelude.{codes, decimal}
use Rattle.std.specs.String.{string_bytes}
use Rattle.std.proofs.lemmas.Slice.Eq.{slice_eq-Decides}
use Rattle.std.proofs.lemmas.Bool.{not-false}
use Rattle.std.proofs.lemmas.Bool.Decides.{Decides-eqb}
use Rattle.kb_top.proofs.Wording.{one, two}
use Rattle.kb_top.proofs.words.asks_for.Goals as goal

pub returns-then-eq : goal.returns-then-eq
returns-then-eq c =
    let words = one string_bytes c.args.words.now c.word-item.result (omega (arith, c.in-len1.len_at_least, c.in-len1.len_below)) c.word-item.is in
    let same = slice_eq-Decides Decides-eqb c.as_str.result.now (codes "run") c.eq.result c.eq.ensures in
    words ∙ ap (λ w. w ∷ []) (sym c.as_str.ensures.value ∙ same.0 c.if-eq.true)

pub returns-in-Some : goal.returns-in-Some
returns-in-Some c =
    let first = c.word-item-then-words-lt3.result in
    let second = c.number-item.result in
    let words = two string_bytes c.args.words.now first second (omega (arith, c.in-len2.len_at_least, c.in-len2.len_below)) c.word-item-then-words-lt3.is c.number-item.is in
    let same = slice_eq-Decides Decides-eqb c.as_str-in-len2.result.now (codes "gen") _ refl in
    let gen : string_bytes first ≡ codes "gen" = sym c.as_str-in-len2.ensures.value ∙ same.0 (not-false _ (sym c.ne.ensures ∙ c.if-ne.false)) in
    let number : string_bytes second ≡ decimal c.in-Some.number = sym c.as_str-in-len2-2.ensures.value ∙ c.in-Some.ensures.2 in
    record {
      from = c.in-Some.ensures.0;
      to = c.in-Some.ensures.1;
      words_are = words ∙ ap (λ w. w ∷ string_bytes second ∷ []) gen ∙ ap (λ w. codes "gen" ∷ w ∷ []) number;
    }
