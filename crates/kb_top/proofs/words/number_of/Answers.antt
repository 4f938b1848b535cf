use Rattle.std.proofs.Common.{◌≡◌, true, false, Ok, sym, ◌∙◌, arith}
use Rattle.kb_top.proofs.Numerals.{spelled, not_numeral, parsed}
use Rattle.kb_top.proofs.words.number_of.Goals as goal

pub returns-then-not-is_numeral : goal.returns-then-not-is_numeral
returns-then-not-is_numeral c = not_numeral c.args.word.now (sym c.is_numeral.ensures ∙ c.if-not-is_numeral.true)

pub returns-in_default : goal.returns-in_default
returns-in_default c = λ n from to e. c.in_default.not-Ok n (parsed c.args.word.now c.parse.result n c.parse.ensures.value.0 from to e)

pub returns-then-not-is_in_range : goal.returns-then-not-is_in_range
returns-then-not-is_in_range c = λ n from to e.
    let ok : Ok c.in-Ok.number ≡ Ok n = sym c.in-Ok.is ∙ parsed c.args.word.now c.parse.result n c.parse.ensures.value.0 from to e in
    let same : c.in-Ok.number ≡ n = cc in
    let yes : c.is_in_range.result ≡ true = c.is_in_range.ensures.1 (omega (arith, same, from), omega (arith, same, to)) in
    let other : c.is_in_range.result ≡ false = c.if-not-is_in_range.true in cc

pub returns : goal.returns
returns c =
    let range = c.is_in_range.ensures.0 c.if-not-is_in_range.false in (
      range.0,
      range.1,
      spelled c.args.word.now c.parse.result c.in-Ok.number c.parse.ensures.value.0 (sym c.is_numeral.ensures ∙ c.if-not-is_numeral.false) c.in-Ok.is,
    )
