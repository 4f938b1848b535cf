use Rattle.std.proofs.Common.{rules, ◌∙◌, ap, not, eqb, length, lit<, ◌++◌}
use Rattle.std.proofs.lemmas.Iterator.Consumers.{YieldsList-from_filter}
use Rattle.std.proofs.lemmas.Iterator.Splits.{YieldsList-from_str_split}
use Rattle.kb_name.specs.Texts.{texts}
use Rattle.kb_script.proofs.WordsRead.{texts_from_extend}
use Rattle.kb_script.proofs.cuts.cut_words.Goals as goal

pub returns : goal.returns
returns c =
    texts_from_extend c.extend.result c.extend.ensures.ran
    (YieldsList-from_filter _ (λ word. not (eqb (length word) 0))
    (YieldsList-from_str_split 32 c.args.line.now (lit< tt) (cc) (cc) (cc))
    c.filter.ensures.closure (λ x b q k. search rules))
    (λ xs e h. ap texts (h.0 ∙ ap (λ l. l ++ xs) c.clear.ensures.items) ∙ e)
