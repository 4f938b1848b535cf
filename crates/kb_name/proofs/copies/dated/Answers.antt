use Rattle.std.proofs.lemmas.Result.{IfOk-weaker}
use Rattle.kb_name.proofs.Written.{first_dated, later_dated}
use Rattle.kb_name.proofs.copies.dated.Goals as goal

pub returns-then-k-eq-FIRST_COPY : goal.returns-then-k-eq-FIRST_COPY
returns-then-k-eq-FIRST_COPY c = IfOk-weaker c.format.result _ _ (λ s e d day. first_dated _ d c.args.day c.args.k day c.if-k-eq-FIRST_COPY.true e) c.format.ensures.ok

pub returns : goal.returns
returns c = IfOk-weaker c.format-2.result _ _ (λ s e d day. later_dated _ d c.args.day c.args.k day c.requires c.if-k-eq-FIRST_COPY.false e) c.format-2.ensures.ok
