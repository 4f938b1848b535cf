use Rattle.std.proofs.Common.{◌*◌, ap, sym, ◌∙◌, arith}
use Rattle.kb_files.proofs.Indexes.{index_read, index_sizes}
use Rattle.kb_files.proofs.index.read_index.Goals as goal
use Rattle.kb_files.proofs.index.read_index.Goals.{then-count-eq0-via-then-count-eq0, then-count-eq0-via-else-count-eq0+then-count-gt-MOST, then-count-eq0-via-else-count-eq0+else-count-gt-MOST+then-body-count}

pub returns-then-count-eq0-clause-bad : goal.returns-then-count-eq0-clause-bad
returns-then-count-eq0-clause-bad c _ ptrs fit e =
    let sizes = index_sizes c.args.text.now c.args.level ptrs fit e in
    elim c.then-count-eq0.branch [
      | then-count-eq0-via-then-count-eq0 w ↦ absurd (omega arith)
      | then-count-eq0-via-else-count-eq0+then-count-gt-MOST w ↦ absurd (omega arith)
      | then-count-eq0-via-else-count-eq0+else-count-gt-MOST+then-body-count w ↦ w.if-body-count.true (sizes.1 ∙ ap (λ n. 36 * n) (sym sizes.0))
    ]

pub returns-in-Ok-clause-ok : goal.returns-in-Ok-clause-ok
returns-in-Ok-clause-ok c =
    index_read c.args.text.now c.args.level c.in-Ok.ptrs.items (λ i. omega (arith, c.type_inv.text i)) c.if-text-lt3.false c.if-text-ne73.false c.if-text-level.false
    c.if-count-eq0.false c.if-count-gt-MOST.false c.if-body-count.false c.in-Ok.ensures
