use Rattle.std.proofs.Common.{◌≡◌, ◌≤◌, ℕ, ◌∙◌, ap, subst, length, arith}
use Rattle.kb_world.specs.Machine.{State}
use Rattle.kb_top.specs.Summaries.{summary_of, laptop_rows}
use Rattle.kb_top.proofs.generated.summary.Goals as goal

pub laptop_rows-requires : goal.laptop_rows-requires
laptop_rows-requires g c =
    let was = c.requires.stands in
    let now = c.revisions.ensures.stays was.0 was.1 was.2 in
    record { stands = (was.0, was.1, now); declared = omega (arith, was.2.count, now.count, c.requires.declared) }

pub returns-in_err-rows-clause-stays : goal.returns-in_err-rows-clause-stays
returns-in_err-rows-clause-stays g c = λ under s h. c.laptop_rows.ensures.stays under s (c.revisions.ensures.stays under s h)

pub returns-in_err-text-clause-stays : goal.returns-in_err-text-clause-stays
returns-in_err-text-clause-stays g c = λ under s h. c.laptop_rows.ensures.stays under s (c.revisions.ensures.stays under s h)

pub returns-clause-stays : goal.returns-clause-stays
returns-clause-stays g c = λ under s h. c.laptop_rows.ensures.stays under s (c.revisions.ensures.stays under s h)

pub returns-clause-text : goal.returns-clause-text
returns-clause-text g c = λ under s h.
    let revisions = c.in_ok-revisions.ensures.told under s h in
    let rows = c.in_ok-rows.ensures.told under s (c.in_ok-revisions.ensures.stays under s h) in
    c.in_ok-text.ensures
    ∙ ap (λ (n : ℕ). summary_of c.args.number n c.in_ok-rows.rows c.args.names) revisions
    ∙ ap (λ (n : ℕ). summary_of c.args.number (length s.chain) n c.args.names) rows
