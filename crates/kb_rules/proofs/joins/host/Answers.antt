use Rattle.std.proofs.Common.{sym, ◌∙◌}
use Rattle.kb_rules.specs.Hosting.{host_at}
use Rattle.kb_rules.proofs.JoinFacts.{host_is, no_host}
use Rattle.kb_rules.proofs.joins.host.Goals as goal

pub returns-then-not-is_dir_row : goal.returns-then-not-is_dir_row
returns-then-not-is_dir_row c = no_host c.args.sides.now c.args.row.now c.args.parent (sym c.is_dir_row.ensures ∙ c.if-not-is_dir_row.true)

pub returns : goal.returns
returns c =
    c.find.ensures ∙ (λ i. host_at c.args.hosts.now (c.in_ok-place.ensures.0 i) (c.in_ok-place.ensures.1 i))
    ∙ host_is c.args.sides.now c.args.hosts.now c.args.row.now c.args.parent c.requires.hosts (sym c.is_dir_row.ensures ∙ c.if-not-is_dir_row.false)
