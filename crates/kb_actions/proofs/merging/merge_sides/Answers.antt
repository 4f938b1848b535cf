use Rattle.std.proofs.Common.{◌≡◌, ◌+◌, ◌≤◌, length, IfOk, subst}
use Rattle.kb_rules.specs.Code.{merged_in}
use Rattle.kb_rules.specs.Merge.{joins}
use Rattle.kb_rules.specs.Names.{result_with}
use Rattle.kb_rules.specs.Naming.{named_three}
use Rattle.kb_actions.specs.Edits.{edits_in}
use Rattle.kb_actions.specs.Merges.{named_by, looks_for}
use Rattle.kb_actions.proofs.merging.merge_sides.Goals as goal

pub returns-clause-edits : goal.returns-clause-edits
returns-clause-edits g c = subst (λ s. IfOk c.merge_seats.result (λ d. d.0.items ≡ edits_in (merged_in s) (result_with (named_three s) (named_by (g.V.View.tree c.args.merged.now) c.args.all (named_three s))) s.ids.now)) c.in_ok-seats.ensures.sides c.merge_seats.ensures.edits

pub returns-clause-renamed : goal.returns-clause-renamed
returns-clause-renamed g c = subst (λ s. IfOk c.merge_seats.result (λ d. d.1.renamed ≡ length (named_by (g.V.View.tree c.args.merged.now) c.args.all (named_three s)))) c.in_ok-seats.ensures.sides c.merge_seats.ensures.renamed

pub returns-clause-joined : goal.returns-clause-joined
returns-clause-joined g c = subst (λ s. IfOk c.merge_seats.result (λ d. d.1.joined ≡ joins (named_three s))) c.in_ok-seats.ensures.sides c.merge_seats.ensures.joined

pub returns-clause-looks : goal.returns-clause-looks
returns-clause-looks g c = subst (λ s. g.V.View.looks c.merge_seats.new.merged ≤ g.V.View.looks c.args.merged.now + looks_for (g.V.View.tree c.args.merged.now) c.args.all (named_three s)) c.in_ok-seats.ensures.sides c.merge_seats.ensures.looks
