use Rattle.std.proofs.Common.{◌≡◌, ◌++◌, drop}
use Rattle.kb_rules.specs.Code.{row_in}
use Rattle.kb_actions.specs.Edits.{edits_in}
use Rattle.kb_resolver.proofs.edits.edits_at.Given as goal

abbrev pub invariant-loop-id : goal.invariant-loop-id
invariant-loop-id l = l.edits.items ++ edits_in (row_in l.before) (row_in l.after) (drop l.id-index l.ids) ≡ edits_in (row_in l.before) (row_in l.after) l.ids
