use Rattle.std.proofs.Common.{ap, ◌∙◌, slice_get}
use Rattle.std.specs.Option.{option_and_then}
use Rattle.kb_tree.proofs.Kept.{at_is}
use Rattle.kb_tree.proofs.slots.at.Goals as goal

pub returns-in-Some : goal.returns-in-Some
returns-in-Some c = c.row_in.ensures ∙ ap (option_and_then (slice_get c.args.rows.now)) c.in-Some.ensures ∙ at_is c.args.rows.now c.args.slots.now c.requires c.args.place

pub returns-in-None : goal.returns-in-None
returns-in-None c = ap (option_and_then (slice_get c.args.rows.now)) c.in-None.ensures ∙ at_is c.args.rows.now c.args.slots.now c.requires c.args.place
