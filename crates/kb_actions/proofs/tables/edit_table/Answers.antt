use Rattle.kb_actions.proofs.Owned.{item_owned}
use Rattle.kb_actions.proofs.tables.edit_table.Goals as goal

pub edit_rows-requires-clause-of : goal.edit_rows-requires-clause-of
edit_rows-requires-clause-of c = item_owned c.args.table.now.tree c.args.edits.now c.requires.rise c.requires.formed c.loop-edit.edit-index c.edit-item.result c.loop-edit-test.true c.edit-item.is
