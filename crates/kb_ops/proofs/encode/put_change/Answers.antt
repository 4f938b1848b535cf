use Rattle.kb_ops.proofs.encode.put_change.Goals as goal

pub returns-in-Rename-clause-text : goal.returns-in-Rename-clause-text
returns-in-Rename-clause-text c = rw c.in-Rename.is c.put_rename.ensures.text

pub returns-in-Sync-clause-text : goal.returns-in-Sync-clause-text
returns-in-Sync-clause-text c = rw c.in-Sync.is c.put_sync.ensures.text

pub returns-in-Touch-clause-text : goal.returns-in-Touch-clause-text
returns-in-Touch-clause-text c = rw c.in-Touch.is c.put_touch.ensures.text
