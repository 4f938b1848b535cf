use Rattle.kb_dirs.specs.Dirs.{entry_text, IsEntry}
use Rattle.kb_dirs.proofs.Orders.{one_more, all_take}
use Rattle.kb_dirs.proofs.encode.put_entries.Goals as goal

pub loop-entry-preserved : goal.loop-entry-preserved
loop-entry-preserved c = record {
  text = one_more entry_text c.args.entries.now c.loop-entry.entry-index c.entry-item.result _ _ _ c.loop-entry-test.true c.entry-item.is c.in_ok-put_entry.ensures.text c.loop-entry.invariant.text;
  room = all_take IsEntry c.args.entries.now c.loop-entry.entry-index c.entry-item.result c.loop-entry-test.true c.entry-item.is c.in_ok-put_entry.ensures.room c.loop-entry.invariant.room;
}
