use Rattle.kb_device.proofs.Keys.{item_made, keys_next, keys_whole, refused}
use Rattle.kb_device.proofs.reading.add_entries.Goals as goal

pub returns-in-Err : goal.returns-in-Err
returns-in-Err g c seed ps served is =
    let item = item_made g.S.Sealer.sealed seed c.args.entries.now ps c.entries.entry-index _ is c.entries-test.true in
    refused c.in-Err.fault _ _ (c.in-Err.ensures seed item.0 served item.2)

pub entries-preserved : goal.entries-preserved
entries-preserved g c seed ps served is =
    let item = item_made g.S.Sealer.sealed seed c.args.entries.now ps c.entries.entry-index _ is c.entries-test.true in
    keys_next seed c.args.d c.args.most ps c.entries.entry-index item.0 c.args.ring.now c.entries.ring c.add_entry.new.ring item.1 (c.entries.invariant seed ps served is) (c.in-Ok.ensures seed item.0 served item.2)

pub returns : goal.returns
returns g c seed ps served is = keys_whole g.S.Sealer.sealed seed c.args.d c.args.most c.args.entries.now ps c.entries.entry-index c.args.ring.now c.entries.ring is c.entries-test.false (c.entries.invariant seed ps served is)
