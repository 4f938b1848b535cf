use Rattle.std.proofs.Common.{◌/◌, ◌%◌}
use Rattle.kb_memdisk.specs.Rows.{page_of}
use Rattle.kb_memdisk.proofs.Places.{both_steps, now_put}
use Rattle.kb_memdisk.proofs.Seats.{page_size}
use Rattle.kb_memdisk.proofs.cells.put.Goals as goal

pub returns-clause-now : goal.returns-clause-now
returns-clause-now c =
    let old = c.args.now.now in
    now_put (page_of old) (page_of c.put.new.self) c.args.place c.args.part.now (both_steps (page_of old) (page_of c.touch.new.pages) (page_of c.put.new.self) (c.args.place / 512) (c.args.place % 512) c.args.part.now c.touch.ensures.pages c.put.ensures.pages) (page_size old (c.args.place / 512)) c.requires.fits
