use Rattle.std.proofs.Common.{◌/◌, ◌%◌, replicate}
use Rattle.kb_memdisk.specs.Rows.{page_of}
use Rattle.kb_memdisk.proofs.Places.{both_steps, dirty_put}
use Rattle.kb_memdisk.proofs.Seats.{page_size}
use Rattle.kb_memdisk.proofs.cells.flag.Goals as goal

pub returns-clause-dirty : goal.returns-clause-dirty
returns-clause-dirty c =
    let old = c.args.flags.now in
    dirty_put (page_of old) (page_of c.fill.new.self) c.args.place c.args.n (both_steps (page_of old) (page_of c.touch.new.pages) (page_of c.fill.new.self) (c.args.place / 512) (c.args.place % 512) (replicate c.args.n 1) c.touch.ensures.pages c.fill.ensures.pages) (page_size old (c.args.place / 512)) c.requires.fits
