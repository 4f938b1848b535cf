use Rattle.std.proofs.Common.{◌∙◌}
use Rattle.kb_memdisk.specs.Rows.{page_of}
use Rattle.kb_memdisk.proofs.Cuts.{cut_more}
use Rattle.kb_memdisk.proofs.cells.cut_page.Goals as goal

pub loop-k-preserved : goal.loop-k-preserved
loop-k-preserved c =
    let i = c.loop-k.invariant in
    record {
      picked = cut_more c.args.pick (page_of c.args.flags.now) (page_of c.args.kept.now) (page_of c.loop-k.now) (page_of c.put.new.now) (page_of c.args.now.now) c.args.page c.loop-k.k c.left_in-left.result i.picked c.left_in-left.ensures c.put.ensures.now;
      count = c.put.ensures.count ∙ i.count;
    }
