use Rattle.std.proofs.Common.{◌<◌, length, get_or, sym, ap, ◌∙◌, arith}
use Rattle.kb_memdisk.specs.Cells.{now_at}
use Rattle.kb_memdisk.specs.Rows.{page_of}
use Rattle.kb_memdisk.proofs.Rowed.{row_size, row_at}
use Rattle.kb_memdisk.proofs.Cuts.{rows_picked}
use Rattle.kb_memdisk.proofs.cells.Cells.cut.Goals as goal

pub returns-clause-size : goal.returns-clause-size
returns-clause-size c =
    let s = c.args.self.now in
    ap length c.sync.ensures.now ∙ (row_size (now_at (page_of c.cut_pages.new.now)) s.size ∙ sym (row_size (now_at (page_of s.latest)) s.size))

pub returns-clause-picked : goal.returns-clause-picked
returns-clause-picked c = λ place lt.
    let s = c.args.self.now in
    let k : place < s.size = omega (arith, lt, row_size (now_at (page_of s.latest)) s.size) in
    ap (λ l. get_or l place 0) c.sync.ensures.now ∙ (row_at (now_at (page_of c.cut_pages.new.now)) s.size place 0 k ∙ (c.cut_pages.ensures.picked place ∙ sym (rows_picked c.args.pick (page_of s.flags) (page_of s.kept) (page_of s.latest) s.size place k)))

pub returns-clause-stable : goal.returns-clause-stable
returns-clause-stable c = c.sync.ensures.stable ∙ sym c.sync.ensures.now
