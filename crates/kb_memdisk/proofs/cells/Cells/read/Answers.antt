use Rattle.std.proofs.Common.{length, arith}
use Rattle.kb_memdisk.specs.Cells.{now_at}
use Rattle.kb_memdisk.specs.Rows.{page_of}
use Rattle.kb_memdisk.proofs.Rowed.{row_size, read_row}
use Rattle.kb_memdisk.proofs.cells.Cells.read.Goals as goal

pub overflow_add-at : goal.overflow_add-at
overflow_add-at c =
    let i = c.loop-done.invariant in
    let s = c.args.self.now in
    grind (arith, c.requires, row_size (now_at (page_of s.latest)) s.size, s.are_cells.small, i.done, i.size)

pub overflow_add-at-in-loop-done : goal.overflow_add-at-in-loop-done
overflow_add-at-in-loop-done c =
    let i = c.loop-done.invariant in
    let s = c.args.self.now in
    grind (arith, c.requires, row_size (now_at (page_of s.latest)) s.size, s.are_cells.small, i.done, i.size)

pub read_part-requires-clause-inside : goal.read_part-requires-clause-inside
read_part-requires-clause-inside c =
    let i = c.loop-done.invariant in
    let s = c.args.self.now in
    omega (arith, c.requires, row_size (now_at (page_of s.latest)) s.size, s.are_cells.now_pages, c.loop-done-test.true, i.size)

pub returns : goal.returns
returns c =
    let i = c.loop-done.invariant in
    let s = c.args.self.now in
    read_row (now_at (page_of s.latest)) s.size c.args.at (length c.args.into.now) c.loop-done.into i.size (omega (arith, c.requires, row_size (now_at (page_of s.latest)) s.size)) (λ k lt. i.read k (omega (arith, lt, c.loop-done-test.false)))
