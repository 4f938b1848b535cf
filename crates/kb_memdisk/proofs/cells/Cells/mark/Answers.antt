use Rattle.std.proofs.Common.{arith}
use Rattle.kb_memdisk.specs.Cells.{now_at, dirty_at}
use Rattle.kb_memdisk.specs.Rows.{page_of}
use Rattle.kb_memdisk.proofs.Rowed.{row_size, dirty_more}
use Rattle.kb_memdisk.proofs.cells.Cells.mark.Goals as goal

pub overflow_add-at : goal.overflow_add-at
overflow_add-at c =
    let i = c.loop-done.invariant in
    let s = c.args.self.now in
    grind (arith, c.requires, row_size (now_at (page_of s.latest)) s.size, s.are_cells.small, i.done)

pub overflow_add-at-in-loop-done : goal.overflow_add-at-in-loop-done
overflow_add-at-in-loop-done c =
    let i = c.loop-done.invariant in
    let s = c.args.self.now in
    grind (arith, c.requires, row_size (now_at (page_of s.latest)) s.size, s.are_cells.small, i.done)

pub mark_part-requires-clause-inside : goal.mark_part-requires-clause-inside
mark_part-requires-clause-inside c =
    let i = c.loop-done.invariant in
    let s = c.args.self.now in
    omega (arith, c.part_of-part.ensures, c.loop-done-test.true, c.requires, row_size (now_at (page_of s.latest)) s.size, i.size)

pub returns-clause-dirty : goal.returns-clause-dirty
returns-clause-dirty c = λ place.
    let i = c.loop-done.invariant in
    let s = c.args.self.now in
    dirty_more (dirty_at (page_of c.loop-done.self.flags)) (dirty_at (page_of s.flags)) c.loop-done.self.size s.size c.args.at c.loop-done.done c.args.n place i.size (omega (arith, i.done, c.loop-done-test.false)) (omega (arith, c.requires, row_size (now_at (page_of s.latest)) s.size)) i.dirty
