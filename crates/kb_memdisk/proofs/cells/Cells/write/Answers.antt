use Rattle.std.proofs.Common.{◌≡◌, ◌≤◌, ◌+◌, length, ◌∙◌, arith}
use Rattle.std.specs.Prelude.{slice_range}
use Rattle.kb_memdisk.specs.Cells.{now_at, dirty_at}
use Rattle.kb_memdisk.specs.Rows.{page_of}
use Rattle.kb_memdisk.proofs.Overlaid.{slice_size}
use Rattle.kb_memdisk.proofs.Rowed.{row_size, row_put, dirty_more, put_more, mark_more}
use Rattle.kb_memdisk.proofs.cells.Cells.write.Goals as goal

pub overflow_add-at : goal.overflow_add-at
overflow_add-at c =
    let i = c.loop-done.invariant in
    let s = c.args.self.now in
    grind (arith, c.requires, row_size (now_at (page_of s.latest)) s.size, s.are_cells.small, i.done)

pub overflow_add-at-in-loop-done : goal.overflow_add-at-in-loop-done
overflow_add-at-in-loop-done c =
    let i = c.loop-done.invariant in
    let s = c.args.self.now in
    grind (arith, c.requires, row_size (now_at (page_of s.latest)) s.size, s.are_cells.small, i.done)

pub write_part-requires-clause-inside : goal.write_part-requires-clause-inside
write_part-requires-clause-inside c =
    let i = c.loop-done.invariant in
    let s = c.args.self.now in
    let fits : c.loop-done.done + c.part_of-n.result ≤ length c.args.bytes.now = omega (arith, c.part_of-n.ensures, c.loop-done-test.true) in
    omega (arith, slice_size c.args.bytes.now c.loop-done.done (c.loop-done.done + c.part_of-n.result) fits, fits, c.requires, row_size (now_at (page_of s.latest)) s.size, i.size)

pub loop-done-preserved : goal.loop-done-preserved
loop-done-preserved c =
    let i = c.loop-done.invariant in
    let s = c.args.self.now in
    let old = c.loop-done.self in
    let new = c.write_part.new.self in
    let n = c.part_of-n.result in
    let fits : c.loop-done.done + n ≤ length c.args.bytes.now = omega (arith, c.part_of-n.ensures, c.loop-done-test.true) in
    let size : length (slice_range c.args.bytes.now c.loop-done.done (c.loop-done.done + n)) ≡ n = omega (arith, slice_size c.args.bytes.now c.loop-done.done (c.loop-done.done + n) fits) in
    record {
      done = fits;
      size = c.write_part.ensures.size ∙ i.size;
      now = put_more (now_at (page_of old.latest)) (now_at (page_of new.latest)) (now_at (page_of s.latest)) c.args.at c.loop-done.done n c.args.bytes.now fits i.now c.write_part.ensures.now;
      stable = λ other. c.write_part.ensures.stable other ∙ i.stable other;
      dirty = mark_more (dirty_at (page_of old.flags)) (dirty_at (page_of new.flags)) (dirty_at (page_of s.flags)) c.args.at c.loop-done.done _ n size i.dirty c.write_part.ensures.dirty;
    }

pub returns-clause-now : goal.returns-clause-now
returns-clause-now c =
    let i = c.loop-done.invariant in
    let s = c.args.self.now in
    row_put (now_at (page_of c.loop-done.self.latest)) (now_at (page_of s.latest)) c.loop-done.self.size s.size c.args.at c.loop-done.done c.args.bytes.now i.size (omega (arith, i.done, c.loop-done-test.false)) (omega (arith, c.requires, row_size (now_at (page_of s.latest)) s.size)) i.now

pub returns-clause-dirty : goal.returns-clause-dirty
returns-clause-dirty c = λ place.
    let i = c.loop-done.invariant in
    let s = c.args.self.now in
    dirty_more (dirty_at (page_of c.loop-done.self.flags)) (dirty_at (page_of s.flags)) c.loop-done.self.size s.size c.args.at c.loop-done.done (length c.args.bytes.now) place i.size (omega (arith, i.done, c.loop-done-test.false)) (omega (arith, c.requires, row_size (now_at (page_of s.latest)) s.size)) i.dirty
