use Rattle.std.proofs.Common.{◌≡◌, ◌*◌, ℕ, cond}
use Rattle.kb_edge.specs.Disk.{within}
use Rattle.kb_memdisk.specs.Cells.{now_at}
use Rattle.kb_memdisk.specs.Rows.{page_of, count_of}
use Rattle.kb_memdisk.proofs.Cuts.{left_at}
use Rattle.kb_memdisk.proofs.cells.cut_page.Given as goal

abbrev pub invariant-loop-k : goal.invariant-loop-k
invariant-loop-k l = record {
  picked : (i : ℕ) → now_at (page_of l.now) i ≡ cond (within (512 * l.page) l.k i) (left_at l.pick (page_of l.flags) (page_of l.kept) (page_of l.fn.now) i) (now_at (page_of l.fn.now) i);
  count : count_of l.now ≡ count_of l.fn.now;
}
