use Rattle.std.proofs.Common.{◌≡◌, ◌/◌, ℕ, cond}
use Rattle.kb_memdisk.specs.Cells.{now_at}
use Rattle.kb_memdisk.specs.Rows.{page_of, count_of}
use Rattle.kb_memdisk.proofs.Cuts.{left_at, is_among}
use Rattle.kb_memdisk.proofs.cells.cut_pages.Given as goal

abbrev pub invariant-loop-index : goal.invariant-loop-index
invariant-loop-index l = record {
  picked : (i : ℕ) → now_at (page_of l.now) i ≡ cond (is_among l.flags.seats.items l.flags.order.items l.index (i / 512)) (left_at l.pick (page_of l.flags) (page_of l.kept) (page_of l.fn.now) i) (now_at (page_of l.fn.now) i);
  count : count_of l.now ≡ count_of l.fn.now;
}
