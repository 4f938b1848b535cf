use Rattle.std.proofs.Common.{◌≡◌, ◌-◌, ◌≤◌, ◌<◌, ℕ, ◌+◌, get_or, length}
use Rattle.kb_memdisk.specs.Cells.{now_at}
use Rattle.kb_memdisk.specs.Rows.{page_of}
use Rattle.kb_memdisk.proofs.cells.Cells.read.Given as goal

abbrev pub invariant-loop-done : goal.invariant-loop-done
invariant-loop-done l = record {
  done : l.done ≤ length l.into;
  size : length l.into ≡ length l.fn.into;
  read : (k : ℕ) → k < l.done → get_or l.into k 0 ≡ now_at (page_of l.self.latest) (l.at + k);
}

abbrev pub decreases-loop-done : goal.decreases-loop-done
decreases-loop-done l = length l.into - l.done
