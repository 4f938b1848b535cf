use Rattle.std.proofs.Common.{◌≡◌, ◌≤◌, ℕ, ◌-◌, cond, get_or, length}
use Rattle.std.specs.Prelude.{◌||◌}
use Rattle.kb_edge.specs.Disk.{within}
use Rattle.kb_memdisk.specs.Cells.{now_at, stable_at, dirty_at}
use Rattle.kb_memdisk.specs.Rows.{page_of}
use Rattle.kb_memdisk.proofs.cells.Cells.write.Given as goal

abbrev pub invariant-loop-done : goal.invariant-loop-done
invariant-loop-done l = record {
  done : l.done ≤ length l.bytes;
  size : l.self.size ≡ l.fn.self.size;
  now : (other : ℕ) → now_at (page_of l.self.latest) other ≡ cond (within l.at l.done other) (get_or l.bytes (other - l.at) 0) (now_at (page_of l.fn.self.latest) other);
  stable : (other : ℕ) → stable_at (page_of l.self.latest) (page_of l.self.kept) other ≡ stable_at (page_of l.fn.self.latest) (page_of l.fn.self.kept) other;
  dirty : (other : ℕ) → dirty_at (page_of l.self.flags) other ≡ (dirty_at (page_of l.fn.self.flags) other || within l.at l.done other);
}

abbrev pub decreases-loop-done : goal.decreases-loop-done
decreases-loop-done l = length l.bytes - l.done
