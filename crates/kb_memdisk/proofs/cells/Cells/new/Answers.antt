use Rattle.std.proofs.Common.{false, ◌∙◌}
use Rattle.kb_memdisk.specs.Cells.{now_at, stable_at, dirty_at}
use Rattle.kb_memdisk.specs.Rows.{page_of}
use Rattle.kb_memdisk.proofs.Places.{now_none, stable_clear, dirty_none}
use Rattle.kb_memdisk.proofs.Rowed.{zeros_row}
use Rattle.kb_memdisk.proofs.cells.Cells.new.Goals as goal

pub returns-clause-now : goal.returns-clause-now
returns-clause-now c = zeros_row (now_at (page_of c.in_ok-latest.latest)) c.args.size 0 (now_none (page_of c.in_ok-latest.latest) c.in_ok-latest.ensures.none)

pub returns-clause-stable : goal.returns-clause-stable
returns-clause-stable c = zeros_row (stable_at (page_of c.in_ok-latest.latest) (page_of c.in_ok-kept.kept)) c.args.size 0 (λ i. stable_clear (page_of c.in_ok-latest.latest) (page_of c.in_ok-kept.kept) c.in_ok-kept.ensures.none i ∙ now_none (page_of c.in_ok-latest.latest) c.in_ok-latest.ensures.none i)

pub returns-clause-dirty : goal.returns-clause-dirty
returns-clause-dirty c = zeros_row (dirty_at (page_of c.in_ok-flags.flags)) c.args.size false (λ i. dirty_none (page_of c.in_ok-flags.flags) i (c.in_ok-flags.ensures.none _))
