use Rattle.std.proofs.Common.{false, replicate, ap, sym, ◌∙◌}
use Rattle.kb_memdisk.specs.Cells.{now_at, stable_at, dirty_at}
use Rattle.kb_memdisk.specs.Rows.{page_of}
use Rattle.kb_memdisk.proofs.Places.{stable_clear, dirty_none}
use Rattle.kb_memdisk.proofs.Rowed.{row_size, row_same, clean_row, zeros_row}
use Rattle.kb_memdisk.proofs.cells.Cells.sync.Goals as goal

pub returns-clause-stable : goal.returns-clause-stable
returns-clause-stable c =
    let s = c.args.self.now in
    row_same (stable_at (page_of s.latest) (page_of c.clear.new.self)) (now_at (page_of s.latest)) s.size 0 (stable_clear (page_of s.latest) (page_of c.clear.new.self) c.clear.ensures.none)

pub returns-clause-dirty : goal.returns-clause-dirty
returns-clause-dirty c = λ place.
    clean_row (dirty_at (page_of c.clear-2.new.self)) c.args.self.now.size place (λ i. dirty_none (page_of c.clear-2.new.self) i (c.clear-2.ensures.none _))

pub returns-clause-clean : goal.returns-clause-clean
returns-clause-clean c =
    let s = c.args.self.now in
    zeros_row (dirty_at (page_of c.clear-2.new.self)) s.size false (λ i. dirty_none (page_of c.clear-2.new.self) i (c.clear-2.ensures.none _)) ∙ ap (λ n. replicate n false) (sym (row_size (now_at (page_of s.latest)) s.size))
