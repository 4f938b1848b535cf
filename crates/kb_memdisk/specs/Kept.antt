-- What the cells of a disk in memory stand for.
use Rattle.std.specs.Prelude.{ℕ, Bool, List}
use Rattle.kb_memdisk.specs.Cells.{now_at, stable_at, dirty_at, row}
use Rattle.kb_memdisk.specs.Rows.{page_of}
use Rattle.kb_memdisk.specs.declared.cells.Cells.{Cells}

-- the bytes now
abbrev pub now_of : Cells → List ℕ
now_of c = row (now_at (page_of c.latest)) c.size

-- the bytes after the last sync
abbrev pub stable_of : Cells → List ℕ
stable_of c = row (stable_at (page_of c.latest) (page_of c.kept)) c.size

-- the places that were written since
abbrev pub dirty_of : Cells → List Bool
dirty_of c = row (dirty_at (page_of c.flags)) c.size
