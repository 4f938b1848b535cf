use Rattle.std.proofs.Common.{◌∙◌}
use Rattle.kb_memdisk.specs.Rows.{page_of}
use Rattle.kb_memdisk.proofs.Places.{stable_put}
use Rattle.kb_memdisk.proofs.cells.Cells.write_part.Goals as goal

pub returns-clause-stable : goal.returns-clause-stable
returns-clause-stable c = λ other.
    stable_put (page_of c.mark_part.new.self.latest) (page_of c.put.new.now) (page_of c.mark_part.new.self.kept) c.args.place c.args.part.now c.mark_part.ensures.there c.requires.fits c.put.ensures.now other ∙ c.mark_part.ensures.stable other
