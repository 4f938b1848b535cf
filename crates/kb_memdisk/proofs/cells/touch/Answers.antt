use Rattle.kb_memdisk.proofs.Places.{missed}
use Rattle.kb_memdisk.proofs.cells.touch.Goals as goal

pub add-requires-clause-absent : goal.add-requires-clause-absent
add-requires-clause-absent c = missed c.page.result _ _ c.page.ensures.found c.is_some.ensures c.if-is_some.false

pub returns-clause-pages : goal.returns-clause-pages
returns-clause-pages c = λ other. rw (missed c.page.result _ _ c.page.ensures.found c.is_some.ensures c.if-is_some.false) (c.add.ensures.pages other)
