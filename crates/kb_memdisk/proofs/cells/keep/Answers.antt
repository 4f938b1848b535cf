use Rattle.std.proofs.Common.{sym, ap, ◌∙◌}
use Rattle.std.specs.Option.{option_map}
use Rattle.kb_memdisk.specs.Rows.{page_of}
use Rattle.kb_memdisk.specs.Pages.{or_zeros}
use Rattle.kb_memdisk.proofs.Places.{missed, stable_kept}
use Rattle.kb_memdisk.proofs.cells.keep.Goals as goal

pub add-requires-in-None-clause-absent : goal.add-requires-in-None-clause-absent
add-requires-in-None-clause-absent c = missed c.page.result _ _ c.page.ensures.found c.is_some.ensures c.if-is_some.false

pub returns-in-Some-clause-stable : goal.returns-in-Some-clause-stable
returns-in-Some-clause-stable c =
    stable_kept (page_of c.args.now.now) (page_of c.args.kept.now) (page_of c.add.new.self) c.args.page c.in-Some.text.now (missed c.page.result _ _ c.page.ensures.found c.is_some.ensures c.if-is_some.false) c.add.ensures.pages (ap or_zeros (sym c.page-2.ensures.found ∙ ap (option_map (λ f. f.now)) c.in-Some.is))

pub returns-in-None-clause-stable : goal.returns-in-None-clause-stable
returns-in-None-clause-stable c =
    stable_kept (page_of c.args.now.now) (page_of c.args.kept.now) (page_of c.add-in-None.new.self) c.args.page _ (missed c.page.result _ _ c.page.ensures.found c.is_some.ensures c.if-is_some.false) c.add-in-None.ensures.pages (ap or_zeros (sym c.page-2.ensures.found ∙ ap (option_map (λ f. f.now)) c.in-None.is))
