use Rattle.std.proofs.Common.{sym, ap, ◌∙◌}
use Rattle.std.specs.Option.{option_map}
use Rattle.kb_memdisk.specs.Rows.{page_of}
use Rattle.kb_memdisk.proofs.Places.{read_text, read_zeros}
use Rattle.kb_memdisk.proofs.cells.read_part.Goals as goal

pub returns-in-Some-clause-read : goal.returns-in-Some-clause-read
returns-in-Some-clause-read c =
    read_text (page_of c.args.now.now) c.args.place c.args.n c.args.done c.in-Some.text.now c.args.into.now _ (sym c.page.ensures.found ∙ ap (option_map (λ f. f.now)) c.in-Some.is) c.in-Some.ensures.size c.requires.fits c.requires.room c.put_over.ensures

pub returns-in-None-clause-read : goal.returns-in-None-clause-read
returns-in-None-clause-read c =
    read_zeros (page_of c.args.now.now) c.args.place c.args.n c.args.done c.args.into.now _ (sym c.page.ensures.found ∙ ap (option_map (λ f. f.now)) c.in-None.is) c.requires.fits c.requires.room c.clear_part.ensures
