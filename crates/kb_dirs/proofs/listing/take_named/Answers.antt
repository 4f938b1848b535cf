use Rattle.std.proofs.Common.{ap, sym, ◌∙◌, Some}
use Rattle.std.specs.List.{position}
use Rattle.kb_dirs.specs.declared.entries.Entry.{Entry}
use Rattle.kb_dirs.specs.Dirs.{is_named}
use Rattle.kb_dirs.proofs.Places.{finds, finds_none}
use Rattle.kb_dirs.proofs.listing.take_named.Goals as goal

pub returns-in-Some : goal.returns-in-Some
returns-in-Some c =
    let at = c.in-Some.ensures.place ∙ ap (position (is_named c.args.name.now)) c.deref.ensures.value in
    ap (λ (e : Entry). Some e) c.swap_remove.ensures.value ∙ sym (finds (is_named c.args.name.now) c.args.entries.items c.in-Some.place c.swap_remove.result (sym at))

pub returns : goal.returns
returns c =
    let at = c.in-None.ensures.place ∙ ap (position (is_named c.args.name.now)) c.deref.ensures.value in
    sym (finds_none (is_named c.args.name.now) c.args.entries.items (sym at))
