use Rattle.std.proofs.Common.{sym, ap, ◌∙◌}
use Rattle.kb_world.specs.Printed.{shown_line}
use Rattle.kb_world.specs.Told.{told_look}
use Rattle.kb_world.proofs.Acts.{looks_at}
use Rattle.kb_world.proofs.Borrows.{at_number, if_ok}
use Rattle.kb_world.proofs.world.World.look.Goals as goal

pub returns : goal.returns
returns g c =
    let found = at_number c.args.self.now.devices.items c.args.number c.index-declared.result.now c.requires.0 c.requires.1 c.index-declared.ensures in
    if_ok c.shown_line.result _ _ _ (λ line is some. looks_at c.args.self.now c.args.number c.index-declared.result.now c.requires.0 found c.args.show.now c.show-answer.result line (is ∙ ap (λ k. shown_line k (told_look c.show-answer.result)) c.in_ok-name.ensures.cases) some c.show-answer.ensures.goes) c.shown_line.ensures.line c.shown_line.ensures.answer
