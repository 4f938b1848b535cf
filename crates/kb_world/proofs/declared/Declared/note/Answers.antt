use Rattle.std.proofs.Common.{◌≡◌, true, false, Some, None, Ok, Err, refl, sym, ap, ◌∙◌, subst}
use Rattle.kb_world.proofs.Turns.{notes, notes_none}
use Rattle.kb_world.proofs.declared.Declared.note.Goals as goal

pub returns-in_default : goal.returns-in_default
returns-in_default g c f seed names d chain m lawful meets has h =
    notes_none seed names d f chain c.args.self.now _ m meets has h refl c.requires refl c.status-status.result (λ v p is stands. c.status-status.ensures.goes seed names v f chain p is stands) c.in_default.not-Answer refl c.noteless.result c.noteless.ensures

pub returns : goal.returns
returns g c f seed names d chain m lawful meets has h =
    let to = c.note-noted.ensures.goes seed names h.view h.is in
    notes seed names d f chain c.args.self.now _ m meets has h refl c.note-noted.ensures.runs refl to.0 to.1 c.in-Answer.answer c.note-noted.result to.2 c.in-Answer.is refl
