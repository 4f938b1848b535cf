use Rattle.std.proofs.Common.{◌≡◌, None, Some, Result, Ok, Err, refl, sym, ap, subst, ◌∙◌}
use Rattle.kb_world.specs.declared.branches.Resolution.{Resolution}
use Rattle.kb_device.specs.declared.settled.SettleFault.{SettleFault}
use Rattle.kb_folder.specs.Held.{held}
use Rattle.kb_world.specs.Branching.{Resolved}
use Rattle.kb_world.proofs.BranchTurns.{may, settles, unresolved}
use Rattle.kb_world.proofs.declared.Declared.settle.Goals as goal

pub returns-in-Err : goal.returns-in-Err
returns-in-Err g c seed names d chain m timed lawful meets few has h =
    let x = c.args.self.now in
    let number : c.args.number ≡ d = sym c.requires.numbered ∙ sym h.is.number ∙ h.part.number in
    unresolved seed names d (held c.args.folder.now) (held c.args.folder.now) chain x x m c.args.moment timed lawful meets few has h refl refl c.in-Err.fault
    (subst (λ k. let r : Result Resolution SettleFault = Err c.in-Err.fault in Resolved k x.name c.args.moment h.view.inside r) number (c.in-Err.ensures h.view h.is))

pub returns-in-Ok-settle : goal.returns-in-Ok-settle
returns-in-Ok-settle g c seed names d chain m timed lawful meets few has h =
    let x = c.args.self.now in
    let f = held c.args.folder.now in
    let f' = held c.settle.new.folder in
    let number : c.args.number ≡ d = sym c.requires.numbered ∙ sym h.is.number ∙ h.part.number in
    let made = c.in-Ok.made in
    let r = subst (λ k. Resolved k x.name c.args.moment h.view.inside (Ok made)) number (c.in-Ok.ensures h.view h.is) in
    let to = c.in-Ok-settle.ensures.goes seed names h.view h.is in
    let runs = c.settle.ensures.runs h.view seed names chain m.part h.is (may seed names d f f' chain x x m c.args.moment timed lawful meets few has h r.0 r.1 r.2 r.3.planned made.table.tree made.report r.3) in
    settles seed names d f f' chain x _ m c.args.moment timed lawful meets few has h r.0 r.1 r.2 r.3.planned made.table.tree made.report r.3 to.0 to.1 refl runs refl (Ok c.in-Ok-settle.number) to.2

pub returns-in-Err-settle : goal.returns-in-Err-settle
returns-in-Err-settle g c seed names d chain m timed lawful meets few has h =
    let x = c.args.self.now in
    let f = held c.args.folder.now in
    let f' = held c.settle.new.folder in
    let number : c.args.number ≡ d = sym c.requires.numbered ∙ sym h.is.number ∙ h.part.number in
    let made = c.in-Ok.made in
    let r = subst (λ k. Resolved k x.name c.args.moment h.view.inside (Ok made)) number (c.in-Ok.ensures h.view h.is) in
    let to = c.in-Err-settle.ensures.goes seed names h.view h.is in
    let runs = c.settle.ensures.runs h.view seed names chain m.part h.is (may seed names d f f' chain x x m c.args.moment timed lawful meets few has h r.0 r.1 r.2 r.3.planned made.table.tree made.report r.3) in
    settles seed names d f f' chain x _ m c.args.moment timed lawful meets few has h r.0 r.1 r.2 r.3.planned made.table.tree made.report r.3 to.0 to.1 refl runs refl (Err c.in-Err-settle.fault) to.2
