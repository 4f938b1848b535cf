use Rattle.std.proofs.Common.{ℕ, ◌-◌, ◌/◌, List, take, drop, sym, ap, subst, ◌∙◌, ◌≡◌, None, arith}
use Rattle.kb_log.specs.LogList.{list_of, has_magic, area_start}
use Rattle.kb_log.specs.State.{IsRead}
use Rattle.kb_log.specs.declared.faults.LogFault.TheVariants.{BadLog}
use Rattle.kb_log.proofs.Opened.{as_err, some_magic, no_magic, unlisted, opened_settled}
use Rattle.kb_log.proofs.area.Area.load.Goals as goal

pub returns-in_default-clause-bad : goal.returns-in_default-clause-bad
returns-in_default-clause-bad g c = λ _. no_magic (g.D.Disk.content c.args.disk.now) (sym c.in_default.is ∙ c.in_ok-start.ensures.start)

pub returns-in-Ok-clause-settled : goal.returns-in-Ok-clause-settled
returns-in-Ok-clause-settled g c =
    let before = g.D.Disk.content c.args.disk.now in
    let f = c.in_ok-start.ensures in
    let e = c.in-Ok.ensures in
    let m = some_magic (has_magic before) c.in-Some.start (area_start before) (sym c.in-Some.is ∙ f.start) in
    opened_settled before _ _ _ (e.content ∙ f.content) c.requires.low c.requires.high (λ place. e.dirty place ∙ f.clean place) m.0 m.1 (ap (λ (n : ℕ). (n - 16) / 2) c.size.ensures) (omega (arith, c.in_ok-text.ensures.exact, e.room))
    (subst (λ (l : List ℕ). IsRead (take ((c.size.result - 16) / 2) (drop c.in-Some.start l)) c.read_records.new.text.items) f.content e.read)

pub returns-in-Err-clause-bad : goal.returns-in-Err-clause-bad
returns-in-Err-clause-bad g c = λ is.
    let before = g.D.Disk.content c.args.disk.now in
    let f = c.in_ok-start.ensures in
    let m = some_magic (has_magic before) c.in-Some.start (area_start before) (sym c.in-Some.is ∙ f.start) in
    unlisted before c.in-Some.start ((c.size.result - 16) / 2) m.1 (ap (λ (n : ℕ). (n - 16) / 2) c.size.ensures)
    (subst (λ (l : List ℕ). list_of (take ((c.size.result - 16) / 2) (drop c.in-Some.start l)) ≡ None) f.content (c.read_records.ensures.bad (as_err c.in-Err.fault BadLog c.read_records.result c.in-Err.is is)))
