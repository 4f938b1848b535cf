use Rattle.std.proofs.Common.{◌≡◌, ◌<◌, false, sym, subst}
use Rattle.std.proofs.Common.{cond}
use Rattle.std.specs.Prelude.{nat_le}
use Rattle.kb_device.specs.Noting.{Stops}
use Rattle.kb_device.specs.Views.{platter, read_of}
use Rattle.kb_device.specs.Pulling.{headed}
use Rattle.kb_device.proofs.Folds.{stops_of, above}
use Rattle.kb_device.proofs.opening.catch_up.Goals as goal

pub returns-in-Err-clause-stops : goal.returns-in-Err-clause-stops
returns-in-Err-clause-stops g c =
    let e = c.in-Err.ensures in
    let s = c.args.journal.state in
    let no : nat_le c.args.head.now.number s.known ≡ false = above c.args.head.now.number s.known (subst (λ n. n < c.args.head.now.number) c.known.ensures c.if-head-known.false) in
    subst (λ b. Stops s (cond b s (headed s (read_of c.args.head.now))) (platter g.D.Disk c.args.journal.disk) (platter g.D.Disk c.finish.result)) (sym no)
    (stops_of g.D.Disk s _ c.args.journal.disk c.note.new.self.disk c.finish.result c.finish.ensures e.every e.size e.spent)
