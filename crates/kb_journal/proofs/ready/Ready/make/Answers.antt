use Rattle.std.proofs.Common.{◌≡◌, false, length, ap, sym, ◌∙◌, rules}
use Rattle.kb_log.specs.LogList.{lists_of, area_size}
use Rattle.kb_journal.specs.Held.{state_of}
use Rattle.kb_journal.specs.State.{is_whole}
use Rattle.kb_journal.proofs.Leading.{not_whole}
use Rattle.kb_journal.proofs.ready.Ready.make.Goals as goal

pub returns-then-not-is_whole-clause-bad : goal.returns-then-not-is_whole-clause-bad
returns-then-not-is_whole-clause-bad g c = λ is_bad s leads whole.
    let t = state_of c.in-Ok-fold.held in
    let answered : is_whole c.area-area.result t ≡ false = search rules in
    let barred : is_whole (area_size (length (g.D.Disk.content c.args.log.now.disk))) t ≡ false = ap (λ n. is_whole n t) (sym c.area-area.ensures.value) ∙ answered in
    not_whole (area_size (length (g.D.Disk.content c.args.log.now.disk))) (lists_of c.in-Ok.payloads.items) c.args.log.now.payloads s t c.in-Ok.ensures c.in-Ok-fold.ensures.ok barred leads whole
