use Rattle.std.proofs.Common.{◌≡◌, false, true, ◌/◌, pos, to_z, arith, w64, ◌∙◌, ap}
use Rattle.std.proofs.lemmas.Int.{to_z_pos}
use Rattle.kb_name.proofs.Days.{is_day, is_start, days_on, can_go_on}
use Rattle.kb_name.proofs.copies.day_of.Goals as goal

pub unreachable-requires : goal.unreachable-requires
unreachable-requires c =
    let n = c.seconds-days.result / 86_400 in
    let start = is_start c.date.result c.date.ensures.0 c.date.ensures.1 c.date.ensures.2 in
    let can = can_go_on c.date.result c.days.result (to_z w64 n) n start (to_z_pos w64 n (omega arith)) (omega arith) c.days.ensures in
    let no_more : false ≡ true = c.in-Err.ensures.succeeds.1 can in cc

pub returns : goal.returns
returns c =
    let n = c.seconds-days.result / 86_400 in
    let start = is_start c.date.result c.date.ensures.0 c.date.ensures.1 c.date.ensures.2 in
    let same = ap (λ s. pos (s / 86_400)) c.seconds-days.ensures.value in
    is_day c.args.moment c.in-Ok.day (omega arith)
    (c.in-Ok.ensures.value ∙ days_on c.date.result c.days.result (to_z w64 n) n start (to_z_pos w64 n (omega arith)) c.days.ensures ∙ same)
