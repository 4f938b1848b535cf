use Rattle.std.proofs.Common.{ap, sym, ◌∙◌, nat_cmp}
use Rattle.std.specs.Ordering.{is_lt}
use Rattle.std.specs.Cmp.Lexicographic.{slice_cmp}
use Rattle.kb_dirs.proofs.Orders.{above_last}
use Rattle.kb_dirs.proofs.decode.is_above.Goals as goal

pub returns-in-Some : goal.returns-in-Some
returns-in-Some c =
    let last = c.in-Some.last.now in
    c.is_less.ensures ∙ ap (λ n. is_lt (slice_cmp nat_cmp n c.bytes-in-Some.result.now)) c.bytes.ensures.value ∙ ap (λ n. is_lt (slice_cmp nat_cmp last.name n)) c.bytes-in-Some.ensures.value
    ∙ sym (above_last c.args.entries.now last c.args.name.now (sym c.in-Some.ensures.value))
