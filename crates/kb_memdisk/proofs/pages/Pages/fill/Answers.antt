use Rattle.std.proofs.Common.{replicate, arith, sym, ap, ◌+◌, ◌*◌, ◌∙◌}
use Rattle.std.proofs.lemmas.List.{length-replicate}
use Rattle.kb_memdisk.proofs.Seats.{some_there, seat_is, page_put, no_seat}
use Rattle.kb_memdisk.proofs.pages.Pages.fill.Goals as goal

pub unreachable-requires : goal.unreachable-requires
unreachable-requires c =
    let p = c.args.self.now in
    let there = some_there p.seats.items p.order.items p.bytes.items c.args.page c.requires.there in
    no_seat _ _ there (sym c.seat.ensures ∙ c.in_default.is)

pub returns-clause-pages : goal.returns-clause-pages
returns-clause-pages c =
    let p = c.args.self.now in
    let there = some_there p.seats.items p.order.items p.bytes.items c.args.page c.requires.there in
    let seat = seat_is _ _ _ there (sym c.seat.ensures ∙ c.in-Some.is) in
    page_put p.seats.items p.order.items p.bytes.items _ _ p.are_pages _ (512 * c.in-Some.seat + c.args.from) c.args.page c.args.from (replicate c.args.n c.args.value) there (omega (arith, c.requires.fits, length-replicate c.args.n c.args.value)) (ap (λ s. 512 * s + c.args.from) seat) c.fill_at.ensures.items
