use Rattle.std.proofs.Common.{arith, refl}
use Rattle.std.proofs.lemmas.Grind.{common_steps}
use Rattle.kb_memdisk.proofs.Seats.{none_there, few, room_for, are_added, page_added}
use Rattle.kb_memdisk.proofs.pages.Pages.add.Goals as goal

pub overflow_cast-len : goal.overflow_cast-len
overflow_cast-len c =
    let p = c.args.self.now in
    let most = few p.seats.items p.order.items p.are_pages.inside p.are_pages.seated in
    grind (arith, most, p.are_pages.small, c.len.ensures, p.order.ok.0)

pub push_on-requires : goal.push_on-requires
push_on-requires c =
    let p = c.args.self.now in
    let none = none_there p.seats.items p.order.items p.bytes.items c.args.page c.requires.absent in
    omega (arith, p.are_pages.order_space, room_for p.seats.items p.order.items _ _ _ p.are_pages c.args.page c.requires.inside none)

pub append_on-requires : goal.append_on-requires
append_on-requires c =
    let p = c.args.self.now in
    let none = none_there p.seats.items p.order.items p.bytes.items c.args.page c.requires.absent in
    omega (arith, p.are_pages.bytes_space, p.are_pages.size, c.requires.size, room_for p.seats.items p.order.items _ _ _ p.are_pages c.args.page c.requires.inside none)

pub invariant_of-self : goal.invariant_of-self
invariant_of-self c =
    let p = c.args.self.now in
    let none = none_there p.seats.items p.order.items p.bytes.items c.args.page c.requires.absent in
    record { are_pages = are_added p.seats.items p.order.items _ _ _ p.are_pages c.args.page c.requires.inside none _ _ _ _ _ (omega (arith, c.len.ensures, p.order.ok.0)) c.push_on.ensures.items (grind (arith, common_steps, c.append_on.ensures.items, c.requires.size)) c.push_on.ensures.room c.append_on.ensures.room }

pub returns-clause-pages : goal.returns-clause-pages
returns-clause-pages c =
    let p = c.args.self.now in
    let none = none_there p.seats.items p.order.items p.bytes.items c.args.page c.requires.absent in
    page_added p.seats.items p.order.items _ _ _ p.are_pages c.args.page c.requires.inside none _ _ _ p.bytes.items c.args.text.now refl c.requires.size (omega (arith, c.len.ensures, p.order.ok.0)) c.push_on.ensures.items c.append_on.ensures.items
