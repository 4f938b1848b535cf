use Rattle.std.proofs.Common.{◌≡◌, ◌<◌, length, get_or, sym, ap, ◌∙◌, arith}
use Rattle.std.proofs.lemmas.List.{get_or_default}
use Rattle.kb_memdisk.specs.Rows.{page_of}
use Rattle.kb_memdisk.proofs.Cuts.{cut_page_more, cut_all}
use Rattle.kb_memdisk.proofs.Seats.{not_there}
use Rattle.kb_memdisk.proofs.cells.cut_pages.Goals as goal

pub loop-index-preserved : goal.loop-index-preserved
loop-index-preserved c =
    let i = c.loop-index.invariant in
    let p = c.args.flags.now in
    let lt : c.loop-index.index < length p.order.items = omega (arith, c.loop-index-test.true, c.len-index-end.ensures, p.order.ok.0) in
    let at : get_or p.order.items c.loop-index.index 0 ≡ c.index.result.now = sym (c.index.ensures ∙ get_or_default p.order.items c.loop-index.index c.index.result.now 0 lt) in
    let seat : get_or p.seats.items c.index.result.now 0 ≡ c.loop-index.index = ap (λ q. get_or p.seats.items q 0) (sym at) ∙ p.are_pages.seated c.loop-index.index lt in
    record {
      picked = cut_page_more c.args.pick (page_of p) (page_of c.args.kept.now) (page_of c.loop-index.now) (page_of c.cut_page.new.now) (page_of c.args.now.now) p.seats.items p.order.items c.loop-index.index c.index.result.now lt at seat i.picked c.cut_page.ensures.picked;
      count = c.cut_page.ensures.count ∙ i.count;
    }

pub returns-clause-picked : goal.returns-clause-picked
returns-clause-picked c =
    let p = c.args.flags.now in
    cut_all c.args.pick (page_of p) (page_of c.args.kept.now) (page_of c.loop-index.now) (page_of c.args.now.now) p.seats.items p.order.items c.loop-index.index (omega (arith, c.loop-index-test.false, c.loop-index.auto.index-end, c.len-index-end.ensures, p.order.ok.0)) (not_there p.seats.items p.order.items p.bytes.items) c.loop-index.invariant.picked
