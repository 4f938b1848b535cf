use Rattle.std.proofs.Common.{inr, refl}
use Rattle.kb_log.specs.Pieces.{pieces}
use Rattle.kb_log.proofs.Resettled.{resettled, payloads_settled, image_list}
use Rattle.kb_log.proofs.Replaced.{replaced, replaced_size, replaced_either}
use Rattle.kb_log.proofs.area.Area.replace.Goals as goal

pub returns-in_err-write_area-clause-every : goal.returns-in_err-write_area-clause-every
returns-in_err-write_area-clause-every g c = λ image may.
    let o = c.other_area-other.ensures in
    replaced_either _ _ c.args.self.now c.requires.settled (pieces 0 c.args.bytes.now c.args.ends.now) c.requires.fits _ _ o.start o.selector image (c.in_err-write_area.ensures.stopped image may)

pub returns-clause-settled : goal.returns-clause-settled
returns-clause-settled g c =
    let o = c.other_area-other.ensures in
    let e = c.in_ok-write_area.ensures in
    let qs = pieces 0 c.args.bytes.now c.args.ends.now in
    let s = replaced _ _ c.args.self.now c.requires.settled qs c.requires.fits _ _ o.start o.selector _ _ e.written e.text in
    let size = replaced_size _ _ c.args.self.now c.requires.settled qs c.requires.fits _ _ o.start o.selector _ e.written in
    resettled _ _ _ _ c.args.self.now _ _ c.requires.settled size e.clean refl e.room s

pub returns-clause-payloads : goal.returns-clause-payloads
returns-clause-payloads g c =
    let o = c.other_area-other.ensures in
    let e = c.in_ok-write_area.ensures in
    let s = replaced _ _ c.args.self.now c.requires.settled (pieces 0 c.args.bytes.now c.args.ends.now) c.requires.fits _ _ o.start o.selector _ _ e.written e.text in
    payloads_settled _ _ _ _ s

pub returns-clause-durable : goal.returns-clause-durable
returns-clause-durable g c = λ image may.
    let o = c.other_area-other.ensures in
    let e = c.in_ok-write_area.ensures in
    let s = replaced _ _ c.args.self.now c.requires.settled (pieces 0 c.args.bytes.now c.args.ends.now) c.requires.fits _ _ o.start o.selector _ _ e.written e.text in
    image_list _ image _ _ may e.clean s.list

pub returns-clause-every : goal.returns-clause-every
returns-clause-every g c = λ image may.
    let o = c.other_area-other.ensures in
    let e = c.in_ok-write_area.ensures in
    let s = replaced _ _ c.args.self.now c.requires.settled (pieces 0 c.args.bytes.now c.args.ends.now) c.requires.fits _ _ o.start o.selector _ _ e.written e.text in
    inr (image_list _ image _ _ may e.clean s.list)
